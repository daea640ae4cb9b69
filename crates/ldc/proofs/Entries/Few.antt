-- How many entries there are in a range, and how many can come together: what is kept of a list is no longer than it, and what is gathered
-- of lists no longer than all of them.
-- Lists of entries that are all valid have sixteen each.
use Prim.Native.Nat.{ℕ, suc, ◌*◌, ◌+◌, ◌≤◌, ◌^◌}
use mathlib.Core.Path.{◌≡◌, refl, ap}
use mathlib.Core.Bool.{Bool, ◌&&◌}
use mathlib.Core.List.{List, [], ◌∷◌, ◌++◌}
use native.Mathlib.Omega.{arith}
use lib.Dec.{leb, ltb, eqb}
use lib.ListN.{length}
use Rattle.table.specs.Limits.{table_limit}
use Rattle.table.specs.Entry.{Entry}
use Rattle.table.specs.Search.{count_within}
use Rattle.table.specs.Valid.{Valid}
use Rattle.ldc.specs.Lists.{keep}
use Rattle.ldc.specs.Store.{within}
use Rattle.ldc.specs.Memtable.{put}
use Rattle.ldc.specs.Read.{newer, gather}
use Rattle.ldc.proofs.Basics.Cases.{cases}
use Rattle.ldc.proofs.Entries.Keys.{AllKeys, AllValues, keys-keep, values-keep}

-- ---- how many there are

pub keep-few : (test : Entry → Bool) (es : List Entry) → length (keep test es) ≤ length es
keep-few test [] = omega arith
keep-few test (e ∷ es) =
    let r = keep-few test es in cases (test e) (λ q. rw q (omega arith)) (λ q. rw q (omega arith))

-- Those of a range, counted as `table` counts them.
pub count-within : (low high : ℕ) (es : List Entry) → count_within low high es ≡ length (within low high es)
unfolding count_within within
count-within low high [] = refl
count-within low high (e ∷ es) =
    let r = count-within low high es in
    cases (leb low e.key && leb e.key high) (λ q. rw q (ap suc r)) (λ q. rw q r)

put-few : (e : Entry) (es : List Entry) → length (put e es) ≤ suc (length es)
put-few e [] = omega arith
put-few e (f ∷ es) =
    let r = put-few e es in
    cases (ltb e.key f.key) (λ q. rw q (omega arith))
    (λ q. cases (eqb e.key f.key) (λ t. rw (q, t) (omega arith)) (λ t. rw (q, t) (omega arith)))

newer-few : (xs ys : List Entry) → length (newer xs ys) ≤ length xs + length ys
newer-few [] ys = omega arith
newer-few (e ∷ es) ys = omega (arith, put-few e (newer es ys), newer-few es ys)

-- ---- all of them valid

abbrev pub AllValid : List (List Entry) → Type 0
AllValid [] = Unit {0}
AllValid (es ∷ rest) = Valid es × AllValid rest

pub gather-few : (xss : List (List Entry)) → AllValid xss → length (gather xss) ≤ table_limit * length xss
gather-few [] h = omega arith
gather-few (es ∷ rest) h = omega (arith, newer-few es (gather rest), gather-few rest h.1, h.0.few)

pub valid-keys : (xss : List (List Entry)) → AllValid xss → AllKeys 0 (2 ^ 64) xss
valid-keys [] h = omega arith
valid-keys (es ∷ rest) h = (h.0.keys, valid-keys rest h.1)

pub valid-values : (xss : List (List Entry)) → AllValid xss → AllValues xss
valid-values [] h = tt
valid-values (es ∷ rest) h = (h.0.values, valid-values rest h.1)

pub valid-append : (xss yss : List (List Entry)) → AllValid xss → AllValid yss → AllValid (xss ++ yss)
valid-append [] yss h k = k
valid-append (es ∷ xss) yss h k = (h.0, valid-append xss yss h.1 k)

pub valid-within : (low high : ℕ) (es : List Entry) → Valid es → Valid (within low high es)
unfolding within
valid-within low high es v =
    record {
      keys = keys-keep 0 (2 ^ 64) (λ e. leb low e.key && leb e.key high) es v.keys;
      values = values-keep (λ e. leb low e.key && leb e.key high) es v.values;
      few = omega (arith, keep-few (λ e. leb low e.key && leb e.key high) es, v.few);
    }
