-- Rounds of gathering. A round takes the entries of the range from a key on behind the values that are there, as many as there is room for;
-- without its delete marks they go on with the range behind its last key.
use Prim.Native.Nat.{ℕ, zero, suc, ◌+◌, ◌-◌, ◌≤◌, ◌<◌, max, min}
use mathlib.Core.Path.{◌≡◌, refl, sym, ◌∙◌, ap}
use mathlib.Core.List.{List, [], ◌∷◌, ◌++◌, append_assoc, append-nil}
use mathlib.Core.Option.{none}
use native.Mathlib.Omega.{arith}
use borrow.Author.Tests.{ltb-true, ltb-false, lt-ltb}
use lib.Dec.{ltb}
use lib.ListN.{length, take, drop, get_or, length-append, length-take, take-append-drop, drop_of_length-le}
use lib.Seq.{take_all, take-take, take-append_seam, drop-append_seam, drop-append-le, get_or-take, get_or-append-add}
use Rattle.table.specs.Entry.{Entry}
use Rattle.table.specs.Valid.{Keys}
use Rattle.ldc.specs.Lists.{keep}
use Rattle.ldc.specs.Store.{within}
use Rattle.ldc.specs.Memtable.{put}
use Rattle.ldc.specs.Read.{newer, gather, holds_value}
use Rattle.ldc.proofs.Basics.Cases.{cases}
use Rattle.ldc.proofs.Basics.ListLaws.{get_d_map}
use Rattle.ldc.proofs.Entries.Keys.{AllKeys, keys-lower, keys-higher, keys-keep, keys-within, keys-gather, head-below}
use Rattle.ldc.proofs.Steps.Apart.{keep_append}
use Rattle.read_gather.specs.Gathered.{key_of, Gathers}
use Rattle.read_gather.specs.Sources.{gather_on, ranges}
use Rattle.read_gather.specs.Order.{up_to}
use Rattle.read_gather.proofs.Intake.{within-gather}
use Rattle.read_gather.proofs.Scans.{widen, on-gather, gather-apart}
use Rattle.read_gather.proofs.Steps.{within-within}
use Rattle.read_gather.proofs.Narrow.{gathered-long}
use Rattle.read_gather.proofs.Within.{below-range, no-range, within_all, within-append}
use Rattle.read_iterator.specs.Values.{values_from}

-- ---- rising entries, put together and taken apart

keys-append : (low mid high : ℕ) (xs ys : List Entry) → Keys low mid xs → Keys mid high ys → Keys low high (xs ++ ys)
keys-append low mid high [] ys hx hy = keys-lower mid low high ys hx hy
keys-append low mid high (x ∷ xs) ys hx hy = (hx.0, keys-append (suc x.key) mid high xs ys hx.1 hy)

-- An entry's key, and those before and behind it.
keys-at : (low high : ℕ) (es : List Entry) (i : ℕ) (d : Entry) → Keys low high es → i < length es → (low ≤ (get_or es i d).key) × ((get_or es i d).key < high)
keys-at low high [] i d h l = absurd (omega arith)
keys-at low high (e ∷ es) zero d h l = (h.0, head-below low high e es h)
keys-at low high (e ∷ es) (suc i) d h l = let r = keys-at (suc e.key) high es i d h.1 (omega arith) in (omega (arith, h.0, r.0), r.1)

keys-to : (low high : ℕ) (es : List Entry) (i : ℕ) (d : Entry) → Keys low high es → i < length es → Keys low (suc (get_or es i d).key) (take (suc i) es)
keys-to low high [] i d h l = absurd (omega arith)
keys-to low high (e ∷ es) zero d h l = (h.0, omega arith)
keys-to low high (e ∷ es) (suc i) d h l = (h.0, keys-to (suc e.key) high es i d h.1 (omega arith))

keys-behind : (low high : ℕ) (es : List Entry) (i : ℕ) (d : Entry) → Keys low high es → i < length es → Keys (suc (get_or es i d).key) high (drop (suc i) es)
keys-behind low high [] i d h l = absurd (omega arith)
keys-behind low high (e ∷ es) zero d h l = h.1
keys-behind low high (e ∷ es) (suc i) d h l = keys-behind (suc e.key) high es i d h.1 (omega arith)

-- ---- behind what is there

put-below : (e : Entry) (high : ℕ) (es : List Entry) → Keys (suc e.key) high es → put e es ≡ e ∷ es
put-below e high [] h = refl
put-below e high (f ∷ es) h = rw (lt-ltb e.key f.key h.0)

newer-below : (low mid high : ℕ) (xs ys : List Entry) → Keys low mid xs → Keys mid high ys → newer xs ys ≡ xs ++ ys
newer-below low mid high [] ys hx hy = refl
newer-below low mid high (x ∷ xs) ys hx hy =
    ap (put x) (newer-below (suc x.key) mid high xs ys hx.1 hy)
    ∙ put-below x high (xs ++ ys) (keys-append (suc x.key) mid high xs ys hx.1 hy)

ranges-keys : (low high from to : ℕ) (xss : List (List Entry)) → low ≤ suc high → AllKeys from to xss → AllKeys low (suc high) (ranges low high xss)
ranges-keys low high from to [] o h = o
ranges-keys low high from to (xs ∷ xss) o h = (keys-within from to low high xs o h.0, ranges-keys low high from to xss o h.1)

pub on-behind : (n low high from to : ℕ) (xss : List (List Entry)) (es : List Entry) → low ≤ suc high → AllKeys from to xss → Keys 0 low es → length es ≤ n
    → gather_on n (ranges low high xss) es ≡ take n (es ++ within low high (gather xss))
on-behind n low high from to xss es o h he few =
    let R : List (List Entry) = ranges low high xss in
    let r = ranges-keys low high from to xss o h in
    let apart : newer es (gather (R ++ [])) ≡ gather (R ++ (es ∷ [])) = gather-apart 0 low (suc high) (es ∷ []) R [] (he, omega arith) r (omega arith) in
    let below : newer es (gather R) ≡ es ++ gather R = newer-below 0 low (suc high) es (gather R) he (keys-gather low (suc high) R r) in
    ap (gather_on n R) (sym (take_all n es few))
    ∙ on-gather n 0 (suc high) R es (widen low 0 (suc high) (suc high) R (omega arith) (omega arith) r) (keys-higher 0 low (suc high) es o he)
    ∙ ap (take n) (sym apart ∙ ap (λ (yss : List (List Entry)). newer es (gather yss)) (append-nil R) ∙ below
    ∙ ap (λ (ys : List Entry). es ++ ys) (sym (within-gather low high from to xss h)))

-- ---- one round

module _ (kept L : ℕ) (had more : List Entry) (size : length had ≡ kept) (room : kept ≤ L) where
  front : take kept (take L (had ++ more)) ≡ had
  front = take-take kept L (had ++ more) room ∙ ap (λ n. take n (had ++ more)) (sym size) ∙ take-append_seam had more

  parts : more ≡ drop kept (take L (had ++ more)) ++ drop L (had ++ more)
  parts =
      let enough : kept ≤ length (take L (had ++ more)) = rw (length-take L (had ++ more)) (omega (arith, length-append had more)) in
      sym (sym (drop-append-le kept (take L (had ++ more)) (drop L (had ++ more)) enough) ∙ ap (drop kept) (take-append-drop L (had ++ more))
      ∙ ap (λ n. drop n (had ++ more)) (sym size) ∙ drop-append_seam had more)

  -- The values of all are those of the round and those of what is behind it.
  pub values-parts : had ++ keep holds_value more ≡ values_from kept (take L (had ++ more)) ++ keep holds_value (drop L (had ++ more))
  unfolding values_from
  values-parts =
      let es : List Entry = take L (had ++ more) in
      let rest : List Entry = drop L (had ++ more) in
      ap (λ (xs : List Entry). had ++ keep holds_value xs) parts
      ∙ ap (λ (xs : List Entry). had ++ xs) (keep_append holds_value (drop kept es) rest)
      ∙ sym (append_assoc had (keep holds_value (drop kept es)) (keep holds_value rest))
      ∙ ap (λ (xs : List Entry). (xs ++ keep holds_value (drop kept es)) ++ keep holds_value rest) (sym front)

pub values-keys : (i low high : ℕ) (es : List Entry) → Keys low high es → Keys low high (values_from i es)
unfolding values_from
values-keys zero low high es h = keys-keep low high holds_value es h
values-keys (suc i) low high [] h = h
values-keys (suc i) low high (e ∷ es) h = (h.0, values-keys i (suc e.key) high es h.1)

-- Where a round ends: at the end of the range, or at the last key that there was room for. What is beyond it is the range behind that key.
pub record Ends (low high : ℕ) (all had : List Entry) (size at : ℕ) : Type 0 where
  pub from : low ≤ at
  pub to : at ≤ high
  pub keys : Keys 0 (suc at) (take size (had ++ within low high all))
  pub behind : drop size (had ++ within low high all) ≡ within (suc at) high all

no_entry : Entry
no_entry = record { key = 0; value = none }

module _ (all : List Entry) (top : ℕ) (rising : Keys 0 top all) (low high : ℕ) (order : low ≤ high) (had : List Entry) (below : Keys 0 low had) where
  abbrev more : List Entry
  more = within low high all

  more-keys : Keys low (suc high) more
  more-keys = keys-within 0 top low high all (omega arith) rising

  both-keys : Keys 0 (suc high) (had ++ more)
  both-keys = keys-append 0 low (suc high) had more below more-keys

  -- All of the range.
  ends-all : (size : ℕ) → length (had ++ more) ≤ size → Ends low high all had size high
  ends-all size h = record {
    from = order;
    to = omega arith;
    keys = rw (take_all size (had ++ more) h) both-keys;
    behind = drop_of_length-le (had ++ more) {i = size} h ∙ sym (no-range (suc high) high all (omega arith));
  }

  -- No room for more.
  module _ (m : ℕ) (few : length had ≤ m) (many : m < length (had ++ more)) where
    abbrev at : ℕ
    at = (get_or (had ++ more) m no_entry).key

    from_low : (j : ℕ) → m ≡ length had + j → low ≤ at
    from_low j e =
        let same : at ≡ (get_or more j no_entry).key = ap key_of (ap (λ (i : ℕ). get_or (had ++ more) i no_entry) e ∙ get_or-append-add had more j no_entry) in
        omega (arith, same, (keys-at low (suc high) more j no_entry more-keys (omega (arith, length-append had more))).0)

    ends-full : Ends low high all had (suc m) at
    ends-full =
        let first : low ≤ at = from_low (m - length had) (omega arith) in
        let last = (keys-at 0 (suc high) (had ++ more) m no_entry both-keys many).1 in
        let to : Keys 0 (suc at) (take (suc m) (had ++ more)) = keys-to 0 (suc high) (had ++ more) m no_entry both-keys many in
        let rest : Keys (suc at) (suc high) (drop (suc m) (had ++ more)) = keys-behind 0 (suc high) (had ++ more) m no_entry both-keys many in
        let none : within (suc at) high had ≡ [] = below-range (suc at) high 0 low had below (omega arith) in
        let same : within (suc at) high more ≡ within (suc at) high all =
        within-within (suc at) high low high all ∙ ap (λ n. within n (min high high) all) (let e : max (suc at) low ≡ suc at = omega arith in e)
        ∙ ap (λ n. within (suc at) n all) (let e : min high high ≡ high = omega arith in e) in
        let one : within (suc at) high (had ++ more) ≡ within (suc at) high all =
        within-append (suc at) high had more ∙ ap (λ (xs : List Entry). xs ++ within (suc at) high more) none ∙ same in
        let two : within (suc at) high (had ++ more) ≡ drop (suc m) (had ++ more) =
        ap (within (suc at) high) (sym (take-append-drop (suc m) (had ++ more)))
        ∙ within-append (suc at) high (take (suc m) (had ++ more)) (drop (suc m) (had ++ more))
        ∙ ap (λ (xs : List Entry). xs ++ within (suc at) high (drop (suc m) (had ++ more))) (below-range (suc at) high 0 (suc at) (take (suc m) (had ++ more)) to (omega arith))
        ∙ within_all (suc at) (suc at) high (drop (suc m) (had ++ more)) rest (omega arith) in
        record { from = first; to = omega arith; keys = to; behind = sym two ∙ one }

  -- In the arrays.
  module _ (bytes keys spots : List ℕ) (used : ℕ) (room : length had < length keys) (g : Gathers bytes keys spots used (take (length keys) (had ++ more))) where
    counted : min (length keys) (length (had ++ more)) ≡ used
    counted = sym (length-take (length keys) (had ++ more)) ∙ gathered-long bytes keys spots used (take (length keys) (had ++ more)) g

    last-key : used ≡ length keys → get_or keys (used - 1) 0 ≡ (get_or (had ++ more) (used - 1) no_entry).key
    last-key e =
        let es : List Entry = take (length keys) (had ++ more) in
        let i : ℕ = used - 1 in
        sym (get_or-take used keys i 0 (omega arith)) ∙ ap (λ (ks : List ℕ). get_or ks i 0) g.keyed
        ∙ get_d_map key_of es i no_entry 0 (omega (arith, gathered-long bytes keys spots used es g)) ∙ ap key_of (get_or-take (length keys) (had ++ more) i no_entry (omega arith))

    pub round-ends : Ends low high all had (length keys) (up_to keys used high)
    unfolding up_to
    round-ends =
        cases (ltb used (length keys))
        (λ q. let l = ltb-true used (length keys) q in rw q (ends-all (length keys) (omega (arith, counted))))
        (λ q. let e : used ≡ length keys = omega (arith, ltb-false used (length keys) q, g.inside) in
        let up : suc (used - 1) ≡ length keys = omega arith in
        let f = ends-full (used - 1) (omega arith) (omega (arith, counted)) in
        let at : min high (get_or keys (used - 1) 0) ≡ (get_or (had ++ more) (used - 1) no_entry).key = rw (last-key e) (omega (arith, f.to)) in
        rw (q, at, sym up) f)
