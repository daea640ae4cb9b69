-- What a level gives, with one table taken out and read after it: the same, since in level 0 it is the oldest, and in the other levels
-- no table behind it holds its keys.
use Prim.Native.Nat.{ℕ, zero, suc}
use mathlib.Core.Path.{◌≡◌, refl, ◌∙◌, ap}
use mathlib.Core.List.{List, [], ◌∷◌, ◌++◌, Memᴰ}
use mathlib.Core.Option.{Option}
use borrow.Author.Tests.{eq-eqb}
use Rattle.table.specs.Entry.{Entry}
use Rattle.table.specs.Search.{find}
use Rattle.ldc.specs.Store.{Store, level, links, table}
use Rattle.ldc.specs.Steps.{replaced}
use Rattle.ldc.proofs.Stores.Facts.{listed-readable, level-spans}
use Rattle.ldc.proofs.Entries.Finds.{or_else}
use Rattle.ldc.proofs.Stores.Order.{newest, given, bare-sources, oldest-out, table-out}
use Rattle.ldc.proofs.Basics.Replaced.{split}
use Rattle.ldc.proofs.Stores.Sound.{Sound}
use Rattle.ldc.proofs.Stores.Spans.{Readable, reads}
use Rattle.ldc.specs.Facts.{Spans, Oldest}

-- What a level gives to a key without one of its tables.
abbrev pub given_but : Store → (level place key : ℕ) → Option Entry
given_but s zero p k = find k (newest s (replaced p [] (level s 0)))
given_but s (suc n) p k = find k (reads s (replaced p [] (level s (suc n))))

pub taken_out : (s : Store) → Sound s → (n p : ℕ) → Memᴰ p (level s n) → links s p ≡ [] → Oldest s n p → (k : ℕ) (rest : Option Entry)
    → or_else (given s n k) rest ≡ or_else (given_but s n p k) (or_else (find k (table s p)) rest)
taken_out s S zero p m bare oldest k rest =
    let o = oldest refl in
    rw (o.1, eq-eqb p p refl) (oldest-out s k p o.0 rest)
taken_out s S (suc n) p m bare oldest k rest =
    let r = split p (level s (suc n)) m in
    let sp : Spans s 0 (r.front ++ (p ∷ r.back)) = rw r.whole at (level-spans s S n) in
    let rd : (q : ℕ) → Memᴰ q (r.front ++ (p ∷ r.back)) → Readable s q = λ q h. listed-readable s S (suc n) q (rw (← r.whole) at h) in
    rw (r.other [])
    (ap (λ (ps : List ℕ). or_else (find k (reads s ps)) rest) r.whole
    ∙ table-out s k 0 p r.front r.back rest rd sp
    ∙ ap (λ (es : List Entry). or_else (find k (reads s (r.front ++ r.back))) (or_else (find k es) rest)) (bare-sources s p bare))
