-- What is opened of a table: the frozen table of a link whose range holds the key, and the table itself where its span does.
use Prim.Native.Nat.{ℕ, ◌≤◌, ◌<◌}
use mathlib.Core.Path.{◌≡◌, refl, sym, ◌∙◌, ap}
use mathlib.Core.List.{List, [], ◌∷◌, reverse}
use mathlib.Core.Bool.{true, false, cond, ◌||◌}
use native.Mathlib.Omega.{arith}
use lib.ListN.{length, length-reverse}
use borrow.Author.Tests.{eqb-true}
use lib.Dec.{eqb}
use Rattle.ldc.specs.Store.{Link, Store, links, span_holds}
use Rattle.ldc.specs.Layout.{most_places}
use Rattle.ldc.specs.Probe.{range_holds, opened_of, bits_in}
use Rattle.ldc.proofs.Basics.Cases.{cases}
use Rattle.ldc.proofs.Stores.Spans.{Readable}
use Rattle.book.specs.Rows.{shown_by}
use Rattle.read.specs.Shown.{Legible}
use Rattle.read.proofs.Hits.{hit-some}
use Rattle.read.proofs.Shows.{links-long}
use Rattle.read_get.specs.Opens.{the_hit, Opens, ranges}
use Rattle.read_get.specs.declared.opened.Opened.{Opened}
use Rattle.read_get.proofs.Opening.{Idle, opens-none}
use Rattle.read_get.proofs.Asking.{few-ranges, own-outside}

pub no_length : (xs : List ℕ) → length xs ≡ 0 → xs ≡ []
no_length [] h = refl
no_length (x ∷ xs) h = absurd (omega arith)

module _ (area : List ℕ) (cards : List (List ℕ)) (k : ℕ) where
  abbrev S : Store
  S = shown_by area cards

  -- ---- a link

  pub range-in : (l : Link) (r : Opened) → range_holds k l ≡ true → Opens area cards k (l.place ∷ []) r → Opens area cards k (ranges k (l ∷ [])) r
  range-in l r h o = rw h o

  pub range-out : (l : Link) (r : Opened) → range_holds k l ≡ false → Idle r → Opens area cards k (ranges k (l ∷ [])) r
  range-out l r h i = rw h (opens-none area cards k r i)

  -- A table has few.
  pub few-linked : Legible area cards → (p : ℕ) → p < length cards → length (ranges k (reverse (links S p))) ≤ most_places
  few-linked g p h =
      omega (arith, few-ranges k (reverse (links S p)), length-reverse (links S p), links-long area cards g p h, g.counted p h)

  -- ---- the table itself

  module _ (p : ℕ) where
    abbrev own : List ℕ
    own = cond (span_holds S p k) (p ∷ []) []

    pub few-own : length own ≤ most_places
    few-own = cases (span_holds S p k) (λ q. rw q (omega arith)) (λ q. rw q (omega arith))

    pub own_in : (r : Opened) → span_holds S p k ≡ true → Opens area cards k (p ∷ []) r → Opens area cards k own r
    own_in r h o = rw h o

    pub own_out : (r : Opened) → span_holds S p k ≡ false → Idle r → Opens area cards k own r
    own_out r h i = rw h (opens-none area cards k r i)

    -- What is found there is a key that the span holds.
    own-met : (r : Opened) → Readable S p → Opens area cards k (p ∷ []) r → r.found ≡ true → Opens area cards k own r
    own-met r e o h =
        cases (span_holds S p k)
        (λ y. own_in r y o)
        (λ n. absurd (hit-some area _ (the_hit r) r.place r.at o.found (rw h) (own-outside S k p e n)))

    -- A table that was not opened counts neither way.
    own_shut : (r : Opened) → Opens area cards k (p ∷ []) r → r.found ≡ false → r.tables ≡ 0 → Opens area cards k own r
    own_shut r o h n =
        let shut : opened_of S k (p ∷ []) ≡ [] = no_length (opened_of S k (p ∷ [])) (sym o.tables ∙ n) in
        cases (span_holds S p k)
        (λ y. own_in r y o)
        (λ m. own_out r m (record { missed = h; tables = n; bits = o.bits ∙ ap (bits_in S) shut }))

    -- Found or not opened, it is settled without the span.
    pub own-settled : (r : Opened) → Readable S p → Opens area cards k (p ∷ []) r → (r.found || eqb r.tables 0) ≡ true → Opens area cards k own r
    own-settled r e o h =
        cases r.found
        (λ y. own-met r e o y)
        (λ n. own_shut r o n (eqb-true r.tables 0 (rw n at h)))
