-- The number of a history with an opening in it: each number by its tests, and what 0 says. By the cases of the definition.
use Prim.Native.Nat.{ℕ, ◌*◌, ◌≤◌, ◌<◌}
use mathlib.Core.Path.{◌≡◌, sym, ◌∙◌}
use mathlib.Core.Bool.{Bool, true, false, ◌&&◌}
use mathlib.Core.List.{List, []}
use native.Mathlib.Omega.{arith}
use borrow.Author.Tests.{eqb-true, leb-true, ltb-false, lt-ltb, le-ltb}
use lib.Dec.{eqb, ltb, leb}
use lib.ListN.{length, replicate, length-replicate}
use Rattle.table.specs.Limits.{place_size}
use Rattle.table.proofs.Tests.{and_parts}
use Rattle.ldc.specs.Rules.{threshold_good}
use Rattle.ldc.specs.Layout.{fewest_places, most_places, level_count}
use Rattle.ldc.specs.Lent.{Lent, sizes_good}
use Rattle.ldc.specs.Run.{accepted, wrong_sizes, bad_threshold, short_answer}
use Rattle.ldc.proofs.Basics.Cases.{cases}
use Rattle.ldc.proofs.Lent.Shows.{sizes}
use Rattle.book.specs.Pieces.{lent}
use Rattle.saved_book.specs.Calls.{longest_book}
use Rattle.history_grown.specs.Grown.{Handed, grown_number}

-- ---- by its tests

-- The test of number 1.
abbrev pub sized : Handed → (first : ℕ) → Bool
sized h first =
    sizes_good h.lent
    && (eqb (length h.working) (length h.lent.cards) && (leb fewest_places first && leb first (length h.lent.cards)))

-- Only the numbers matter.
pub sized_same : (h : Handed) (first cards working : ℕ) (good : Bool) → good ≡ sizes_good h.lent → length h.lent.cards ≡ cards
    → length h.working ≡ working
    → (good && (eqb working cards && (leb fewest_places first && leb first cards))) ≡ sized h first
sized_same h first cards working good g c w = rw (g, c, w)

module _ (h : Handed) (t first : ℕ) where
  pub number-sizes : sized h first ≡ false → wrong_sizes ≡ grown_number h t first
  unfolding grown_number
  number-sizes e = rw e

  module _ (e : sized h first ≡ true) where
    pub number-threshold : threshold_good t ≡ false → bad_threshold ≡ grown_number h t first
    unfolding grown_number
    number-threshold g = rw (e, g)

    pub number_short : threshold_good t ≡ true → length h.buffer < longest_book first → short_answer ≡ grown_number h t first
    unfolding grown_number
    number_short g l = rw (e, g, lt-ltb _ _ l)

    pub number-zero : threshold_good t ≡ true → longest_book first ≤ length h.buffer → accepted ≡ grown_number h t first
    unfolding grown_number
    number-zero g l = rw (e, g, le-ltb _ _ l)

-- Good sizes are those of at most 4,096 cards.
pub few-cards : (area cards lists : ℕ) (good : Bool)
    → ((m : Lent) → length m.area ≡ area → length m.cards ≡ cards → length m.lists ≡ lists → good ≡ sizes_good m)
    → good ≡ true → cards ≤ most_places
few-cards area cards lists good says q =
    let m : Lent = lent (replicate area 0) (replicate cards []) (replicate lists 0) [] [] in
    let z : sizes_good m ≡ true =
    sym (says m (length-replicate area 0) (length-replicate cards []) (length-replicate lists 0)) ∙ q in
    omega (arith, (sizes m z).cards, (sizes m z).most, length-replicate {A = List ℕ} cards [])

-- ---- what 0 says

pub record Granted (m : Lent) (buffer : List ℕ) (working : List (List ℕ)) (t first : ℕ) : Type 0 where
  pub sizes : sizes_good m ≡ true
  pub rows : length working ≡ length m.cards
  pub fewest : fewest_places ≤ first
  pub all : first ≤ length m.cards
  pub threshold : threshold_good t ≡ true
  pub room : longest_book first ≤ length buffer

pub granted : (h : Handed) (t first : ℕ) → grown_number h t first ≡ 0 → Granted h.lent h.buffer h.working t first
unfolding grown_number
granted h t first e =
    let rest = eqb (length h.working) (length h.lent.cards) && (leb fewest_places first && leb first (length h.lent.cards)) in
    cases (sizes_good h.lent && rest)
    (λ q. cases (threshold_good t)
    (λ g. cases (ltb (length h.buffer) (longest_book first))
    (λ l. let e' = rw (q, g, l) at e in absurd (omega arith))
    (λ l.
    let a = and_parts (sizes_good h.lent) rest q in
    let b = and_parts (eqb (length h.working) (length h.lent.cards)) _ a.1 in
    let c = and_parts (leb fewest_places first) (leb first (length h.lent.cards)) b.1 in
    record {
      sizes = a.0;
      rows = eqb-true _ _ b.0;
      fewest = leb-true _ _ c.0;
      all = leb-true _ _ c.1;
      threshold = g;
      room = ltb-false _ _ l;
    }))
    (λ g. let e' = rw (q, g) at e in absurd (omega arith)))
    (λ q. let e' = rw q at e in absurd (omega arith))

-- The first places lie within what is lent.
pub record Within (m : Lent) (first : ℕ) : Type 0 where
  pub most : first ≤ most_places
  pub area : first * place_size ≤ length m.area
  pub lists : level_count * first ≤ length m.lists

pub within : (m : Lent) (buffer : List ℕ) (working : List (List ℕ)) (t first : ℕ) → Granted m buffer working t first → Within m first
within m buffer working t first g =
    let z = sizes m g.sizes in
    record {
      most = omega (arith, g.all, z.cards, z.most);
      area = omega (arith, g.all, z.cards, z.area);
      lists = omega (arith, g.all, z.cards, z.lists);
    }

-- What number 0 says.
pub fits-judged : (h : Handed) (t first number : ℕ) → number ≡ grown_number h t first → number ≡ 0
    → Granted h.lent h.buffer h.working t first × Within h.lent first
fits-judged h t first number e z =
    let g = granted h t first (sym e ∙ z) in
    (g, within h.lent h.buffer h.working t first g)
