-- What it means that no rule is broken, part by part; and that the memory of a sound store breaks none: the parts that speak of
-- the store hold by `SoundRules`, those that speak of numbers by the form of what is written.
use Prim.Native.Nat.{ℕ, ◌<◌}
use mathlib.Core.Path.{◌≡◌, refl, sym}
use mathlib.Core.Bool.{Bool, true, false, not, ◌||◌, true≢false}
use mathlib.Core.List.{List, [], ◌++◌, map, append-nil}
use mathlib.Core.Option.{none}
use native.Mathlib.Omega.{arith}
use borrow.Author.Tests.{le-leb}
use lib.Dec.{leb}
use lib.ListN.{length, get_or, drop}
use Rattle.table.specs.Table.{is_memory, all_zero}
use Rattle.table.proofs.Tests.{and_parts}
use Rattle.table.proofs.Decode.{decode-memory}
use Rattle.ldc.specs.Lists.{all}
use Rattle.ldc.specs.Store.{Store, free, size, card, links, level, bytes_at}
use Rattle.ldc.specs.Rules.{rule_a, rule_b, rule_c, rule_e, rule_g}
use Rattle.ldc.specs.Lent.{Lent, places_in, list_length, list_part, store_of, lent_of, row_good, numbers_good, summary_good, summaries_good, counts_good, unused_zero, kept_b, kept_c, presupposed, kept_e, kept_f, kept_g, letter, broken}
use Rattle.ldc.proofs.Stores.Sound.{Sound, Whole}
use Rattle.ldc.proofs.Basics.ListLaws.{below_of, get_or-mem, mem-get_or, spell}
use Rattle.ldc.proofs.Lent.Parts.{length-rows, get_d_rows, all-rows, count-row_of, good-row_of, rest-row_of, summary-row_of, good-marks, padded-rest}
use Rattle.ldc.proofs.Stores.SoundRules.{Kept, keeps-B, keeps-C, keeps-E, keeps-F, keeps-G}
use Rattle.ldc.proofs.Lent.Round.{few-links, store_of-lent_of, places-lent_of, level-fits, length-lent_of, part-lent_of}
use Rattle.ldc.specs.Layout.{link_count, mark_good, row_rest}

-- Lent memory in which no rule is broken: the store that it shows keeps the rules, and so do the numbers.
pub record Unbroken (m : Lent) : Type 0 where
  pub store : Kept (store_of m)
  pub numbers : numbers_good m ≡ true
  pub summaries : summaries_good m ≡ true
  pub counts : counts_good m ≡ true
  pub unused : unused_zero m ≡ true
  pub memory : is_memory m.memory ≡ true

-- No letter: the rule is kept, and there is none behind it.
no-letter : (kept : Bool) (l : ℕ) (rest : List ℕ) → letter kept l ++ rest ≡ [] → (kept ≡ true) × (rest ≡ [])
no-letter true l rest h = (refl, h)
no-letter false l rest h = let z : ◌≡◌ {A = ℕ} 0 1 = cc in absurd (omega arith)

-- A rule that presupposes others says what it says where those are kept.
supposed : (p x : Bool) → p ≡ true → (not p || x) ≡ true → x ≡ true
supposed true x p h = h
supposed false x p h = absurd (true≢false (sym p))

pub unbroken : (m : Lent) → broken m ≡ [] → Unbroken m
unfolding broken kept_b kept_c presupposed kept_e kept_f kept_g
unbroken m h =
    let a = no-letter (rule_a (store_of m)) 65 _ h in
    let b = no-letter (kept_b m) 66 _ a.1 in
    let c = no-letter (kept_c m) 67 _ b.1 in
    let d = no-letter (is_memory m.memory) 68 _ c.1 in
    let e = no-letter (kept_e m) 69 _ d.1 in
    let f = no-letter (kept_f m) 70 (letter (kept_g m) 71) e.1 in
    let g = no-letter (kept_g m) 71 [] (rw append-nil f.1) in
    let pre : presupposed m ≡ true = rw b.0 c.0 in
    let b' = and_parts (numbers_good m) (rule_b (store_of m)) b.0 in
    let c' = and_parts (rule_c (store_of m)) (summaries_good m) c.0 in
    let e' = and_parts (counts_good m) (rule_e (store_of m)) (supposed (presupposed m) _ pre e.0) in
    let g' = and_parts (unused_zero m) (rule_g (store_of m)) (supposed (presupposed m) _ pre g.0) in
    record {
      store = record { a = a.0; b = b'.1; c = c'.0; e = e'.1; f = supposed (presupposed m) _ pre f.0; g = g'.1 };
      numbers = b'.0;
      summaries = c'.1;
      counts = e'.0;
      unused = g'.0;
      memory = d.0;
    }

pub none-broken : (m : Lent) → Unbroken m → broken m ≡ []
unfolding broken kept_b kept_c presupposed kept_e kept_f kept_g
none-broken m u =
    let k = u.store in
    rw (k.a, u.numbers, k.b, k.c, u.summaries, u.memory, u.counts, k.e, k.f, u.unused, k.g)

-- ---- the memory of a sound store

module _ (s : Store) (so : Sound s) (w : Whole s) where
  kept_store : Kept (store_of (lent_of s))
  kept_store = rw (store_of-lent_of s so w)
      record { a = so.rule_a-kept; b = keeps-B s so; c = keeps-C s so; e = keeps-E s so; f = keeps-F s so; g = keeps-G s so }

  numbers-lent_of : numbers_good (lent_of s) ≡ true
  unfolding numbers_good lent_of
  numbers-lent_of =
      rw (all-rows row_good s.cards s.places (λ c b m. good-row_of c b))
      (below_of 4 (λ n. leb (list_length (lent_of s) n) (places_in (lent_of s).area))
      (λ n h. rw (length-lent_of s so w n h, places-lent_of s so w) (le-leb _ _ (level-fits s so n))))

  counts-lent_of : counts_good (lent_of s) ≡ true
  unfolding counts_good lent_of links card
  counts-lent_of = all-rows (λ row. leb (link_count row) s.threshold) s.cards s.places
      (λ c b m. let spot = get_or-mem s.cards free m in
      rw (count-row_of c b) (le-leb _ _ (rw spot.2 at (so.few spot.0))))

  bits-lent_of : (p : ℕ) → p < length (lent_of s).cards → summary_good (get_or (lent_of s).cards p []) (bytes_at s p) ≡ true
  unfolding lent_of bytes_at
  bits-lent_of p h =
      let near : p < length s.cards = omega (arith, length-rows s.cards s.places) in
      rw (get_d_rows s.cards s.places p near)
      (summary-row_of (get_or s.cards p free) (get_or s.places p []) (few-links s so _ (mem-get_or s.cards p free near)))

  summaries-lent_of : summaries_good (lent_of s) ≡ true
  unfolding summaries_good
  summaries-lent_of =
      below_of (length (lent_of s).cards) (λ p. summary_good (get_or (lent_of s).cards p []) (bytes_at (store_of (lent_of s)) p))
      (λ p h. rw (store_of-lent_of s so w) (bits-lent_of p h))

  marks-lent_of : (mark_good (get_or (lent_of s).head 2 0) (get_or (lent_of s).head 3 0) ≡ true)
      × (mark_good (get_or (lent_of s).head 4 0) (get_or (lent_of s).head 5 0) ≡ true)
  unfolding lent_of
  marks-lent_of =
      rw (spell 2 none s.marks so.two)
      (good-marks (get_or s.marks 0 none) (get_or s.marks 1 none) (map (λ ps. length ps) s.levels))

  rows-lent_of : all (λ row. all_zero (row_rest row)) (lent_of s).cards ≡ true
  unfolding lent_of
  rows-lent_of = all-rows (λ row. all_zero (row_rest row)) s.cards s.places (λ c b m. rest-row_of c b (few-links s so c m))

  unused-lent_of : unused_zero (lent_of s) ≡ true
  unfolding unused_zero
  unused-lent_of =
      rw (marks-lent_of.0, marks-lent_of.1, rows-lent_of)
      (below_of 4 (λ n. all_zero (drop (list_length (lent_of s) n) (list_part (lent_of s) n)))
      (λ n h. rw (length-lent_of s so w n h, part-lent_of s so w n h) (padded-rest (size s) (level s n))))

  pub kept-lent_of : broken (lent_of s) ≡ []
  kept-lent_of = none-broken (lent_of s) record {
    store = kept_store;
    numbers = numbers-lent_of;
    summaries = summaries-lent_of;
    counts = counts-lent_of;
    unused = unused-lent_of;
    memory = unfold lent_of in decode-memory s.memory so.memory;
  }
