-- The first letter of the broken rules, rule after rule; and what `check` answers by it.
use Prim.Native.Nat.{ℕ}
use mathlib.Core.Path.{◌≡◌, refl, sym, ◌∙◌}
use mathlib.Core.Bool.{true, false, ◌&&◌}
use Rattle.table.specs.Table.{is_memory}
use Rattle.ldc.specs.Rules.{rule_a, rule_e, rule_f, rule_g}
use Rattle.ldc.specs.Lent.{Lent, sizes_good, store_of, counts_good, unused_zero, kept_b, kept_c, presupposed}
use Rattle.ldc.specs.Lent.{kept_e, kept_f, kept_g, first_broken, broken, letter_a, letter_b, letter_c, letter_d, letter_e, letter_f, letter_g}
use Rattle.ldc.specs.Run.{check}
use Rattle.ldc.proofs.Lent.Letters.{first-none, first_some, letter-5, letter-none}
use Rattle.table.proofs.Tests.{cases}
use Rattle.check_places.specs.Links.{walk_e, walk_f}
use Rattle.check_places.specs.Parts.{walk_g}
use Rattle.check_places.proofs.RuleLaws.{rule-E, rule-F, rule-G}
use native.Mathlib.Omega.{arith}
use Rattle.wire.specs.Refusal.{rule_letter}
use Rattle.wire.specs.declared.refusal.Rule.{Rule}
use Rattle.wire.specs.declared.refusal.Rule.TheVariants.{A, B, C, D, E, F, G}
use Rattle.check_store.specs.Answer.{Answers}
use Rattle.check_store.specs.Rest.{rest_letter}

module _ (m : Lent) where
  pub letter-A : rule_a (store_of m) ≡ false → letter_a ≡ first_broken m
  unfolding first_broken broken
  letter-A a = rw a

  module _ (a : rule_a (store_of m) ≡ true) where
    pub letter-B : kept_b m ≡ false → letter_b ≡ first_broken m
    unfolding first_broken broken
    letter-B b = rw (a, b)

    module _ (b : kept_b m ≡ true) where
      pub letter-C : kept_c m ≡ false → letter_c ≡ first_broken m
      unfolding first_broken broken
      letter-C c = rw (a, b, c)

      module _ (c : kept_c m ≡ true) where
        pub letter-D : is_memory m.memory ≡ false → letter_d ≡ first_broken m
        unfolding first_broken broken
        letter-D d = rw (a, b, c, d)

        module _ (d : is_memory m.memory ≡ true) where
          letter-E : (counts_good m && rule_e (store_of m)) ≡ false → letter_e ≡ first_broken m
          unfolding first_broken broken kept_e presupposed
          letter-E e = rw (a, b, c, d, e)

          module _ (e : (counts_good m && rule_e (store_of m)) ≡ true) where
            letter-F : rule_f (store_of m) ≡ false → letter_f ≡ first_broken m
            unfolding first_broken broken kept_e kept_f presupposed
            letter-F f = rw (a, b, c, d, e, f)

            module _ (f : rule_f (store_of m) ≡ true) where
              letter-G : (unused_zero m && rule_g (store_of m)) ≡ false → letter_g ≡ first_broken m
              unfolding first_broken broken kept_e kept_f kept_g presupposed
              letter-G g = rw (a, b, c, d, e, f, g)

              no-letter : (unused_zero m && rule_g (store_of m)) ≡ true → 0 ≡ first_broken m
              unfolding first_broken broken kept_e kept_f kept_g presupposed
              no-letter g = rw (a, b, c, d, e, f, g)

-- ---- the last three rules together

-- The letter of E, F and G is the store's, where the rules before them are kept.
pub rest-letters : (m : Lent) → sizes_good m ≡ true → rule_a (store_of m) ≡ true → kept_b m ≡ true → kept_c m ≡ true
    → is_memory m.memory ≡ true → rest_letter m.area m.cards m.lists m.head ≡ first_broken m
unfolding rest_letter
rest-letters m z a b c d =
    cases (walk_e m.area m.cards m.lists m.head)
    (λ e. let e' = rule-E m z b c ∙ e in
    cases (walk_f m.cards)
    (λ f. let f' = rule-F m z ∙ f in
    cases (walk_g m.area m.cards m.lists m.head)
    (λ g. rw (e, f, g) (no-letter m a b c d e' f' (rule-G m z b c ∙ g)))
    (λ g. rw (e, f, g) (letter-G m a b c d e' f' (rule-G m z b c ∙ g))))
    (λ f. rw (e, f) (letter-F m a b c d e' (rule-F m z ∙ f))))
    (λ e. rw e (letter-E m a b c d (rule-E m z b c ∙ e)))

-- ---- the answer

-- A rule has a letter.
pub has_letter : (rule : Rule) → rule_letter rule ≡ 0 → ⊥
has_letter A h = omega arith
has_letter B h = omega arith
has_letter C h = omega arith
has_letter D h = omega arith
has_letter E h = omega arith
has_letter F h = omega arith
has_letter G h = omega arith

module _ (m : Lent) where
  pub answer-1 : sizes_good m ≡ false → Answers m 1 0
  unfolding check
  answer-1 z = record { number_is = rw z; letter-is = letter-none m 1 0 refl refl }

  module _ (z : sizes_good m ≡ true) where
    pub answer-0 : 0 ≡ first_broken m → Answers m 0 0
    unfolding check
    answer-0 h = record { number_is = rw (z, first-none m (sym h)); letter-is = letter-none m 0 0 refl refl }

    pub answer-5 : (l : ℕ) → l ≡ first_broken m → (l ≡ 0 → ⊥) → Answers m 5 l
    unfolding check
    answer-5 l e n = record { number_is = rw (z, first_some m (λ q. n (e ∙ q))); letter-is = letter-5 m l e }
