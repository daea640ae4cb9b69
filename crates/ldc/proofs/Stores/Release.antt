-- What releasing frozen places leaves: of the places given those that no link names are free; all else is as it was.
-- A frozen card holds no links, so that freeing one changes no naming.
use Prim.Native.Nat.{ℕ, ◌<◌}
use mathlib.Core.Path.{◌≡◌, refl, sym, ◌∙◌}
use mathlib.Core.List.{List, [], ◌∷◌, Memᴰ}
use mathlib.Core.Bool.{true, false, cond, not, ◌&&◌}
use borrow.Author.Tests.{eqb-true, eqb-false}
use lib.Dec.{eqb}
use Rattle.ldc.specs.Lists.{any}
use Rattle.ldc.specs.Store.{free, Store, size, card, links, with_card}
use Rattle.ldc.specs.Rules.{named}
use Rattle.ldc.specs.Steps.{release}
use Rattle.ldc.proofs.Basics.Cases.{cases}
use Rattle.ldc.proofs.Stores.Changes.{card-same, card-other, size-with_card}
use Rattle.ldc.proofs.Stores.Hang.{Beside, beside-itself, beside-card}
use Rattle.ldc.proofs.Stores.Naming.{named-same}

-- Places of the store whose cards hold no links.
abbrev pub Bare : Store → List ℕ → Type 0
Bare s fs = (f : ℕ) → Memᴰ f fs → (f < size s) × (links s f ≡ [])

module _ (f : ℕ) (s : Store) (h : f < size s) (b : links s f ≡ []) where
  freed-links : (q : ℕ) → links (with_card f free s) q ≡ links s q
  unfolding links
  freed-links q =
      cases (eqb q f)
      (λ e. let qf : q ≡ f = eqb-true q f e in rw (qf, card-same s f free h) (sym b))
      (λ e. rw (card-other s f free q (eqb-false q f e)))

  freed-bare : (fs : List ℕ) → Bare s fs → Bare (with_card f free s) fs
  freed-bare fs o x m = (rw (size-with_card s f free) (o x m).0, freed-links x ∙ (o x m).1)

pub release-links : (fs : List ℕ) (s : Store) → Bare s fs → (q : ℕ) → links (release fs s) q ≡ links s q
release-links [] s b q = refl
release-links (f ∷ fs) s b q =
    let c = b f (Memᴰ.head refl) in
    let later : Bare s fs = λ x m. b x (Memᴰ.tail m) in
    cases (named s f)
    (λ e. rw e (release-links fs s later q))
    (λ e. rw e (release-links fs (with_card f free s) (freed-bare f s c.0 c.1 fs later) q ∙ freed-links f s c.0 c.1 q))

pub release-card : (fs : List ℕ) (s : Store) → Bare s fs → (q : ℕ) → card (release fs s) q ≡ cond (any (eqb q) fs && not (named s q)) free (card s q)
release-card [] s b q = refl
release-card (f ∷ fs) s b q =
    let c = b f (Memᴰ.head refl) in
    let later : Bare s fs = λ x m. b x (Memᴰ.tail m) in
    cases (named s f)
    (λ e. rw e (release-card fs s later q
    ∙ cases (eqb q f)
    (λ t. let n : named s q ≡ true = rw (eqb-true q f t) e in rw (t, n) (cases (any (eqb q) fs) (λ a. rw a) (λ a. rw a)))
    (λ t. rw t)))
    (λ e. rw e (release-card fs (with_card f free s) (freed-bare f s c.0 c.1 fs later) q
    ∙ rw (named-same s (with_card f free s) q (freed-links f s c.0 c.1))
    (cases (eqb q f)
    (λ t. let qf : q ≡ f = eqb-true q f t in
    let n : named s q ≡ false = rw qf e in
    let k : card (with_card f free s) q ≡ free = rw qf (card-same s f free c.0) in
    rw (t, n, k) (cases (any (eqb q) fs) (λ a. rw a) (λ a. rw a)))
    (λ t. rw (t, card-other s f free q (eqb-false q f t))))))

pub release-beside : (fs : List ℕ) (s : Store) → Beside s (release fs s)
release-beside [] s = beside-itself s
release-beside (f ∷ fs) s =
    cases (named s f)
    (λ e. rw e (release-beside fs s))
    (λ e. rw e (beside-card s (release fs (with_card f free s)) f free (release-beside fs (with_card f free s))))
