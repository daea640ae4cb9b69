-- A `&κ mut [T]` that is lent as `&[T]` for a lifetime κ' of a call, and comes back as it was: of a slice of n elements.
-- A `&[T]` owns what a `&` to each element does, and has no name of its own, so `lends_shared` takes that elements in memory are lent so: of a T
-- that can be copied `Denote/Copied.antt`'s `each_lends` says it.
--   LentShared     what the holder keeps meanwhile: the lender's part at κ', and its own borrow at κ, open
--   lends_shared   what the slice owns, and κ's token: what a `&κ' [T]` owns, and LentShared
--   back-shared    κ' is over, and LentShared: what the slice owns, and κ's token
use mathlib.Core.Path.{◌≡◌, refl, sym, ap, subst}
use Prim.Native.Nat.{ℕ}
use mathlib.Core.List.{List, [], ◌∷◌}
use lib.ListN.{length}
use seplogic.Ra.Ura.{Ura}
use base.Fraction.{full_share}
use mir.Syntax.{Lifetime}
use mir.Val.{Val}
use base.Logic.{ent, sep}
use base.Fml.{Lft, GName, Share, Fml, fsep, flft, fdead, fobs, fauth, flent, fobor}
use types.Logic.{Logic, sem}
use types.Kit.{‵, ◌⊛◌, later, ◌$◌, ◌∵◌, !, qed, move, use1, split, fsplit, fjoin, frame, await, updating, now as at_once, done}
use types.Share.{parts}
use types.Tokens.{lent_back}
use denote.RattleType.{RattleType}
use denote.Shadow.{pure_l, pure_i}
use denote.Memory.{mem, shares}
use denote.Lends.{Lent}
use denote.Ref.{Bor, MutBor}
use denote.Slice.{slice_val, MutSlice, ShrSlice, heres, Room, elements_shared, shr_slice_at, mut_slice_at, coded_holeys}
use denote.Lend.{Held}
use denote.Index.{opens_slice, closes_slice}

module _ (R : RattleType) (κ κ' : Lft) (q : Share) (γ : GName) (b o : ℕ) (ys : List R.Denot) where
  abbrev at_name : GName → MutBor (List R.Denot)
  at_name δ = record { ref_ptr = (b, o); ghost_name = δ; now = ys }

  abbrev seen : Bor (List R.Denot)
  seen = record { ref_ptr = (b, o); now = ys }

  abbrev All : Fml
  All = parts (mem R) (shares R) full_share ys b o

  abbrev pub LentShared : Fml
  LentShared = fsep (flent κ' All) (fsep (fobor κ q (Held R (length ys) b o γ)) (fsep (fobs γ ((coded_holeys R).code (heres R ys))) (fauth γ ((coded_holeys R).code (heres R ys)))))

  module _ {M : Type 1} {𝓤 : Ura M} (𝓛 : Logic 𝓤) (ℓ ℓ' : Lifetime) where
    open 𝓛 use {H, A}

    abbrev vals : ℕ → List Val
    vals n = slice_val (b, o) n ∷ []

    abbrev Lends : ℕ → Type 1
    Lends n = ent 𝓤 (sep 𝓤 (sem 𝓛 ((MutSlice ℓ κ R).own_val (at_name γ) (vals n))) (A.lft κ q))
        (H.⇛ (sep 𝓤 (sem 𝓛 ((ShrSlice ℓ' κ' R).own_val seen (vals n))) (sem 𝓛 LentShared)))

    lends-whole : Lent 𝓛 All (elements_shared R ys b o) → Lends (length ys)
    lends-whole each =
        qed 𝓛 (‵ ((MutSlice ℓ κ R).own_val (at_name γ) (vals (length ys))) ∷ ‵ (flft κ q) ∷ []) ∵ updating ! $ fsplit ! $ pure_l ! (mut_slice_at R (at_name γ) (vals (length ys))) (λ p. fsplit ! $ opens_slice ! tt R ys b o $
        use1 𝓛 (later (‵ (elements_shared R ys b o κ') ⊛ ‵ (flent κ' All))) (each κ') $ await ! tt $ split ! $
        -- [the elements, shared; the lender's part at κ'; the open borrow at κ; obs γ; auth γ]
        at_once ! $ pure_i ! (shr_slice_at R seen (vals (length ys))) (tt, (tt, tt)) p $ fjoin ! $ frame ! $
        move ! (2 ∷ 3 ∷ []) $ fjoin ! $ move ! (2 ∷ 0 ∷ []) $ fjoin ! $ move ! (1 ∷ 0 ∷ []) $ fjoin ! $ done !)

    pub lends_shared : Lent 𝓛 All (elements_shared R ys b o) → (n : ℕ) → length ys ≡ n → Lends n
    lends_shared each n e = subst Lends e (lends-whole each)

    pub back-shared : (n : ℕ) → length ys ≡ n → Room R (length ys) → ent 𝓤 (sep 𝓤 (A.dead κ') (sem 𝓛 LentShared)) (H.⇛ (sep 𝓤 (sem 𝓛 ((MutSlice ℓ κ R).own_val (at_name γ) (vals n))) (A.lft κ q)))
    back-shared n e room =
        qed 𝓛 (‵ (fdead κ') ∷ ‵ LentShared ∷ []) ∵ updating ! $ move ! (1 ∷ []) $ fsplit ! $ move ! (2 ∷ 0 ∷ []) $ lent_back ! tt $
        -- [the elements; the open borrow, obs and auth]
        move ! (1 ∷ []) $ fsplit ! $ move ! (1 ∷ []) $ fsplit ! $ move ! (3 ∷ 2 ∷ 0 ∷ 1 ∷ []) $ closes_slice ! tt R ys ys refl b o $ at_once ! $
        fjoin ! $ pure_i ! (mut_slice_at R (at_name γ) (vals n)) (tt, (tt, tt)) (ap (λ (m : ℕ). slice_val (b, o) m ∷ []) (sym e), room) $ fjoin ! $ done !
