-- A local array of n structs, lent as a slice for a lifetime κ, and back.
--   machine        the machine value of an array of structs
--   array-lends    the local's cell and what the array owns: the slice, under some name, and the lender's part
--   array_back     κ is over, the lender's part and the last list zs: the local's cell at the array of zs, and what it owns
--   array_field    the same array as a field of a struct
use mathlib.Core.Path.{refl, sym, ◌∙◌, subst}
use Prim.Native.Nat.{ℕ}
use mathlib.Core.List.{List, [], ◌∷◌, map}
use lib.ListN.{length, length-map}
use seplogic.Ra.Ura.{Ura}
use base.Fraction.{full_share}
use mir.Syntax.{Ty, Lifetime, ty_array}
use mir.Val.{Val}
use base.Logic.{ent, sep, ex}
use base.Fml.{Lft, GName, Fml, fsep, fat, fdead, flent}
use types.Logic.{Logic, sem}
use types.Kit.{‵, ◌⊛◌, some, later, ◌$◌, ◌∵◌, !, qed, move, use1, use3, split, pick, rewrite, fsplit, fjoin, fpick, fpack, feq_l, await, updating, now as at_once, show, done}
use types.SemTy.{cells, Arr}
use types.Share.{arr_parts}
use denote.RattleType.{RattleType, Denots}
use denote.Shadow.{shadow}
use denote.Laws.{Is, shows}
use denote.Memory.{cell_at, mem, lone, part_at, shares, part_of}
use denote.Array.{Array, each, array_vals, Array-Tells}
use denote.ArrayMemory.{Array-apart, Array-whole}
use denote.Index.{row, whole_out, whole_in}
use denote.Ref.{MutBor}
use denote.Slice.{slice_val, MutSlice, Room, finally}
use denote.Lend.{Held, lends_slice, slice_back}
use denote.Steps.{only}
use denote.Struct.Declared.{Declared, fields, shape, row as row_of}
use denote.Struct.Struct.{Struct}
use denote.Struct.Laws as LL
use denote.Struct.Steps.{spelt}

module _ (N : Declared) (L : LL.Laws N) (n : ℕ) where
  abbrev R : RattleType
  R = row_of N

  abbrev All : RattleType
  All = Array R n

  abbrev pub machine : List N.D → Val
  machine xs = only (array_vals (LL.vals N L) xs)

  abbrev at_name : ℕ → ℕ → GName → List N.D → MutBor (List N.D)
  at_name b o γ xs = record { ref_ptr = (b, o); ghost_name = γ; now = xs }

  abbrev τ : Ty
  τ = ty_array (lone R.mir) n

  module _ {M : Type 1} {𝓤 : Ura M} (𝓛 : Logic 𝓤) (ℓ : Lifetime) (κ : Lft) (b o : ℕ) (room : Room R n) where
    open 𝓛 use {H, A}

    abbrev Lent : List N.D → GName → Fml
    Lent xs γ = fsep ((MutSlice ℓ κ R).own_val (at_name b o γ xs) (slice_val (b, o) n ∷ [])) (flent κ (Held R n b o γ))

    pub array-lends : (xs : List N.D) (v : Val) → ent 𝓤 (sep 𝓤 (H.at full_share τ b o v) (sem 𝓛 (All.own_val xs (v ∷ [])))) (H.⇛ (ex 𝓤 (λ (γ : GName). sem 𝓛 (Lent xs γ))))
    unfolding part_of
    array-lends xs v =
        qed 𝓛 (‵ (fat full_share τ b o v) ∷ ‵ (All.own_val xs (v ∷ [])) ∷ []) ∵ updating ! $ use1 𝓛 (‵ (cell_at full_share All.mir (v ∷ []) b o)) (𝓛.laws.at_raw full_share τ b o v) $ fjoin ! $
        fpack ! (List Val) (λ us. fsep (cell_at full_share All.mir us b o) (All.own_val xs us)) (v ∷ []) $
        use1 𝓛 (‵ ((arr_parts (shares R) n).part full_share xs b o)) (Array-apart 𝓛 R full_share tt n xs b o) $ fsplit ! $ feq_l ! (λ e.
        use1 𝓛 (‵ (cells (mem R) xs b o)) (whole_in 𝓛 R xs b o) $
        use1 𝓛 (later (some (λ (γ : GName). ‵ ((MutSlice ℓ κ R).own_val (at_name b o γ xs) (slice_val (b, o) (length xs) ∷ [])) ⊛ ‵ (flent κ (Held R (length xs) b o γ))))) (lends_slice 𝓛 R ℓ κ xs b o (subst (Room R) (sym e) room)) $ await ! tt $ pick ! (λ γ. split ! $
        rewrite ! 0 (λ (m : ℕ). ‵ ((MutSlice ℓ κ R).own_val (at_name b o γ xs) (slice_val (b, o) m ∷ []))) e refl $ rewrite ! 1 (λ (m : ℕ). ‵ (flent κ (Held R m b o γ))) e refl $
        fjoin ! $ at_once ! $ show ! (λ (δ : GName). sem 𝓛 (Lent xs δ)) γ $ done !))

    pub array_back : (γ : GName) (zs : List N.D) → ent 𝓤 (sep 𝓤 (A.dead κ) (sep 𝓤 (A.lent κ (Held R n b o γ)) (sem 𝓛 (finally R γ zs))))
        (H.⇛ (sep 𝓤 (H.at full_share τ b o (machine zs)) (sem 𝓛 (All.own_val zs (machine zs ∷ [])))))
    unfolding part_of
    array_back γ zs =
        qed 𝓛 (‵ (fdead κ) ∷ ‵ (flent κ (Held R n b o γ)) ∷ ‵ (finally R γ zs) ∷ []) ∵ updating ! $
        use3 𝓛 (later (‵ ((Arr (mem R) n).own_at zs b o))) (slice_back 𝓛 R κ γ zs n b o) $ await ! tt $ fsplit ! $ move ! (1 ∷ []) $ use1 𝓛 (‵ (row R full_share zs b o)) (whole_out 𝓛 R zs b o) $
        move ! (1 ∷ 0 ∷ []) $ fjoin ! $ use1 𝓛 (‵ (part_at All full_share zs b o)) (Array-whole 𝓛 R full_share n zs b o) $ fpick ! (λ vs. fsplit ! $
        spelt ! All (Is All) (shows 𝓛 All) (array_vals (LL.vals N L)) (Array-Tells R (LL.vals N L) (LL.tells N L) n) full_share zs vs b o $
        use1 𝓛 (‵ (fat full_share τ b o (machine zs))) (𝓛.laws.raw_at full_share τ b o (machine zs)) $ at_once ! $ done !)

  -- as a field of a struct the array has its elements' fields for values
  each-field : (zs : List N.D) (us : List Val) → shadow (each N.D R.own_val zs us) → shadow (each (Denots (fields N)) (Struct (shape N)).own_val (map N.to zs) us)
  each-field [] [] p = p
  each-field [] (u ∷ us) p = p
  each-field (z ∷ zs) [] p = p
  each-field (z ∷ zs) (u ∷ us) p = (p.0, each-field zs us p.1)

  pub array_field : (zs : List N.D) (vs : List Val) → Is All zs vs → Is (Array (Struct (shape N)) n) (map N.to zs) vs
  array_field zs vs p = (p.0, ((p.1.0.0, length-map zs N.to ∙ p.1.0.1), each-field zs p.0 p.1.1))
