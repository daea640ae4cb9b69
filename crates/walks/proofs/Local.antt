-- A local that holds a declared struct, as a value that lies in memory, which can be lent, and back.
--   lies_in    the local's cell and what the struct owns: the struct lies there
--   lies_out   the struct lies there: the local's cell, at the struct's machine value, and what the struct owns
use Prim.Native.Nat.{ℕ}
use mathlib.Core.List.{List, [], ◌∷◌}
use seplogic.Ra.Ura.{Ura}
use base.Fraction.{full_share}
use mir.Syntax.{Ty}
use mir.Val.{Val}
use base.Logic.{ent, sep}
use base.Fml.{fsep, fat}
use types.Logic.{Logic, sem}
use types.Kit.{‵, ◌$◌, ◌∵◌, !, qed, use1, fsplit, fjoin, fpick, fpack, done}
use denote.RattleType.{RattleType}
use denote.Laws.{Is, shows}
use denote.Memory.{cell_at, mem, lone, part_of}
use denote.Struct.Declared.{Declared, row}
use denote.Struct.Laws as LL
use denote.Struct.Steps.{spelt}

module _ {M : Type 1} {𝓤 : Ura M} (𝓛 : Logic 𝓤) (N : Declared) (L : LL.Laws N) (h : N.D) (b o : ℕ) where
  open 𝓛 use {H}

  abbrev R : RattleType
  R = row N

  abbrev τ : Ty
  τ = lone R.mir

  abbrev v : Val
  v = LL.val N L h

  pub lies_in : ent 𝓤 (sep 𝓤 (H.at full_share τ b o v) (sem 𝓛 (R.own_val h (v ∷ [])))) (sem 𝓛 ((mem R).own_at h b o))
  unfolding part_of
  lies_in =
      qed 𝓛 (‵ (fat full_share τ b o v) ∷ ‵ (R.own_val h (v ∷ [])) ∷ []) ∵ use1 𝓛 (‵ (cell_at full_share R.mir (v ∷ []) b o)) (𝓛.laws.at_raw full_share τ b o v) $ fjoin ! $
      fpack ! (List Val) (λ us. fsep (cell_at full_share R.mir us b o) (R.own_val h us)) (v ∷ []) $ done !

  pub lies_out : ent 𝓤 (sem 𝓛 ((mem R).own_at h b o)) (sep 𝓤 (H.at full_share τ b o v) (sem 𝓛 (R.own_val h (v ∷ []))))
  unfolding part_of
  lies_out =
      qed 𝓛 (‵ ((mem R).own_at h b o) ∷ []) ∵ fpick ! (λ vs. fsplit ! $ spelt ! R (Is R) (shows 𝓛 R) (LL.vals N L) (LL.tells N L) full_share h vs b o $
      use1 𝓛 (‵ (fat full_share τ b o v)) (𝓛.laws.raw_at full_share τ b o v) $ done !)
