-- A `&mut` that the code still owns where it returns, as what says its last value.
--   slice-ended   of a `&mut [T]`
--   ref-ended     of a `&mut T`
use mathlib.Core.List.{List, [], ◌∷◌}
use seplogic.Ra.Ura.{Ura}
use mir.Syntax.{Lifetime}
use mir.Val.{Val}
use base.Logic.{ent}
use base.Fml.{Lft, fres}
use types.Logic.{Logic, sem}
use types.Kit.{‵, ◌$◌, ◌∵◌, !, qed, move, keep, use1, fsplit, fsplit3, done}
use denote.RattleType.{RattleType}
use denote.Ref.{MutBor, MutRef}
use denote.Slice.{MutSlice, heres, finally, coded_holeys, res-finally}

module _ {M : Type 1} {𝓤 : Ura M} (𝓛 : Logic 𝓤) (R : RattleType) (ℓ : Lifetime) (κ : Lft) where
  pub slice-ended : (x : MutBor (List R.Denot)) (vs : List Val) → ent 𝓤 (sem 𝓛 ((MutSlice ℓ κ R).own_val x vs)) (sem 𝓛 (finally R x.ghost_name x.now))
  slice-ended x vs =
      qed 𝓛 (‵ ((MutSlice ℓ κ R).own_val x vs) ∷ []) ∵ fsplit ! $ move ! (1 ∷ []) $ fsplit ! $
      use1 𝓛 (‵ (fres x.ghost_name ((coded_holeys R).code (heres R x.now)))) (𝓛.names.obs-res x.ghost_name ((coded_holeys R).code (heres R x.now))) $
      use1 𝓛 (‵ (finally R x.ghost_name x.now)) (res-finally 𝓛 ℓ κ R x.ghost_name x.now) $ keep ! (0 ∷ []) $ done !

  pub ref-ended : (x : MutBor R.Denot) (vs : List Val) → ent 𝓤 (sem 𝓛 ((MutRef ℓ κ R).own_val x vs)) (sem 𝓛 (fres x.ghost_name (R.coded.code x.now)))
  ref-ended x vs =
      qed 𝓛 (‵ ((MutRef ℓ κ R).own_val x vs) ∷ []) ∵ fsplit3 ! $ move ! (1 ∷ []) $
      use1 𝓛 (‵ (fres x.ghost_name (R.coded.code x.now))) (𝓛.names.obs-res x.ghost_name (R.coded.code x.now)) $ keep ! (0 ∷ []) $ done !
