-- A test with one arm, which leaves the function, and then the rest.
use mathlib.Core.Bool.{Bool, not}
use mathlib.Core.List.{List}
use seplogic.Ra.Ura.{Ura}
use lib.Dec.{T}
use mir.Syntax.{Opd as Operand, Body, seq, cond, skip}
use mir.Val.{vbool}
use prog.Wp.{Env, Calls, Loops, Wp, after_seq}
use types.Logic.{Logic}
use types.Kit.{Item, Seq, Post, runs, any_q, post, ◌$◌}
use types.Run.{Opd, first, branches, skips}

module _ {M : Type 1} {𝓤 : Ura M} {𝓛 : Logic 𝓤} {K : Type 0} {Γ : List (Item 𝓤)} {E : Env 𝓤 𝓛.H} {C : Calls 𝓤 𝓛.H} {Λ : Loops 𝓤 𝓛.H} {q : Post 𝓤 𝓛.H} where
  -- the arm runs where the test came out true, and the rest where it did not
  open 𝓛 use {H}

  pub leaves-if : K → {c : Operand} {a b : Body} {y : Bool} → Opd K 𝓛 Γ E c (vbool y)
      → (T y → Seq K 𝓛 Γ (runs C Λ E a (any_q (after_seq 𝓤 H (Wp 𝓤 H C Λ E b (post 𝓤 H q)) (post 𝓤 H q)))))
      → (T (not y) → Seq K 𝓛 Γ (runs C Λ E b q)) → Seq K 𝓛 Γ (runs C Λ E (seq (cond c a skip) b) q)
  leaves-if t o arm rest = first t $ branches t o arm (λ z. skips t $ record { prf = (rest z).prf })
