-- A function's locals, freed in one step: those that hold a value and those that do not, where they stand together at the end of the context,
-- the last local first, as the function's entry leaves them.
--   Cell    a local that holds a value (full), or none (bare)
--   leave   what stands before the locals is kept, and the locals are gone
use Prim.Native.Nat.{ℕ, zero, suc}
use mathlib.Core.Path.{◌≡◌, sym, subst}
use mathlib.Core.List.{List, [], ◌∷◌}
use seplogic.Ra.Ura.{Ura}
use base.Fraction.{full_share}
use mir.Syntax.{Ty}
use mir.Val.{Val}
use base.Logic.{SProp, ent, sep, emp, id⊢, via, comm∗, assoc∗, assoc', mono_l, mono_r, fst∗, emp∗}
use base.Fml.{fat, froom, fdies}
use prog.Wp.{Env, release}
use types.Logic.{Logic}
use types.Kit.{Item, ‵, ⋆, mean, push, pop, Goal, frees, Step, step}

pub data Cell : Type 0 where
  full : Val → Cell
  bare : Cell

abbrev lies : {M : Type 1} {𝓤 : Ura M} → Ty × ℕ → Cell → Item 𝓤
lies e (full v) = ‵ (fat full_share e.0 e.1 zero v)
lies e bare = ‵ (froom e.0 e.1 zero)

-- the locals before Γ, the last one first; those that are not named hold nothing
abbrev pub cells : {M : Type 1} {𝓤 : Ura M} → List (Ty × ℕ) → List Cell → List (Item 𝓤) → List (Item 𝓤)
cells [] cs Γ = Γ
cells (e ∷ E) [] Γ = cells E [] (lies e bare ∷ ‵ (fdies e.0 e.1) ∷ Γ)
cells (e ∷ E) (c ∷ cs) Γ = cells E cs (lies e c ∷ ‵ (fdies e.0 e.1) ∷ Γ)

-- the first entries of a context, and those behind them
abbrev pub front : {M : Type 1} {𝓤 : Ura M} → ℕ → List (Item 𝓤) → List (Item 𝓤)
front zero Γ = []
front (suc n) [] = []
front (suc n) (i ∷ Γ) = i ∷ front n Γ

abbrev pub behind : {M : Type 1} {𝓤 : Ura M} → ℕ → List (Item 𝓤) → List (Item 𝓤)
behind zero Γ = Γ
behind (suc n) [] = []
behind (suc n) (i ∷ Γ) = behind n Γ

module _ {M : Type 1} {𝓤 : Ura M} (𝓛 : Logic 𝓤) where
  open 𝓛 use {H}

  abbrev ◌⊢◌ : SProp 𝓤 → SProp 𝓤 → Type 1
  P ⊢ Q = ent 𝓤 P Q

  abbrev ◌∗◌ : SProp 𝓤 → SProp 𝓤 → SProp 𝓤
  P ∗ Q = sep 𝓤 P Q

  infix 26 ◌⊢◌
  infixr 35 ◌∗◌
  swap : (P Q R : SProp 𝓤) → P ∗ (Q ∗ R) ⊢ Q ∗ (P ∗ R)
  swap P Q R = via 𝓤 ((P ∗ Q) ∗ R) (assoc' 𝓤 P Q R) (via 𝓤 ((Q ∗ P) ∗ R) (mono_l 𝓤 R (comm∗ 𝓤 P Q)) (assoc∗ 𝓤 Q P R))

  abbrev Freed : Ty × ℕ → SProp 𝓤
  Freed e = H.room e.0 e.1 zero ∗ H.dies e.0 e.1

  out_of : (E : Env 𝓤 H) (Q P : SProp 𝓤) → release 𝓤 H E (Q ∗ P) ⊢ Q ∗ release 𝓤 H E P
  out_of [] Q P = id⊢ 𝓤 (Q ∗ P)
  out_of (e ∷ E) Q P = via 𝓤 (Freed e ∗ (Q ∗ release 𝓤 H E P)) (mono_r 𝓤 (Freed e) (out_of E Q P)) (swap (Freed e) Q (release 𝓤 H E P))

  into : (E : Env 𝓤 H) (Q P : SProp 𝓤) → Q ∗ release 𝓤 H E P ⊢ release 𝓤 H E (Q ∗ P)
  into [] Q P = id⊢ 𝓤 (Q ∗ P)
  into (e ∷ E) Q P = via 𝓤 (Freed e ∗ (Q ∗ release 𝓤 H E P)) (swap Q (Freed e) (release 𝓤 H E P)) (mono_r 𝓤 (Freed e) (into E Q P))

  release-mono : (E : Env 𝓤 H) {P Q : SProp 𝓤} → P ⊢ Q → release 𝓤 H E P ⊢ release 𝓤 H E Q
  release-mono [] h = h
  release-mono (e ∷ E) h = mono_r 𝓤 (Freed e) (release-mono E h)

  -- whatever lies there, it is room
  roomy : (e : Ty × ℕ) (c : Cell) → mean 𝓛 (lies e c) ⊢ H.room e.0 e.1 zero
  roomy e (full v) = 𝓛.laws.at_room e.0 e.1 zero v
  roomy e bare = id⊢ 𝓤 (H.room e.0 e.1 zero)

  one-freed : (e : Ty × ℕ) (c : Cell) (Γ : List (Item 𝓤)) {P : SProp 𝓤} → ⋆ 𝓛 Γ ⊢ P → ⋆ 𝓛 (lies e c ∷ ‵ (fdies e.0 e.1) ∷ Γ) ⊢ Freed e ∗ P
  one-freed e c Γ {P} h =
      let r = H.room e.0 e.1 zero in
      let d = H.dies e.0 e.1 in
      let v = mean 𝓛 (lies e c) in
      via 𝓤 (r ∗ (d ∗ ⋆ 𝓛 Γ)) (via 𝓤 (v ∗ (d ∗ ⋆ 𝓛 Γ)) (mono_r 𝓤 v (pop 𝓛 (‵ (fdies e.0 e.1)) Γ)) (mono_l 𝓤 (d ∗ ⋆ 𝓛 Γ) (roomy e c)))
      (via 𝓤 ((r ∗ d) ∗ ⋆ 𝓛 Γ) (assoc' 𝓤 r d (⋆ 𝓛 Γ)) (mono_r 𝓤 (r ∗ d) h))

  all-freed : (E : Env 𝓤 H) (cs : List Cell) (Γ : List (Item 𝓤)) {P : SProp 𝓤} → ⋆ 𝓛 Γ ⊢ P → ⋆ 𝓛 (cells E cs Γ) ⊢ release 𝓤 H E P
  all-freed [] cs Γ h = h
  all-freed (e ∷ E) [] Γ {P} h =
      via 𝓤 (release 𝓤 H E (Freed e ∗ P)) (all-freed E [] (lies e bare ∷ ‵ (fdies e.0 e.1) ∷ Γ) (one-freed e bare Γ h)) (out_of E (Freed e) P)
  all-freed (e ∷ E) (c ∷ cs) Γ {P} h =
      via 𝓤 (release 𝓤 H E (Freed e ∗ P)) (all-freed E cs (lies e c ∷ ‵ (fdies e.0 e.1) ∷ Γ) (one-freed e c Γ h)) (out_of E (Freed e) P)

  parted : (n : ℕ) (Γ : List (Item 𝓤)) → ⋆ 𝓛 Γ ⊢ ⋆ 𝓛 (front n Γ) ∗ ⋆ 𝓛 (behind n Γ)
  parted zero Γ = via 𝓤 (emp 𝓤 ∗ ⋆ 𝓛 Γ) (emp∗ 𝓤 (⋆ 𝓛 Γ)) (id⊢ 𝓤 (emp 𝓤 ∗ ⋆ 𝓛 Γ))
  parted (suc n) [] = emp∗ 𝓤 (emp 𝓤)
  parted (suc n) (i ∷ Γ) =
      via 𝓤 (mean 𝓛 i ∗ ⋆ 𝓛 Γ) (pop 𝓛 i Γ)
      (via 𝓤 (mean 𝓛 i ∗ (⋆ 𝓛 (front n Γ) ∗ ⋆ 𝓛 (behind n Γ))) (mono_r 𝓤 (mean 𝓛 i) (parted n Γ))
      (via 𝓤 ((mean 𝓛 i ∗ ⋆ 𝓛 (front n Γ)) ∗ ⋆ 𝓛 (behind n Γ)) (assoc' 𝓤 (mean 𝓛 i) (⋆ 𝓛 (front n Γ)) (⋆ 𝓛 (behind n Γ)))
      (mono_l 𝓤 (⋆ 𝓛 (behind n Γ)) (push 𝓛 i (front n Γ)))))

  gone : (n : ℕ) (E : Env 𝓤 H) (cs : List Cell) (Γ : List (Item 𝓤)) {P : SProp 𝓤} → behind n Γ ≡ cells E cs [] → ⋆ 𝓛 (front n Γ) ⊢ P → ⋆ 𝓛 Γ ⊢ release 𝓤 H E P
  gone n E cs Γ {P} e h =
      let kept = ⋆ 𝓛 (front n Γ) in
      via 𝓤 (kept ∗ ⋆ 𝓛 (behind n Γ)) (parted n Γ)
      (via 𝓤 (kept ∗ release 𝓤 H E (emp 𝓤))
      (mono_r 𝓤 kept (subst (λ (Δ : List (Item 𝓤)). ⋆ 𝓛 Δ ⊢ release 𝓤 H E (emp 𝓤)) (sym e) (all-freed E cs [] (id⊢ 𝓤 (emp 𝓤)))))
      (via 𝓤 (release 𝓤 H E (kept ∗ emp 𝓤)) (into E kept (emp 𝓤)) (release-mono E (via 𝓤 kept (fst∗ 𝓤 kept (emp 𝓤)) h))))

module _ {M : Type 1} {𝓤 : Ura M} {𝓛 : Logic 𝓤} {K : Type 0} {Γ : List (Item 𝓤)} where
  -- after the first n entries the locals stand, and nothing else
  open 𝓛 use {H}

  pub leave : K → (n : ℕ) (cs : List Cell) {E : Env 𝓤 H} {g : Goal 𝓤 H} → behind n Γ ≡ cells E cs [] → Step K 𝓛 (front n Γ) g Γ (frees E g)
  leave t n cs {E} {g} e = step (λ s. record { prf = gone 𝓛 n E cs Γ e s.prf })
