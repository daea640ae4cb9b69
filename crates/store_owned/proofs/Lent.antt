-- 32 cards in a local, lent as a slice for a lifetime of a call, and back.
--   lends-cards   the local's cell and what the cards own: the slice, its lifetime's token, and what is kept meanwhile
--   backs-cards   the last cards, the token and what was kept: the local's cell at these cards
use mathlib.Core.List.{List, [], ◌∷◌}
use Prim.Native.Nat.{ℕ}
use lib.Dec.{lit<}
use seplogic.Ra.Ura.{Ura}
use base.Fraction.{full_share}
use mir.Syntax.{Ty, named, ty_array}
use mir.Val.{Val}
use base.Logic.{ent}
use base.Fml.{GName, Fml, fsep, fat, flft, flent}
use types.Logic.{Logic}
use types.Kit.{Item, ‵, some, given, later, ◌⊛◌, mean, ◌$◌, ◌∵◌, !, qed, move, keep, use2, use3, split, pick, fsplit, check, await, updating, now as at_once, show, done}
use types.Tokens.{lft_new, lft_end}
use denote.RattleType.{RattleType}
use denote.Laws.{Is, shows}
use denote.Array.{Array}
use denote.Ref.{MutBor}
use denote.Slice.{slice_val, MutSlice, Room, finally}
use denote.Lend.{Held}
use denote.Steps.{peeks}
use Rattle.store_cards.specs.declared.Card.{Card}
use Rattle.store_cards.specs.contracts.Card as T
use Rattle.store_cards.proofs.Card.TheLaws as T'
use Rattle.store_owned.proofs.Local.{machine, array-lends, array_back}

abbrev pub R : RattleType
R = T.the_row

abbrev pub Cards : RattleType
Cards = Array R 32

abbrev CardsT : Ty
CardsT = ty_array T'.mir 32

-- the machine value of the cards
abbrev pub cells_of : List Card → Val
cells_of = machine T.the_type T'.the_laws 32

room-32 : Room R 32
room-32 = (lit< tt, lit< tt)

-- a lifetime of the call, and a name for it
abbrev pub Call : Type 0
Call = ℕ × GName

-- the local's cell
abbrev pub Cell : ℕ → List Card → Fml
Cell l cs = fat full_share CardsT l 0 (cells_of cs)

abbrev pub lent-cards : ℕ → Call → List Card → MutBor (List Card)
lent-cards l g cs = record { ref_ptr = (l, 0); ghost_name = g.1; now = cs }

abbrev pub Slice : ℕ → Call → List Card → Fml
Slice l g cs = (MutSlice (named 1) (g.0 ∷ []) R).own_val (lent-cards l g cs) (slice_val (l, 0) 32 ∷ [])

abbrev pub Kept : ℕ → Call → Fml
Kept l g = flent (g.0 ∷ []) (Held R 32 l 0 g.1)

module _ {M : Type 1} {𝓤 : Ura M} (𝓛 : Logic 𝓤) (l : ℕ) where
  abbrev pub Lending : List Card → Item 𝓤
  Lending cs = later (some (λ (g : Call). ‵ (Slice l g cs) ⊛ ‵ (flft (g.0 ∷ []) full_share) ⊛ ‵ (Kept l g)))

  pub lends-cards : (cs : List Card) → ent 𝓤 (mean 𝓛 (‵ (Cell l cs) ⊛ ‵ (Cards.own_val cs (cells_of cs ∷ [])))) (mean 𝓛 (Lending cs))
  lends-cards cs =
      qed 𝓛 (‵ (Cell l cs) ∷ ‵ (Cards.own_val cs (cells_of cs ∷ [])) ∷ []) ∵ updating ! $
      lft_new ! tt (λ ν. move ! (1 ∷ 2 ∷ []) $ use2 𝓛 (later (some (λ (δ : GName). ‵ (fsep (Slice l (ν, δ) cs) (Kept l (ν, δ)))))) (array-lends T.the_type T'.the_laws 32 𝓛 (named 1) (ν ∷ []) l 0 room-32 cs (cells_of cs)) $ await ! tt $ pick ! (λ δ. fsplit ! $
      at_once ! $ show ! (λ (g : Call). mean 𝓛 (‵ (Slice l g cs) ⊛ ‵ (flft (g.0 ∷ []) full_share) ⊛ ‵ (Kept l g))) (ν, δ) $ keep ! (0 ∷ 2 ∷ 1 ∷ []) $ done !))

  abbrev pub Back : List Card → Item 𝓤
  Back cs = later (given (Is Cards cs (cells_of cs ∷ [])) (‵ (Cell l cs)))

  pub backs-cards : (g : Call) (cs : List Card) → ent 𝓤 (mean 𝓛 (‵ (finally R g.1 cs) ⊛ ‵ (flft (g.0 ∷ []) full_share) ⊛ ‵ (Kept l g))) (mean 𝓛 (Back cs))
  backs-cards (ν, δ) cs =
      qed 𝓛 (‵ (finally R δ cs) ∷ ‵ (flft (ν ∷ []) full_share) ∷ ‵ (Kept l (ν, δ)) ∷ []) ∵ updating ! $ move ! (1 ∷ []) $ lft_end ! tt $ move ! (0 ∷ 2 ∷ 1 ∷ []) $
      use3 𝓛 (later (‵ (Cell l cs) ⊛ ‵ (Cards.own_val cs (cells_of cs ∷ [])))) (array_back T.the_type T'.the_laws 32 𝓛 (named 1) (ν ∷ []) l 0 room-32 δ cs) $ await ! tt $ split ! $
      move ! (1 ∷ []) $ peeks ! Cards (Is Cards) (shows 𝓛 Cards) cs (cells_of cs ∷ []) (λ is. at_once ! $ check ! is $ keep ! (1 ∷ []) $ done !)
