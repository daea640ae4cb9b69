-- The cards carried to the rows and back, around the store's own function: what is lent to each call, what is kept meanwhile, and what comes back.
-- Of the two functions that carry it is known that each meets its contract.
--   lends-load, backs-load       before and after `load`: the cards are lent as shared, the rows again
--   lends-rows, backs-rows       before and after the store's own function: the rows are lent again
--   lends-unload, backs-unload   before and after `unload`: the cards go for good, the rows are lent as shared
use mathlib.Core.Path.{◌≡◌, refl, sym, ap, subst}
use Prim.Native.Nat.{ℕ}
use mathlib.Core.List.{[], ◌∷◌, List}
use lib.ListN.{length}
use lib.Dec.{T}
use seplogic.Ra.Ura.{Ura}
use base.Fraction.{full_share}
use mir.Syntax.{named, ty_unit, w64}
use mir.Val.{Val, WT, has_ty}
use base.Logic.{SProp, ent, sep, id⊢}
use base.Fml.{Lft, Share, GName, Fml, ftrue, fsep, flft}
use prog.Memory.{Memory}
use prog.Routine.{Routine}
use types.Logic.{Logic}
use contract.Monad.{Fun, fact}
use types.Kit.{Item, ‵, raw, some, given, later, ◌⊛◌, ⋆, mean, ◌$◌, ◌∵◌, !, qed, move, keep, drop, use1, use2, use3, split, join, pick, rewrite, fsplit, fjoin, feq_l, frame, check, await, updating, now as at_once, show, done}
use types.Tokens.{lft_new, lft_end}
use denote.RattleType.{RattleType}
use denote.Builtin.{unit, u64}
use denote.Copied.{Array-Copied, uint_Copied, each_lends}
use denote.Lends.{Lent as Lends}
use denote.Memory.{mem, shares}
use denote.Struct.Laws as LL
use types.Share.{parts}
use Rattle.ldc.specs.Layout.{row_size}
use denote.Ref.{Bor, MutBor}
use denote.Slice.{slice_val, MutSlice, ShrSlice, Room, elements_shared, finally}
use denote.Steps.{only, heard, nothing}
use denote.Triple.Spec.{triple_of}
use denote.Triple.Statement.{Contract}
use denote.Triple.Clauses.{ensured, lasts}
use denote.Triple.Walked.{says}
use Rattle.walks.proofs.Pieces.{Row}
use Rattle.walks.proofs.Again.{LentAgain, lends_again, comes_back}
use Rattle.walks.proofs.Shared.{LentShared, lends_shared, back-shared}
use Rattle.store_cards.specs.Card.{rows_of}
use Rattle.store_cards.specs.declared.Card.{Card}
use Rattle.store_cards.specs.contracts.Card as T
use Rattle.store_cards.proofs.Card.TheLaws as T'
use Rattle.store_cards.specs.contracts.load as load_fn
use Rattle.store_cards.specs.contracts.unload as unload-fn

abbrev pub R : RattleType
R = T.the_row

-- the contracts that the proofs cite
module _ {M : Type 1} {𝓤 : Ura M} (𝓛 : Logic 𝓤) (at_mem : Memory → SProp 𝓤) (run : Routine → Fun 𝓤) where
  abbrev pub Load : Contract 𝓤
  Load = triple_of 𝓛 load_fn.signature (load_fn.spec 𝓛 at_mem run)

  abbrev pub Unload : Contract 𝓤
  Unload = triple_of 𝓛 unload-fn.signature (unload-fn.spec 𝓛 at_mem run)

-- cards and rows in memory are lent as shared
module _ {M : Type 1} {𝓤 : Ura M} (𝓛 : Logic 𝓤) where
  card-lends : (ys : List Card) (b o : ℕ) → Lends 𝓛 (parts (mem R) (shares R) full_share ys b o) (elements_shared R ys b o)
  card-lends ys b o = each_lends 𝓛 R (LL.copied T.the_type T'.the_copy 𝓛) full_share ys b o

  row-lends : (ys : List (List ℕ)) (b o : ℕ) → Lends 𝓛 (parts (mem Row) (shares Row) full_share ys b o) (elements_shared Row ys b o)
  row-lends ys b o = each_lends 𝓛 Row (Array-Copied 𝓛 u64 (uint_Copied 𝓛 w64) tt row_size) full_share ys b o

-- a lifetime of a call, and a name for it
abbrev pub Lent : Type 0
Lent = ℕ × GName

-- the lent cards and the lent rows, each with its lifetime and the share of that lifetime's token
pub record Pair : Type 0 where
  pub cards : MutBor (List Card)
  pub rows : MutBor (List (List ℕ))
  pub cards-for : Lft
  pub rows-for : Lft
  pub cards-share : Share
  pub rows-share : Share

module _ {M : Type 1} {𝓤 : Ura M} (𝓛 : Logic 𝓤) (at_mem : Memory → SProp 𝓤) (run : Routine → Fun 𝓤) (p : Pair) where
  abbrev x₂ : MutBor (List Card)
  x₂ = p.cards

  abbrev x₃ : MutBor (List (List ℕ))
  x₃ = p.rows

  abbrev κ₁ : Lft
  κ₁ = p.cards-for

  abbrev κ₂ : Lft
  κ₂ = p.rows-for

  abbrev q₁ : Share
  q₁ = p.cards-share

  abbrev q₂ : Share
  q₂ = p.rows-share

  abbrev s₂ : Val
  s₂ = slice_val x₂.ref_ptr (length x₂.now)

  abbrev s₃ : Val
  s₃ = slice_val x₃.ref_ptr (length x₃.now)

  -- the cards as shared, the rows under another name at the list l, the same as shared, and the rows that the cards show
  abbrev cards-seen : Bor (List Card)
  cards-seen = record { ref_ptr = (x₂.ref_ptr.0, x₂.ref_ptr.1); now = x₂.now }

  abbrev pub rows_as : GName → List (List ℕ) → MutBor (List (List ℕ))
  rows_as δ l = record { ref_ptr = (x₃.ref_ptr.0, x₃.ref_ptr.1); ghost_name = δ; now = l }

  abbrev rows-seen : List (List ℕ) → Bor (List (List ℕ))
  rows-seen l = record { ref_ptr = (x₃.ref_ptr.0, x₃.ref_ptr.1); now = l }

  abbrev pub shown : List (List ℕ)
  shown = rows_of x₂.now

  abbrev pub Cards : Fml
  Cards = (MutSlice (named 1) κ₁ R).own_val x₂ (s₂ ∷ [])

  abbrev pub Rows : List (List ℕ) → Fml
  Rows l = (MutSlice (named 2) κ₂ Row).own_val (rows_as x₃.ghost_name l) (s₃ ∷ [])

  abbrev pub Rows-again : Lent → List (List ℕ) → Fml
  Rows-again g l = (MutSlice (named 1) (g.0 ∷ []) Row).own_val (rows_as g.1 l) (s₃ ∷ [])

  -- cards and rows, each with its lifetime's token
  abbrev pub Both : List (List ℕ) → Item 𝓤
  Both l = ‵ Cards ⊛ ‵ (flft κ₁ q₁) ⊛ ‵ (Rows l) ⊛ ‵ (flft κ₂ q₂)

  -- ---- `load`

  abbrev to-load : ℕ → Lent → (Load 𝓛 at_mem run).Ghost
  to-load ν h = (((ν ∷ [], (h.0 ∷ [], tt)), (full_share, (full_share, tt)), tt, (cards-seen, (rows_as h.1 x₃.now, tt)), (s₂ ∷ [], (s₃ ∷ [], tt))), tt)

  abbrev pub loading : ℕ × Lent → (Load 𝓛 at_mem run).Ghost
  loading g = to-load g.0 g.1

  abbrev Cards-shared : ℕ → Fml
  Cards-shared ν = (ShrSlice (named 0) (ν ∷ []) R).own_val cards-seen (s₂ ∷ [])

  abbrev pub Cards-kept : ℕ → Fml
  Cards-kept ν = LentShared R κ₁ (ν ∷ []) q₁ x₂.ghost_name x₂.ref_ptr.0 x₂.ref_ptr.1 x₂.now

  abbrev pub Rows-kept : Lent → List (List ℕ) → Fml
  Rows-kept h l = LentAgain Row κ₂ (h.0 ∷ []) q₂ x₃.ghost_name x₃.ref_ptr.0 x₃.ref_ptr.1 h.1 l

  abbrev pub Load-kept : ℕ × Lent → Fml
  Load-kept g = fsep (Cards-kept g.0) (Rows-kept g.1 x₃.now)

  goes_load : (ν : ℕ) (h : Lent) → length x₃.now ≡ length x₂.now
      → ent 𝓤 (⋆ 𝓛 ((‵ (flft (ν ∷ []) full_share) ⊛ ‵ (flft (h.0 ∷ []) full_share) ⊛ ‵ ftrue) ∷ ‵ (fsep (Cards-shared ν) (fsep (Rows-again h x₃.now) ftrue)) ∷ [])) ((Load 𝓛 at_mem run).pre (to-load ν h))
  goes_load ν h same = qed 𝓛 ((‵ (flft (ν ∷ []) full_share) ⊛ ‵ (flft (h.0 ∷ []) full_share) ⊛ ‵ ftrue) ∷ ‵ (fsep (Cards-shared ν) (fsep (Rows-again h x₃.now) ftrue)) ∷ []) ∵ says ! same $ frame ! $ done !

  abbrev pub To-load : Item 𝓤
  To-load = later (some (λ (g : ℕ × Lent). raw ((Load 𝓛 at_mem run).pre (loading g)) ⊛ ‵ (Load-kept g)))

  pub lends-load : length x₃.now ≡ length x₂.now → ent 𝓤 (mean 𝓛 (Both x₃.now)) (mean 𝓛 To-load)
  lends-load same =
      qed 𝓛 (‵ Cards ∷ ‵ (flft κ₁ q₁) ∷ ‵ (Rows x₃.now) ∷ ‵ (flft κ₂ q₂) ∷ []) ∵ updating ! $
      lft_new ! tt (λ ν. move ! (1 ∷ 2 ∷ []) $ use2 𝓛 (later (‵ (Cards-shared ν) ⊛ ‵ (Cards-kept ν))) (lends_shared R κ₁ (ν ∷ []) q₁ x₂.ghost_name x₂.ref_ptr.0 x₂.ref_ptr.1 x₂.now 𝓛 (named 1) (named 0) (card-lends 𝓛 x₂.now x₂.ref_ptr.0 x₂.ref_ptr.1) _ refl) $ await ! tt $ split ! $
      -- [the cards, shared; what is kept of them; ν; the rows; κ₂]
      lft_new ! tt (λ μ. move ! (4 ∷ 5 ∷ []) $ use2 𝓛 (later (some (λ (ε : GName). ‵ (Rows-again (μ, ε) x₃.now) ⊛ ‵ (Rows-kept (μ, ε) x₃.now)))) (lends_again Row κ₂ (μ ∷ []) q₂ x₃.ghost_name x₃.ref_ptr.0 x₃.ref_ptr.1 𝓛 (named 2) (named 1) x₃.now _ refl) $ await ! tt $ pick ! (λ ε. split ! $
      -- [the rows; what is kept of them; μ; the cards, shared; what is kept of them; ν]
      nothing ! $ move ! (1 ∷ 0 ∷ []) $ fjoin ! $ move ! (3 ∷ 0 ∷ []) $ fjoin ! $ nothing ! $ move ! (3 ∷ 0 ∷ []) $ join ! $ move ! (4 ∷ 0 ∷ []) $ join ! $
      -- [the tokens; what they own; what is kept of the rows; of the cards]
      use2 𝓛 (raw ((Load 𝓛 at_mem run).pre (to-load ν (μ, ε)))) (goes_load ν (μ, ε) same) $
      at_once ! $ show ! (λ (g : ℕ × Lent). sep 𝓤 ((Load 𝓛 at_mem run).pre (loading g)) (mean 𝓛 (‵ (Load-kept g)))) (ν, (μ, ε)) $ frame ! $ move ! (1 ∷ 0 ∷ []) $ fjoin ! $ done !)))

  abbrev pub Loaded : Val → Item 𝓤
  Loaded w = later (given (T (has_ty ty_unit w) × WT w) (Both shown))

  pub backs-load : (g : ℕ × Lent) (w : Val) → Room R (length x₂.now) → Room Row (length x₃.now) → ent 𝓤 (sep 𝓤 ((Load 𝓛 at_mem run).post (loading g) w) (mean 𝓛 (‵ (Load-kept g)))) (mean 𝓛 (Loaded w))
  backs-load (ν, (μ, ε)) w room₂ room₃ =
      qed 𝓛 (raw ((Load 𝓛 at_mem run).post (loading (ν, (μ, ε))) w) ∷ ‵ (Load-kept (ν, (μ, ε))) ∷ []) ∵ updating ! $
      use1 𝓛 (later (some (λ (u : Unit {0}). ((‵ (flft (ν ∷ []) full_share) ⊛ ‵ (flft (μ ∷ []) full_share) ⊛ ‵ ftrue) ⊛ ‵ (unit.own_val u (w ∷ []))) ⊛ raw (ensured 𝓛 load_fn.ended (load_fn.clauses 𝓛 at_mem run) (ν ∷ [], (μ ∷ [], tt)) (cards-seen, (rows_as ε x₃.now, tt)) tt u)))) (id⊢ 𝓤 _) $ await ! tt $ pick ! (λ u. split ! $
      move ! (1 ∷ []) $ use1 𝓛 (some (λ (z : Unit {0} × (List (List ℕ) × Unit {0})). ‵ (lasts load_fn.ended (ν ∷ [], (μ ∷ [], tt)) (cards-seen, (rows_as ε x₃.now, tt)) z) ⊛ raw (fact 𝓤 (z.1.0 ≡ shown)))) (id⊢ 𝓤 _) $ pick ! (λ z. split ! $ move ! (1 ∷ []) $ heard ! (z.1.0 ≡ shown) (λ e.
      fsplit ! $ move ! (1 ∷ []) $ fsplit ! $ fsplit ! $ move ! (1 ∷ []) $ drop ! $ fsplit ! $ move ! (1 ∷ []) $ feq_l ! (λ l. move ! (3 ∷ []) $ split ! $ move ! (1 ∷ []) $ feq_l ! (λ v.
      -- [the tokens; the rows' last list; nothing; nothing; what is kept]
      split ! $ move ! (1 ∷ []) $ split ! $ move ! (6 ∷ []) $ fsplit ! $
      -- [kept of the cards; kept of the rows; μ; nothing; ν; the rows' last list]
      move ! (4 ∷ []) $ lft_end ! tt $ use2 𝓛 (later (‵ Cards ⊛ ‵ (flft κ₁ q₁))) (back-shared R κ₁ (ν ∷ []) q₁ x₂.ghost_name x₂.ref_ptr.0 x₂.ref_ptr.1 x₂.now 𝓛 (named 1) (named 0) _ refl room₂) $ await ! tt $ split ! $
      -- [the cards; κ₁; kept of the rows; μ; nothing; the rows' last list]
      move ! (3 ∷ []) $ lft_end ! tt $ move ! (0 ∷ 3 ∷ 5 ∷ []) $ use3 𝓛 (later (‵ (Rows z.1.0) ⊛ ‵ (flft κ₂ q₂))) (comes_back Row κ₂ (μ ∷ []) q₂ x₃.ghost_name x₃.ref_ptr.0 x₃.ref_ptr.1 𝓛 (named 2) (named 1) x₃.now _ refl ε z.1.0 room₃ l) $ await ! tt $ split ! $
      rewrite ! 0 (λ (k : List (List ℕ)). ‵ (Rows k)) e refl $
      at_once ! $ check ! (subst (λ (y : Val). T (has_ty ty_unit y) × WT y) (sym (ap only v)) (tt, tt)) $ keep ! (2 ∷ 3 ∷ 0 ∷ 1 ∷ []) $ done !)))))

  -- ---- the store's own function

  abbrev pub To-rows : List (List ℕ) → Item 𝓤
  To-rows l = later (some (λ (g : Lent). ‵ (Rows-again g l) ⊛ ‵ (flft (g.0 ∷ []) full_share) ⊛ ‵ (Rows-kept g l)))

  pub lends-rows : (l : List (List ℕ)) → length l ≡ length x₃.now → ent 𝓤 (mean 𝓛 (‵ (Rows l) ⊛ ‵ (flft κ₂ q₂))) (mean 𝓛 (To-rows l))
  lends-rows l long =
      qed 𝓛 (‵ (Rows l) ∷ ‵ (flft κ₂ q₂) ∷ []) ∵ updating ! $
      lft_new ! tt (λ μ. move ! (1 ∷ 2 ∷ []) $ use2 𝓛 (later (some (λ (ε : GName). ‵ (Rows-again (μ, ε) l) ⊛ ‵ (Rows-kept (μ, ε) l)))) (lends_again Row κ₂ (μ ∷ []) q₂ x₃.ghost_name x₃.ref_ptr.0 x₃.ref_ptr.1 𝓛 (named 2) (named 1) l _ long) $ await ! tt $ pick ! (λ ε. split ! $
      at_once ! $ show ! (λ (g : Lent). mean 𝓛 (‵ (Rows-again g l) ⊛ ‵ (flft (g.0 ∷ []) full_share) ⊛ ‵ (Rows-kept g l))) (μ, ε) $ keep ! (0 ∷ 2 ∷ 1 ∷ []) $ done !))

  pub backs-rows : (g : Lent) (l k : List (List ℕ)) → length l ≡ length x₃.now → length k ≡ length l → Room Row (length x₃.now)
      → ent 𝓤 (mean 𝓛 (‵ (finally Row g.1 k) ⊛ ‵ (flft (g.0 ∷ []) full_share) ⊛ ‵ (Rows-kept g l))) (mean 𝓛 (later (‵ (Rows k) ⊛ ‵ (flft κ₂ q₂))))
  backs-rows (μ, ε) l k long same room₃ =
      qed 𝓛 (‵ (finally Row ε k) ∷ ‵ (flft (μ ∷ []) full_share) ∷ ‵ (Rows-kept (μ, ε) l) ∷ []) ∵ updating ! $ move ! (1 ∷ []) $ lft_end ! tt $ move ! (0 ∷ 2 ∷ 1 ∷ []) $
      use3 𝓛 (later (‵ (Rows k) ⊛ ‵ (flft κ₂ q₂))) (comes_back Row κ₂ (μ ∷ []) q₂ x₃.ghost_name x₃.ref_ptr.0 x₃.ref_ptr.1 𝓛 (named 2) (named 1) l _ long ε k (subst (Room Row) (sym long) room₃) same) $ await ! tt $ at_once ! $ done !

  -- ---- `unload`

  abbrev pub unloading : List (List ℕ) → ℕ → (Unload 𝓛 at_mem run).Ghost
  unloading l μ = (((κ₁, (μ ∷ [], tt)), (q₁, (full_share, tt)), tt, (x₂, (rows-seen l, tt)), (s₂ ∷ [], (s₃ ∷ [], tt))), tt)

  abbrev Rows-shared : List (List ℕ) → ℕ → Fml
  Rows-shared l μ = (ShrSlice (named 1) (μ ∷ []) Row).own_val (rows-seen l) (s₃ ∷ [])

  abbrev pub Unload-kept : List (List ℕ) → ℕ → Fml
  Unload-kept l μ = LentShared Row κ₂ (μ ∷ []) q₂ x₃.ghost_name x₃.ref_ptr.0 x₃.ref_ptr.1 l

  goes-unload : (l : List (List ℕ)) (g : ℕ) → length l ≡ length x₂.now
      → ent 𝓤 (⋆ 𝓛 ((‵ (flft κ₁ q₁) ⊛ ‵ (flft (g ∷ []) full_share) ⊛ ‵ ftrue) ∷ ‵ (fsep Cards (fsep (Rows-shared l g) ftrue)) ∷ [])) ((Unload 𝓛 at_mem run).pre (unloading l g))
  goes-unload l g same = qed 𝓛 ((‵ (flft κ₁ q₁) ⊛ ‵ (flft (g ∷ []) full_share) ⊛ ‵ ftrue) ∷ ‵ (fsep Cards (fsep (Rows-shared l g) ftrue)) ∷ []) ∵ says ! same $ frame ! $ done !

  abbrev pub To-unload : List (List ℕ) → Item 𝓤
  To-unload l = later (some (λ (g : ℕ). raw ((Unload 𝓛 at_mem run).pre (unloading l g)) ⊛ ‵ (Unload-kept l g)))

  pub lends-unload : (l : List (List ℕ)) → length l ≡ length x₃.now → length l ≡ length x₂.now → ent 𝓤 (mean 𝓛 (Both l)) (mean 𝓛 (To-unload l))
  lends-unload l long same =
      qed 𝓛 (‵ Cards ∷ ‵ (flft κ₁ q₁) ∷ ‵ (Rows l) ∷ ‵ (flft κ₂ q₂) ∷ []) ∵ updating ! $
      lft_new ! tt (λ μ. move ! (3 ∷ 4 ∷ []) $ use2 𝓛 (later (‵ (Rows-shared l μ) ⊛ ‵ (Unload-kept l μ))) (lends_shared Row κ₂ (μ ∷ []) q₂ x₃.ghost_name x₃.ref_ptr.0 x₃.ref_ptr.1 l 𝓛 (named 2) (named 1) (row-lends 𝓛 l x₃.ref_ptr.0 x₃.ref_ptr.1) _ long) $ await ! tt $ split ! $
      -- [the rows, shared; what is kept of them; μ; the cards; κ₁]
      nothing ! $ move ! (1 ∷ 0 ∷ []) $ fjoin ! $ move ! (3 ∷ 0 ∷ []) $ fjoin ! $ nothing ! $ move ! (3 ∷ 0 ∷ []) $ join ! $ move ! (3 ∷ 0 ∷ []) $ join ! $
      use2 𝓛 (raw ((Unload 𝓛 at_mem run).pre (unloading l μ))) (goes-unload l μ same) $
      at_once ! $ show ! (λ (g : ℕ). sep 𝓤 ((Unload 𝓛 at_mem run).pre (unloading l g)) (mean 𝓛 (‵ (Unload-kept l g)))) μ $ done !)

  -- the cards that came back show the rows
  abbrev pub Unloaded : List (List ℕ) → Val → Item 𝓤
  Unloaded l w = later (some (λ (cs : List Card). given ((rows_of cs ≡ l) × ((length cs ≡ length x₂.now) × (T (has_ty ty_unit w) × WT w))) (‵ (finally R x₂.ghost_name cs) ⊛ ‵ (flft κ₁ q₁) ⊛ ‵ (Rows l) ⊛ ‵ (flft κ₂ q₂))))

  pub backs-unload : (l : List (List ℕ)) (μ : ℕ) (w : Val) → length l ≡ length x₃.now → Room Row (length x₃.now)
      → ent 𝓤 (sep 𝓤 ((Unload 𝓛 at_mem run).post (unloading l μ) w) (mean 𝓛 (‵ (Unload-kept l μ)))) (mean 𝓛 (Unloaded l w))
  backs-unload l μ w long room₃ =
      qed 𝓛 (raw ((Unload 𝓛 at_mem run).post (unloading l μ) w) ∷ ‵ (Unload-kept l μ) ∷ []) ∵ updating ! $
      use1 𝓛 (later (some (λ (u : Unit {0}). ((‵ (flft κ₁ q₁) ⊛ ‵ (flft (μ ∷ []) full_share) ⊛ ‵ ftrue) ⊛ ‵ (unit.own_val u (w ∷ []))) ⊛ raw (ensured 𝓛 unload-fn.ended (unload-fn.clauses 𝓛 at_mem run) (κ₁, (μ ∷ [], tt)) (x₂, (rows-seen l, tt)) tt u)))) (id⊢ 𝓤 _) $ await ! tt $ pick ! (λ u. split ! $
      move ! (1 ∷ []) $ use1 𝓛 (some (λ (y : List Card × (Unit {0} × Unit {0})). ‵ (lasts unload-fn.ended (κ₁, (μ ∷ [], tt)) (x₂, (rows-seen l, tt)) y) ⊛ raw (fact 𝓤 (rows_of y.0 ≡ l)))) (id⊢ 𝓤 _) $ pick ! (λ z. split ! $ move ! (1 ∷ []) $ heard ! (rows_of z.0 ≡ l) (λ e.
      fsplit ! $ fsplit ! $ move ! (1 ∷ []) $ drop ! $ fsplit ! $ move ! (1 ∷ []) $ feq_l ! (λ same. move ! (2 ∷ []) $ split ! $ move ! (1 ∷ []) $ feq_l ! (λ v.
      -- [the tokens; the cards' last list; nothing; what is kept]
      split ! $ move ! (1 ∷ []) $ split ! $
      -- [μ; nothing; κ₁; the cards' last list; nothing; what is kept]
      lft_end ! tt $ move ! (0 ∷ 5 ∷ []) $ use2 𝓛 (later (‵ (Rows l) ⊛ ‵ (flft κ₂ q₂))) (back-shared Row κ₂ (μ ∷ []) q₂ x₃.ghost_name x₃.ref_ptr.0 x₃.ref_ptr.1 l 𝓛 (named 2) (named 1) _ long (subst (Room Row) (sym long) room₃)) $ await ! tt $ split ! $
      -- [the rows; κ₂; nothing; κ₁; the cards' last list]
      at_once ! $ show ! (λ (cs : List Card). mean 𝓛 (given ((rows_of cs ≡ l) × ((length cs ≡ length x₂.now) × (T (has_ty ty_unit w) × WT w))) (‵ (finally R x₂.ghost_name cs) ⊛ ‵ (flft κ₁ q₁) ⊛ ‵ (Rows l) ⊛ ‵ (flft κ₂ q₂)))) z.0 $
      check ! (e, (same, subst (λ (y : Val). T (has_ty ty_unit y) × WT y) (sym (ap only v)) (tt, tt))) $ keep ! (4 ∷ 3 ∷ 0 ∷ 1 ∷ []) $ done !)))))
