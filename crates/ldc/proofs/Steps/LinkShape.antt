-- What a link leaves, place by place: the chosen table is frozen and out of its level, each table below has its old links and behind them what it
-- gained, and all else is as it was.
use Prim.Native.Nat.{ℕ, suc, ◌≤◌, ◌<◌}
use mathlib.Core.Path.{◌≡◌, refl, sym, ◌∙◌, ap}
use mathlib.Core.List.Memᴰ
use mathlib.Core.List.{List, [], ◌∷◌, ◌++◌, append-nil, Memᴰ}
use mathlib.Core.Bool.{Bool, true, false}
use native.Mathlib.Omega.{arith}
use borrow.Author.Tests.{eqb-true, eqb-false, ne_eqb}
use lib.Dec.{eqb}
use lib.ListN.{length, get_or, set}
use lib.Seq.{get_or-set_same, get_or-set_other}
use Rattle.table.specs.Entry.{Entry}
use Rattle.ldc.specs.Store.{Link, Card, frozen, Store, size, card, links, is_live, is_frozen, bytes_at, table, level, with_card}
use Rattle.ldc.specs.Tidy.{Slice, slices_of}
use Rattle.ldc.specs.Steps.{replaced, leaves, do_link}
use Rattle.ldc.proofs.Basics.Cases.{cases}
use Rattle.ldc.proofs.Stores.CardFacts.{live-not-free, frozen-card}
use Rattle.ldc.proofs.Stores.Changes.{card-same, card-other, below-size, size-with_card}
use Rattle.ldc.proofs.Basics.Counts.{one}
use Rattle.ldc.proofs.Stores.Facts.{listed-live, listed-once, listed-part}
use Rattle.ldc.proofs.Stores.Hang.{gains, OnLive, hang-kind, hang-links, hang-beside}
use Rattle.ldc.proofs.Steps.Move.{length-marks_after}
use Rattle.ldc.proofs.Steps.Ranges.{Assigned, distinct, assigned}
use Rattle.ldc.proofs.Stores.Sound.{Sound}
use Rattle.ldc.proofs.Steps.StepFacts.{slice-member}

-- A table that none hangs on gains nothing.
pub gains-none : (es : List Entry) (q : ℕ) (rs : List Slice) → ((r : Slice) → Memᴰ r rs → r.on ≡ q → ⊥) → gains es q rs ≡ []
gains-none es q [] h = refl
gains-none es q (r ∷ rs) h = rw (ne_eqb r.on q (h r (Memᴰ.head refl))) (gains-none es q rs (λ x m. h x (Memᴰ.tail m)))

pub one-small : (b : Bool) → one b ≤ 1
one-small true = omega arith
one-small false = omega arith

module _ (s : Store) (S : Sound s) (n p : ℕ) (m : Memᴰ p (level s n)) (bare : links s p ≡ []) where
  -- the store after, with the slices as the definition has them
  abbrev pub after : Store
  after = do_link n p (slices_of s n p) s

  -- before the links are hung
  frozen_first : Store
  frozen_first = with_card p frozen (leaves n p s)

  p-live : is_live (card s p) ≡ true
  p-live = listed-live s S n p m

  first-same : card frozen_first p ≡ frozen
  unfolding frozen_first card leaves
  first-same = card-same s p frozen (below-size s p (live-not-free (card s p) p-live))

  first-other : (q : ℕ) → (q ≡ p → ⊥) → card frozen_first q ≡ card s q
  unfolding frozen_first card leaves
  first-other q d = card-other s p frozen q d

  below_other : (q : ℕ) → Memᴰ q (level s (suc n)) → q ≡ p → ⊥
  below_other q h e = listed-once s S (suc n) n q (λ x. omega arith) h (rw e m)

  on-live : OnLive frozen_first (slices_of s n p)
  on-live r h =
      let o = (slice-member s n p r h).1 in
      rw (first-other r.on (below_other r.on o)) (listed-live s S (suc n) r.on o)

  first-links : (q : ℕ) → links frozen_first q ≡ links s q
  unfolding links
  first-links q =
      cases (eqb q p)
      (λ e. let qp : q ≡ p = eqb-true q p e in rw (qp, first-same) (sym bare))
      (λ e. rw (first-other q (eqb-false q p e)))

  -- ---- cards

  pub link-links : (q : ℕ) → links after q ≡ links s q ++ gains (table s p) q (slices_of s n p)
  unfolding do_link frozen_first
  link-links q = hang-links (table s p) (slices_of s n p) frozen_first on-live q ∙ ap (λ (ls : List Link). ls ++ gains (table s p) q (slices_of s n p)) (first-links q)

  pub link-chosen : card after p ≡ frozen
  unfolding do_link frozen_first
  link-chosen = frozen-card (card after p) (hang-kind is_frozen (λ _ _. refl) (table s p) (slices_of s n p) frozen_first on-live p ∙ ap is_frozen first-same)

  pub link-kind : (test : Card → Bool) → ((xs ys : List Link) → test (Card.live xs) ≡ test (Card.live ys)) → (q : ℕ) → (q ≡ p → ⊥) → test (card after q) ≡ test (card s q)
  unfolding do_link frozen_first
  link-kind test same q d = hang-kind test same (table s p) (slices_of s n p) frozen_first on-live q ∙ ap test (first-other q d)

  -- a table that is not on the level below gains nothing
  pub link-others : (q : ℕ) → (Memᴰ q (level s (suc n)) → ⊥) → links after q ≡ links s q
  link-others q d =
      link-links q
      ∙ ap (λ (ls : List Link). links s q ++ ls) (gains-none (table s p) q (slices_of s n p) (λ r h e. d (Memᴰ.cast (sym e) (slice-member s n p r h).1)))
      ∙ append-nil (links s q)

  -- ---- the rest

  pub link-size : size after ≡ size s
  unfolding do_link frozen_first leaves
  link-size = (hang-beside (table s p) (slices_of s n p) frozen_first).same_size ∙ size-with_card (leaves n p s) p frozen ∙ (unfold size in refl)

  pub link-marks : length after.marks ≡ length s.marks
  unfolding do_link frozen_first leaves
  link-marks = ap length (hang-beside (table s p) (slices_of s n p) frozen_first).same-marks ∙ length-marks_after n p s

  pub link-threshold : after.threshold ≡ s.threshold
  unfolding do_link frozen_first leaves
  link-threshold = (hang-beside (table s p) (slices_of s n p) frozen_first).same-threshold

  pub link-cursor : after.cursor ≡ s.cursor
  unfolding do_link frozen_first leaves
  link-cursor = (hang-beside (table s p) (slices_of s n p) frozen_first).same-cursor

  pub link-memory : after.memory ≡ s.memory
  unfolding do_link frozen_first leaves
  link-memory = (hang-beside (table s p) (slices_of s n p) frozen_first).same_memory

  pub link-places : after.places ≡ s.places
  unfolding do_link frozen_first leaves
  link-places = (hang-beside (table s p) (slices_of s n p) frozen_first).same-places

  pub link-bytes : (q : ℕ) → bytes_at after q ≡ bytes_at s q
  unfolding bytes_at
  link-bytes q = ap (λ (bs : List (List ℕ)). get_or bs q []) link-places

  -- a table of another level keeps its links
  pub link-elsewhere : (i q : ℕ) → (i ≡ suc n → ⊥) → Memᴰ q (level s i) → links after q ≡ links s q
  link-elsewhere i q d h = link-others q (λ k. listed-once s S i (suc n) q d h k)

  pub link-levels : after.levels ≡ set s.levels n (replaced p [] (level s n))
  unfolding do_link frozen_first leaves
  link-levels = (hang-beside (table s p) (slices_of s n p) frozen_first).same-levels

  pub link-from : n < length s.levels → level after n ≡ replaced p [] (level s n)
  unfolding level
  link-from h = rw link-levels (get_or-set_same s.levels n (replaced p [] (level s n)) [] h)

  pub link-other : (i : ℕ) → (i ≡ n → ⊥) → level after i ≡ level s i
  unfolding level
  link-other i d = rw link-levels (get_or-set_other s.levels n i (replaced p [] (level s n)) [] d)

  -- what each table below gains
  pub link-assigned : Assigned s (λ q. gains (table s p) q (slices_of s n p)) (table s p) p 0 (level s (suc n))
  unfolding slices_of
  link-assigned =
      assigned s (table s p) p 0 (level s (suc n))
      (distinct (level s (suc n)) (λ q. omega (arith, listed-part s S (suc n) q, one-small (is_live (card s q)))))
