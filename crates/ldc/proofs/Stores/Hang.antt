-- What hanging links leaves: each table has its old links and behind them those that were hung on it; all else is as it was.
-- By induction on the links that are hung.
use Prim.Native.Nat.{ℕ}
use mathlib.Core.Path.{◌≡◌, refl, sym, ◌∙◌, ap, subst}
use mathlib.Core.List.{List, [], ◌∷◌, ◌++◌, map, append_assoc, append-nil, Memᴰ}
use mathlib.Core.Bool.{Bool, true}
use borrow.Author.Tests.{eqb-true, eqb-false}
use lib.Dec.{eqb}
use Rattle.table.specs.Entry.{Entry}
use Rattle.ldc.specs.Lists.{keep}
use Rattle.ldc.specs.Store.{Link, Card, live, Store, size, card, links, links_of, is_live, with_card}
use Rattle.ldc.specs.Tidy.{Slice}
use Rattle.ldc.specs.Steps.{link_to, hang}
use Rattle.ldc.proofs.Basics.Cases.{cases}
use Rattle.ldc.proofs.Stores.CardFacts.{live-not-free, live-links}
use Rattle.ldc.proofs.Stores.Changes.{card-same, card-other, below-size, size-with_card}

-- The links to slices of a table with these entries, of those that are hung on the table q.
abbrev pub gains : (chosen : List Entry) → (q : ℕ) → List Slice → List Link
gains es q rs = map (link_to es) (keep (λ r. eqb r.on q) rs)

-- The tables that links are hung on are live.
abbrev pub OnLive : Store → List Slice → Type 0
OnLive s rs = (r : Slice) → Memᴰ r rs → is_live (card s r.on) ≡ true

-- ---- one link

module _ (es : List Entry) (r : Slice) (s : Store) (h : is_live (card s r.on) ≡ true) where
  hung : Store
  hung = with_card r.on (live (links s r.on ++ (link_to es r ∷ []))) s

  hung-card : card hung r.on ≡ live (links s r.on ++ (link_to es r ∷ []))
  unfolding hung
  hung-card = card-same s r.on (live (links s r.on ++ (link_to es r ∷ []))) (below-size s r.on (live-not-free (card s r.on) h))

  hung-other : (q : ℕ) → (q ≡ r.on → ⊥) → card hung q ≡ card s q
  unfolding hung
  hung-other q d = card-other s r.on (live (links s r.on ++ (link_to es r ∷ []))) q d

  -- a test that asks only whether a card is free, live or frozen
  hung-kind : (test : Card → Bool) → ((xs ys : List Link) → test (live xs) ≡ test (live ys)) → (q : ℕ) → test (card hung q) ≡ test (card s q)
  hung-kind test same q =
      cases (eqb q r.on)
      (λ e. let qe : q ≡ r.on = eqb-true q r.on e in
      rw (qe, hung-card) (same (links s r.on ++ (link_to es r ∷ [])) (links_of (card s r.on)) ∙ ap test (sym (live-links (card s r.on) h))))
      (λ e. ap test (hung-other q (eqb-false q r.on e)))

  hung-links : (q : ℕ) (rs : List Slice) → links hung q ++ gains es q rs ≡ links s q ++ gains es q (r ∷ rs)
  unfolding links
  hung-links q rs =
      cases (eqb r.on q)
      (λ e. let qe : r.on ≡ q = eqb-true r.on q e in
      let self : eqb r.on r.on ≡ true = rw (← qe) at e in
      subst (λ x. links hung x ++ gains es x rs ≡ links s x ++ gains es x (r ∷ rs)) qe
      (rw (self, hung-card) (append_assoc (links s r.on) (link_to es r ∷ []) (gains es r.on rs))))
      (λ e. rw (e, hung-other q (λ d. eqb-false r.on q e (sym d))))

-- ---- all of them

pub hang-kind : (test : Card → Bool) → ((xs ys : List Link) → test (live xs) ≡ test (live ys))
    → (es : List Entry) (rs : List Slice) (s : Store) → OnLive s rs → (q : ℕ) → test (card (hang es rs s) q) ≡ test (card s q)
unfolding hung
hang-kind test same es [] s o q = refl
hang-kind test same es (r ∷ rs) s o q =
    let h = o r (Memᴰ.head refl) in
    hang-kind test same es rs (hung es r s h) (λ x m. hung-kind es r s h is_live (λ _ _. refl) x.on ∙ o x (Memᴰ.tail m)) q
    ∙ hung-kind es r s h test same q

pub hang-links : (es : List Entry) (rs : List Slice) (s : Store) → OnLive s rs → (q : ℕ) → links (hang es rs s) q ≡ links s q ++ gains es q rs
unfolding hung
hang-links es [] s o q = sym (append-nil (links s q))
hang-links es (r ∷ rs) s o q =
    let h = o r (Memᴰ.head refl) in
    hang-links es rs (hung es r s h) (λ x m. hung-kind es r s h is_live (λ _ _. refl) x.on ∙ o x (Memᴰ.tail m)) q
    ∙ hung-links es r s h q rs

-- What is not a card is untouched.
pub record Beside (s s' : Store) : Type 0 where
  pub same_size : size s' ≡ size s
  pub same-places : s'.places ≡ s.places
  pub same-levels : s'.levels ≡ s.levels
  pub same-marks : s'.marks ≡ s.marks
  pub same-threshold : s'.threshold ≡ s.threshold
  pub same-cursor : s'.cursor ≡ s.cursor
  pub same_memory : s'.memory ≡ s.memory

pub beside-itself : (s : Store) → Beside s s
beside-itself s = record {
  same_size = refl;
  same-places = refl;
  same-levels = refl;
  same-marks = refl;
  same-threshold = refl;
  same-cursor = refl;
  same_memory = refl;
}

pub beside-card : (s s' : Store) (p : ℕ) (c : Card) → Beside (with_card p c s) s' → Beside s s'
beside-card s s' p c b = record {
  same_size = b.same_size ∙ size-with_card s p c;
  same-places = b.same-places;
  same-levels = b.same-levels;
  same-marks = b.same-marks;
  same-threshold = b.same-threshold;
  same-cursor = b.same-cursor;
  same_memory = b.same_memory;
}

pub hang-beside : (es : List Entry) (rs : List Slice) (s : Store) → Beside s (hang es rs s)
hang-beside es [] s = beside-itself s
hang-beside es (r ∷ rs) s =
    let c : Card = live (links s r.on ++ (link_to es r ∷ [])) in
    beside-card s (hang es rs (with_card r.on c s)) r.on c (hang-beside es rs (with_card r.on c s))
