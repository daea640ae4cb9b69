-- The tables asked of all levels, turn by turn and how many; and that those of a kept store decide its look-ups.
use Prim.Native.Nat.{ℕ, suc, ◌+◌, ◌-◌, ◌≤◌, ◌<◌}
use mathlib.Core.Path.{◌≡◌, refl, sym, ◌∙◌, ap}
use mathlib.Core.List.{List, [], ◌∷◌, ◌++◌, append-nil}
use mathlib.Core.Option.{Option, some, none}
use native.Mathlib.Omega.{arith}
use native.Mathlib.Numerals.{add-one}
use lib.Dec.{eqb}
use lib.ListN.{length, get_or, length-append}
use Rattle.coding.specs.Number.{Bytes}
use Rattle.table.specs.Limits.{place_size}
use Rattle.table.specs.Entry.{Entry, entry_at}
use Rattle.table.specs.Table.{entries}
use Rattle.table.specs.Search.{find, find_in, shown}
use Rattle.std.specs.Prelude as code
use Rattle.table.proofs.Found.{shown-find}
use Rattle.ldc.specs.Lists.{keep, flat}
use Rattle.ldc.specs.Store.{Store, card, links, bytes_at, table, span_start, span_end, span_holds}
use Rattle.ldc.specs.Lent.{Lent, store_of}
use Rattle.ldc.specs.Layout.{most_places, level_count, link_limit, state_of, card_of, items_in}
use Rattle.ldc.specs.Read.{read_order}
use Rattle.ldc.specs.Probe.{asked_of, asked_on, asked, summary_at, has_bits, up_to, opened_of, opened, bits_in}
use Rattle.ldc.proofs.Basics.Cases.{cases}
use Rattle.ldc.proofs.Entries.Finds.{or_else, find-append}
use Rattle.ldc.proofs.Lent.Parts.{length-links_at}
use Rattle.ldc.proofs.Stores.Asked.{tables, few-asked_on, view-asked}
use Rattle.book.specs.Pieces.{lent}
use Rattle.book.specs.Rows.{shown_by}
use Rattle.read.specs.Shown.{Legible, Rising, Kept}
use Rattle.read.specs.Look.{Levels}
use Rattle.read.proofs.Levels.{sound-kept}
use Rattle.read.proofs.Pieces.{links-shown, level-items}
use Rattle.read.proofs.Rank.{spans}
use Rattle.read.proofs.Walks.{items-long}
use Rattle.read_get.specs.Opens.{asked_from, asked_in}

-- ---- how many

module _ (area : List ℕ) (cards : List (List ℕ)) (k : ℕ) where
  few-links : (p : ℕ) → length (links (shown_by area cards) p) ≤ link_limit
  unfolding card_of
  few-links p =
      rw (links-shown (lent area cards [] [] []) p)
      (cases (eqb (state_of (get_or cards p [])) 1)
      (λ q. rw (q, length-links_at) (omega arith))
      (λ q. rw q (cases (eqb (state_of (get_or cards p [])) 2) (λ t. rw t (omega arith)) (λ t. rw t (omega arith)))))

  -- A level's one table, and its links.
  few-level : (items : List ℕ) → Bytes area → Legible area cards → Rising area cards items → length (asked_on (shown_by area cards) k items) ≤ link_limit + 1
  few-level items b g r = few-asked_on (shown_by area cards) k 0 link_limit items (spans area cards items b g r) few-links

  pub few-rising : (items : List ℕ) → Bytes area → Legible area cards → Rising area cards items → length (asked_on (shown_by area cards) k items) ≤ most_places
  few-rising items b g r = omega (arith, few-level items b g r)

-- ---- level by level

module _ (area : List ℕ) (cards : List (List ℕ)) (lists head : List ℕ) (k : ℕ) where
  pub from-turn : (n : ℕ) → n < level_count
      → asked_from area cards lists head k (level_count - n) n
      ≡ asked_on (shown_by area cards) k (items_in (length cards) lists head n) ++ asked_from area cards lists head k (level_count - (n + 1)) (n + 1)
  unfolding asked_from
  from-turn n h =
      let e : level_count - n ≡ suc (level_count - (n + 1)) = omega arith in
      rw (e, add-one n)

  pub from_end : (n : ℕ) → level_count ≤ n → asked_from area cards lists head k (level_count - n) n ≡ []
  unfolding asked_from
  from_end n h = let e : level_count - n ≡ 0 = omega arith in rw e

  module _ (b : Bytes area) (v : Levels area cards lists head) where
    on : (n : ℕ) → n < 3 → length (asked_on (shown_by area cards) k (items_in (length cards) lists head (suc n))) ≤ link_limit + 1
    on n h = few-level area cards k (items_in (length cards) lists head (suc n)) b v.legible (v.rising n h)

    pub few-lower : length (asked_from area cards lists head k 3 1) ≤ most_places
    unfolding asked_from
    few-lower =
        rw (length-append, length-append, length-append)
        (omega (arith, on 0 (omega arith), on 1 (omega arith), on 2 (omega arith)))

  pub few-newest : Levels area cards lists head → length (items_in (length cards) lists head 0) ≤ most_places
  few-newest v =
      omega (arith, items-long (length cards) lists head 0 (omega arith) v.sized (v.lengths 0 (omega arith)), v.lengths 0 (omega arith), v.legible.few)

-- ---- a kept store

module _ (m : Lent) (k : ℕ) where
  abbrev S : Store
  S = shown_by m.area m.cards

  abbrev all : List ℕ
  all = asked_in m.area m.cards m.lists m.head k

  -- Area and cards decide on what is asked of tables, and what is opened of them.
  same_asked : (ps : List ℕ) → asked_on S k ps ≡ asked_on (store_of m) k ps
  unfolding asked_on asked_of span_holds span_start span_end table links bytes_at card store_of
  same_asked ps = refl

  same_up : (ps : List ℕ) → up_to S k ps ≡ up_to (store_of m) k ps
  unfolding table bytes_at store_of
  same_up [] = refl
  same_up (p ∷ ps) = rw (same_up ps)

  same-opened : (ps : List ℕ) → opened_of S k ps ≡ opened_of (store_of m) k ps
  unfolding opened_of
  same-opened ps =
      let same : keep (has_bits S k) ps ≡ keep (has_bits (store_of m) k) ps = unfold has_bits summary_at table bytes_at store_of in refl in
      ap (up_to S k) same ∙ same_up (keep (has_bits (store_of m) k) ps)

  pub same_bits : (ps : List ℕ) → bits_in S ps ≡ bits_in (store_of m) ps
  unfolding summary_at table bytes_at store_of
  same_bits [] = refl
  same_bits (p ∷ ps) = rw (same_bits ps)

  same_tables : (ps : List ℕ) → tables S ps ≡ tables (store_of m) ps
  unfolding table bytes_at store_of
  same_tables ps = refl

  opened-tables : (s : Store) → find k s.memory ≡ none → opened s k ≡ opened_of s k (asked s k)
  unfolding opened
  opened-tables s h = rw h

  module _ (kept : Kept m) where
    asked-kept : all ≡ asked (store_of m) k
    unfolding asked_in asked_from asked
    asked-kept =
        rw (
          same_asked (items_in (length m.cards) m.lists m.head 1),
          same_asked (items_in (length m.cards) m.lists m.head 2),
          same_asked (items_in (length m.cards) m.lists m.head 3),
          level-items m kept 0 (omega arith),
          level-items m kept 1 (omega arith),
          level-items m kept 2 (omega arith),
          level-items m kept 3 (omega arith),
          append-nil,
        )

    -- Memory, then the tables asked.
    pub order-asked : (long : length m.memory ≡ place_size) → Bytes m.memory → Bytes m.area
        → find k (flat (read_order (store_of m))) ≡ find k (entries m.memory ++ tables S all)
    order-asked long held bytes =
        let own : find k (store_of m).memory ≡ find k (entries m.memory) = unfold store_of in refl in
        let rest : find k (tables (store_of m) (asked (store_of m) k)) ≡ find k (tables S all) =
        ap (λ (ps : List ℕ). find k (tables (store_of m) ps)) (sym asked-kept) ∙ ap (find k) (sym (same_tables all)) in
        view-asked (store_of m) (sound-kept m kept long held bytes) k
        ∙ ap (λ (o : Option Entry). or_else o (find k (tables (store_of m) (asked (store_of m) k)))) own
        ∙ ap (or_else (find k (entries m.memory))) rest
        ∙ sym (find-append k (entries m.memory) (tables S all))

    -- Where memory decides, no table is opened; else those that the walk opens.
    pub memory-decides : (at : ℕ) → find_in m.memory k ≡ code.Some at → opened (store_of m) k ≡ []
    unfolding opened store_of shown
    memory-decides at h =
        let there : find k (entries m.memory) ≡ some (entry_at m.memory at) = sym (shown-find m.memory k) ∙ ap (shown m.memory) h in
        rw there

    pub tables-decide : find_in m.memory k ≡ code.None → opened (store_of m) k ≡ opened_of S k all
    tables-decide h =
        let missed : find k (store_of m).memory ≡ none = unfold store_of shown in (sym (shown-find m.memory k) ∙ ap (shown m.memory) h) in
        opened-tables (store_of m) missed ∙ ap (opened_of (store_of m) k) (sym asked-kept) ∙ sym (same-opened all)
