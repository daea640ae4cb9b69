-- Decode after encode: the bytes that saving a sound store writes are of the form of a saved book, and over an area of as many places or more
-- they show just the store that was saved, the added places free. The fields go from left to right, by `Shown`.
use Prim.Native.Nat.{ℕ, ◌+◌, ◌-◌, ◌^◌, ◌≤◌, ◌<◌}
use mathlib.Core.Path.{◌≡◌, refl, sym, ◌∙◌, ap}
use mathlib.Core.Bool.{true}
use mathlib.Core.List.{List, [], ◌∷◌, ◌++◌, map, append_assoc, append-nil, Memᴰ}
use mathlib.Core.Option.{Option, some, none}
use native.Mathlib.Omega.{arith}
use borrow.Author.Tests.{le-leb, eq-eqb}
use lib.ListN.{length, get_or, drop, length-append, length-drop}
use Rattle.coding.specs.Number.{number_at, bytes_of}
use Rattle.coding.proofs.NumberLaws.{number_at-there, length-bytes_of}
use Rattle.table.specs.Limits.{place_size, table_limit}
use Rattle.table.specs.Table.{entries_bytes, entries_at, table_bytes}
use Rattle.table.proofs.Decode.{behind}
use Rattle.ldc.specs.Lists.{flat}
use Rattle.ldc.specs.Store.{Store, size, card, bytes_at}
use Rattle.ldc.specs.Layout.{fewest_places, most_places, mark_words}
use Rattle.ldc.specs.Lent.{places_in, chop, lent_of}
use Rattle.ldc.proofs.Basics.ListLaws.{Each, length-flat, parts-flat, mem-get_or, spell}
use Rattle.ldc.proofs.Lent.Round.{chop-parts, few-links}
use Rattle.ldc.proofs.Stores.Facts.{cursor-sound}
use Rattle.ldc.proofs.Stores.Fits.{Fits}
use Rattle.ldc.proofs.Stores.Sound.{Sound}
use Rattle.ldc.proofs.Stores.SoundRules.{threshold-eight}
use Rattle.saved_book.specs.Saved.{saved_kind, whole_size, number_bytes, mark_bytes, card_bytes, list_bytes, memory_bytes, field_bytes, saved_bytes}
use Rattle.saved_book.specs.Form.{whole_in, kind_in, places_saved, threshold_saved, cursor_saved, cards_start, head_form}
use Rattle.saved_book.specs.Form.{memory_to, cards_to, lists_to, saved_form, lists_start, memory_start}
use Rattle.saved_book.specs.Opened.{rows_saved, opened_rows, levels_saved, opened_lists, opened_head, opened_memory, opened_over, grown_over, summed_rows}
use Rattle.saved_book.proofs.Summed.{bare_row, summed-rows, bare-grown}
use Rattle.saved_book.proofs.Shown.{stands, MarkFits, MarkShown, ItemsFit, mark-shown, cards-shown, lists-shown, small-valid, entries-shown}
use Rattle.saved_book.proofs.Fitting.{mark-fits, card-fits, list-fits, length-mark_bytes, field-short}

-- ---- the head

record HeadShown (b : List ℕ) (w p t c : ℕ) (m n : Option ℕ) (r : List ℕ) : Type 0 where
  whole : whole_in b ≡ w
  kind : kind_in b ≡ saved_kind
  places : places_saved b ≡ p
  threshold : threshold_saved b ≡ t
  cursor : cursor_saved b ≡ c
  mark1 : MarkShown b 12 m (mark_bytes n ++ r)
  mark2 : MarkShown b 22 n r
  long : cards_start ≤ length b

head-shown : (b : List ℕ) (w p t c : ℕ) (m n : Option ℕ) (r : List ℕ)
    → w < 2 ^ 32 → p < 2 ^ 16 → t < 2 ^ 16 → c < 2 ^ 16 → MarkFits m → MarkFits n
    → drop 0 b ≡ bytes_of 4 w ++ (bytes_of 2 48 ++ (bytes_of 2 p ++ (bytes_of 2 t ++ (bytes_of 2 c ++ (mark_bytes m ++ (mark_bytes n ++ r))))))
    → HeadShown b w p t c m n r
head-shown b w p t c m n r hw hp ht hc hm hn whole =
    let r12 = mark_bytes m ++ (mark_bytes n ++ r) in
    let r10 = bytes_of 2 c ++ r12 in
    let r8 = bytes_of 2 t ++ r10 in
    let r6 = bytes_of 2 p ++ r8 in
    let r4 = bytes_of 2 48 ++ r6 in
    let four = behind b 0 (bytes_of 4 w) r4 4 (length-bytes_of 4 w) whole in
    let six = behind b 4 (bytes_of 2 48) r6 2 (length-bytes_of 2 48) four in
    let eight = behind b 6 (bytes_of 2 p) r8 2 (length-bytes_of 2 p) six in
    let ten = behind b 8 (bytes_of 2 t) r10 2 (length-bytes_of 2 t) eight in
    let twelve = behind b 10 (bytes_of 2 c) r12 2 (length-bytes_of 2 c) ten in
    let mark1 = mark-shown b m 12 (mark_bytes n ++ r) hm twelve in
    let size = length-mark_bytes n in
    let long = stands b 22 (mark_bytes n) r mark1.next (omega arith) in
    record {
      whole = number_at-there 4 w b 0 r4 whole (omega arith);
      kind = number_at-there 2 48 b 4 r6 four (omega arith);
      places = number_at-there 2 p b 6 r8 six (omega arith);
      threshold = number_at-there 2 t b 8 r10 eight (omega arith);
      cursor = number_at-there 2 c b 10 r12 ten (omega arith);
      mark1 = mark1;
      mark2 = mark-shown b n 22 r hn mark1.next;
      long = omega arith;
    }

-- ---- the whole

-- Bytes that show a store.
pub record BookShown (b : List ℕ) (s : Store) : Type 0 where
  pub form : saved_form b ≡ true
  pub places : places_saved b ≡ size s
  pub rows : rows_saved (places_saved b) b cards_start ≡ map bare_row s.cards
  pub levels : levels_saved b ≡ s.levels
  pub head : opened_head b ≡ s.threshold ∷ s.cursor ∷ flat (map mark_words s.marks) ++ map (λ ps. length ps) s.levels
  pub memory : opened_memory b ≡ table_bytes s.memory

two-marks : (ms : List (Option ℕ)) → length ms ≡ 2 → flat (map mark_bytes ms) ≡ mark_bytes (get_or ms 0 none) ++ mark_bytes (get_or ms 1 none)
two-marks ms h =
    ap (λ (os : List (Option ℕ)). flat (map mark_bytes os)) (spell 2 none ms h)
    ∙ ap (λ (r : List ℕ). mark_bytes (get_or ms 0 none) ++ r) (append-nil (mark_bytes (get_or ms 1 none)))

-- Behind the last byte there is none.
at-end : (b : List ℕ) (end : ℕ) → end ≤ length b → drop end b ≡ [] → end ≡ length b
at-end b end h e =
    let none_left : length b - end ≡ 0 = sym (length-drop end b) ∙ ap length e in
    omega arith

module _ (s : Store) (so : Sound s) (fi : Fits s) where
  mark1 : Option ℕ
  mark1 = get_or s.marks 0 none

  mark2 : Option ℕ
  mark2 = get_or s.marks 1 none

  cards : List ℕ
  cards = flat (map card_bytes s.cards)

  lists : List ℕ
  lists = flat (map list_bytes s.levels)

  pub length-saved_bytes : length (saved_bytes s) ≡ whole_size + length (field_bytes s)
  unfolding saved_bytes
  length-saved_bytes = simp (length-append, length-bytes_of)

  head-saved : HeadShown (saved_bytes s) (whole_size + length (field_bytes s)) (size s) s.threshold s.cursor mark1 mark2
      (cards ++ (lists ++ memory_bytes s.memory))
  unfolding saved_bytes field_bytes number_bytes cards lists mark1 mark2
  head-saved =
      head-shown (saved_bytes s) _ _ _ _ mark1 mark2 _
      (omega (arith, field-short s so)) (omega (arith, so.most)) (omega (arith, threshold-eight s so.rule_a-kept))
      (omega (arith, so.most, cursor-sound s so.rule_a-kept))
      (mark-fits s so fi mark1 (mem-get_or s.marks 0 none (omega (arith, so.two))))
      (mark-fits s so fi mark2 (mem-get_or s.marks 1 none (omega (arith, so.two))))
      (rw (two-marks s.marks so.two) (simp append_assoc))

  -- The fields behind the head.
  record FieldsShown (b : List ℕ) : Type 0 where
    rows : rows_saved (size s) b cards_start ≡ map bare_row s.cards
    cards-to : cards_to b ≡ some (lists_start b)
    levels : levels_saved b ≡ s.levels
    lists-to : lists_to b (lists_start b) ≡ some (memory_start b)
    entries : entries_at (number_at 2 b (memory_start b)) b (memory_start b + 2) ≡ s.memory
    memory-to : memory_to b (memory_start b) ≡ some (length b)

  fields-shown : (b : List ℕ) → places_saved b ≡ size s → cards_start ≤ length b
      → drop cards_start b ≡ cards ++ (lists ++ memory_bytes s.memory) → FieldsShown b
  unfolding cards lists memory_bytes number_bytes cards_to lists_to memory_to lists_start memory_start levels_saved size
  fields-shown b places long h =
      let es = s.memory in
      let few = so.memory.few in
      let c = cards-shown b s.cards cards_start _ (card-fits s so fi) long h in
      let cto : cards_to b ≡ some c.1.end = rw places c.1.turns in
      let start : lists_start b ≡ c.1.end = rw cto in
      let fits : (ps : List ℕ) → Memᴰ ps s.levels → (length ps ≤ places_saved b) × ((length ps < 2 ^ 16) × ItemsFit ps) =
      λ ps m. rw places (list-fits s so fi ps m) in
      let l = lists-shown b s.levels c.1.end (memory_bytes es) fits c.1.room c.1.next in
      let lto : lists_to b (lists_start b) ≡ some l.1.end = rw start (rw so.four at l.1.turns) in
      let start2 : memory_start b ≡ l.1.end = rw lto in
      let at = l.1.end in
      let two = behind b at (bytes_of 2 (length es)) (entries_bytes es) 2 (length-bytes_of 2 (length es)) l.1.next in
      let count : number_at 2 b at ≡ length es = number_at-there 2 (length es) b at (entries_bytes es) l.1.next (omega arith) in
      let room : at + 2 ≤ length b =
      omega (arith, stands b at (bytes_of 2 (length es)) (entries_bytes es) l.1.next (omega (arith, length-bytes_of 2 (length es))), length-bytes_of 2 (length es)) in
      let e = entries-shown b es (at + 2) [] (small-valid 0 es so.memory.keys so.memory.values) room (two ∙ sym (append-nil (entries_bytes es))) in
      let end = at-end b e.1.end e.1.room e.1.next in
      record {
        rows = c.0;
        cards-to = rw start cto;
        levels = rw start (rw so.four at l.0);
        lists-to = rw start2 lto;
        entries = rw (start2, count) e.0;
        memory-to = rw (start2, le-leb (at + 2) (length b) room, count, le-leb (length es) table_limit few) (rw end at e.1.turns);
      }

  -- What saving writes shows the store.
  pub saved-shows : BookShown (saved_bytes s) s
  unfolding head_form saved_form opened_head opened_memory mark1 mark2
  saved-shows =
      let b = saved_bytes s in
      let h = head-saved in
      let f = fields-shown b h.places h.long h.mark2.next in
      let whole : whole_in b ≡ length b = h.whole ∙ sym length-saved_bytes in
      let marks : flat (map mark_words s.marks) ≡ mark_words mark1 ++ mark_words mark2 =
      ap (λ (os : List (Option ℕ)). flat (map mark_words os)) (spell 2 none s.marks so.two)
      ∙ ap (λ (r : List ℕ). mark_words mark1 ++ r) (append-nil (mark_words mark2)) in
      record {
        form = rw (
          le-leb cards_start (length b) h.long,
          eq-eqb (whole_in b) (length b) whole,
          h.kind,
          h.places,
          le-leb fewest_places (size s) so.fewest,
          le-leb (size s) most_places so.most,
          h.mark1.good,
          h.mark2.good,
          f.cards-to,
          f.lists-to,
          f.memory-to,
        ) (eq-eqb (length b) (length b) refl);
        places = h.places;
        rows = rw h.places f.rows;
        levels = f.levels;
        head = rw (marks, ← h.mark1.words, ← h.mark2.words, h.threshold, h.cursor, f.levels);
        memory = rw f.entries;
      }

-- ---- the store as opened

-- Bytes that show a store show it over other places, too, the added ones free, if what is live or frozen there is a table.
module _ (b : List ℕ) (s : Store) (h : BookShown b s) (places : List (List ℕ)) (each : Each place_size places) (so : Sound (grown_over places s)) where
  pub places-flat : places_in (flat places) ≡ length places
  unfolding places_in
  places-flat = omega (arith, length-flat place_size places each)

  chopped : chop (places_in (flat places)) (flat places) ≡ places
  chopped = rw (places-flat, chop-parts) (parts-flat place_size places each)

  rows-bare : opened_rows (places_in (flat places)) b ≡ map bare_row (grown_over places s).cards
  unfolding opened_rows grown_over
  rows-bare = rw (places-flat, h.rows, h.places) (sym (bare-grown s.cards (length places - size s)))

  opened_rows_lem : summed_rows (opened_rows (places_in (flat places)) b) (chop (places_in (flat places)) (flat places)) ≡ (lent_of (grown_over places s)).cards
  unfolding lent_of grown_over card bytes_at
  opened_rows_lem =
      rw (rows-bare, chopped)
      (summed-rows (grown_over places s).cards places (few-links (grown_over places s) so)
      (λ p f. (so.tables p f).good))

  opened-lists : opened_lists (places_in (flat places)) b ≡ (lent_of (grown_over places s)).lists
  unfolding opened_lists lent_of grown_over
  opened-lists = rw (places-flat, h.levels)

  opened-head : opened_head b ≡ (lent_of (grown_over places s)).head
  unfolding lent_of grown_over
  opened-head = h.head

  opened-memory : opened_memory b ≡ (lent_of (grown_over places s)).memory
  unfolding lent_of grown_over
  opened-memory = h.memory

  pub opened-shown : opened_over (flat places) b ≡ lent_of (grown_over places s)
  unfolding opened_over lent_of grown_over
  opened-shown i = record {
    area = flat places;
    cards = opened_rows_lem i;
    lists = opened-lists i;
    head = opened-head i;
    memory = opened-memory i;
  }

-- ---- the laws

module _ (s : Store) (so : Sound s) (fi : Fits s) where
  pub saved-form : saved_form (saved_bytes s) ≡ true
  saved-form = (saved-shows s so fi).form

  pub saved-places : places_saved (saved_bytes s) ≡ size s
  saved-places = (saved-shows s so fi).places

  pub saved-opened : (places : List (List ℕ)) → Each place_size places → Sound (grown_over places s)
      → opened_over (flat places) (saved_bytes s) ≡ lent_of (grown_over places s)
  saved-opened places each grown = opened-shown (saved_bytes s) s (saved-shows s so fi) places each grown
