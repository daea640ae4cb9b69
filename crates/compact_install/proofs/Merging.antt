-- What the code of a merge leaves is lent of the store after it, step by step as `do_merge` has it: the tables written and their places in the level's
-- list, the old place freed, and the frozen ones released. The list has room because the store after the merge is sound.
use Prim.Native.Nat.{ℕ, ◌*◌, ◌≤◌, ◌<◌}
use mathlib.Core.Path.{◌≡◌, sym, ◌∙◌, ap}
use mathlib.Core.Bool.{Bool, true, false}
use mathlib.Core.List.{List, [], map, Memᴰ}
use native.Mathlib.Omega.{arith}
use borrow.Author.Tests.{eqb-true, eqb-false, lt-ltb}
use lib.Dec.{eqb}
use lib.ListN.{length, get_or, set, take, length-map, length-set}
use lib.Seq.{get_or-set_same, get_or-set_other}
use Rattle.table.specs.Limits.{place_size}
use Rattle.table.specs.Entry.{Entry}
use Rattle.table.specs.Table.{table_bytes, zeros}
use Rattle.table.specs.Valid.{Valid}
use Rattle.table.proofs.Decode.{decode-memory}
use Rattle.summary.specs.Summary.{summary_words}
use Rattle.ldc.specs.Lists.{flat}
use Rattle.ldc.specs.Store.{Link, Card, free, Store, size, card, links, links_of, is_frozen, bytes_at, level, with_card}
use Rattle.ldc.specs.Lent.{Lent, lent_of}
use Rattle.ldc.specs.Place.{written_all, places_taken, free_places}
use Rattle.ldc.specs.Tidy.{merged_tables}
use Rattle.ldc.specs.Steps.{replaced, release, do_merge}
use Rattle.ldc.specs.Rules.{named}
use Rattle.ldc.proofs.Basics.Cases.{cases, clash}
use Rattle.ldc.proofs.Basics.ListLaws.{mem-get_or, get_d_map}
use Rattle.ldc.proofs.Lent.Parts.{card-back, length-rows, count-row_of}
use Rattle.ldc.proofs.Lent.Round.{level-fits}
use Rattle.ldc.proofs.Stores.CardFacts.{frozen-not-free, frozen-not-live, live-not-frozen, no-links}
use Rattle.ldc.proofs.Stores.Changes.{below-size, card-other}
use Rattle.ldc.proofs.Stores.Facts.{link-frozen}
use Rattle.ldc.proofs.Stores.Naming.{named-same}
use Rattle.ldc.proofs.Stores.Release.{Bare}
use Rattle.ldc.proofs.Stores.Sound.{Sound}
use Rattle.ldc.proofs.Stores.TableLaws.{table_bytes-long}
use Rattle.ldc.proofs.Stores.Written.{Wrote, wrote-links}
use Rattle.ldc.proofs.Steps.MergeShape.{p-live, p-occupied, linked-frozen, merged-pieces, filled-wrote, merge-from, merge-size}
use Rattle.ldc.proofs.Steps.Merge.{sound-merge}
use Rattle.ldc.specs.Layout.{level_count, link_limit, link_count, card_of, summary_on, row_with, row_of, link_at}
use Rattle.ldc.specs.Facts.{Merging}
use Rattle.book.proofs.Rows.{link-of, no_link}
use Rattle.book.specs.Pieces.{lent}
use Rattle.compact_install.specs.Release.{named_in, held_in, places_named, Flags, freed_in, Clear}
use Rattle.book_edit.specs.Shown.{Fits}
use Rattle.compact_install.specs.Tables.{Tables, placed, Lends, Placing}
use Rattle.book_edit.proofs.Fitting.{row-shown}
use Rattle.compact_install.proofs.Freeing.{clear-row_of, freed-row, few-freed, named-shown, freed-shown, area-released, lists-released, head-released, memory-released}
use Rattle.compact_install.proofs.Many.{length_taken, fits_all}
use Rattle.compact_install.proofs.Placed.{length-new}

module _ (s : Store) (S : Sound s) (f : Fits s) (n p : ℕ) (g : Merging s n p) (enough : length (merged_tables s n p) ≤ free_places s) where
  -- the tables, their places, and the store with them written
  abbrev ts : List (List Entry)
  ts = merged_tables s n p

  abbrev qs : List ℕ
  qs = places_taken (merged_tables s n p) s

  abbrev filled : Store
  filled = written_all (merged_tables s n p) s

  pub place-below : p < size s
  place-below = below-size s p (p-occupied s S n p g.on enough)

  pieces-valid : (t : List Entry) → Memᴰ t ts → Valid t
  pieces-valid t m = (merged-pieces s S p (p-occupied s S n p g.on enough) n t m).valid

  whole-tables : (t : List Entry) → Memᴰ t ts → length (table_bytes t) ≡ place_size
  whole-tables t m = table_bytes-long t (pieces-valid t m)

  pub tables-merged : (out : List ℕ) (k : ℕ) → length ts ≡ k → take (k * place_size) out ≡ flat (map table_bytes ts) → Tables out k ts
  tables-merged out k h b = record { many = h; whole = λ t m. (whole-tables t m, decode-memory t (pieces-valid t m)); bytes = b }

  fits-filled : Fits filled
  fits-filled = fits_all ts s f whole-tables enough

  wrote-filled : Wrote s filled qs ts
  wrote-filled = filled-wrote s S n p g.on enough

  four : n < level_count
  four = omega (arith, g.highest)

  -- the store with the list changed, and with the old place freed
  abbrev cleared : Store
  cleared = with_card p free (placed n p (merged_tables s n p) s)

  few-cleared : (q : ℕ) → length (links cleared q) ≤ link_limit
  few-cleared = few-freed p (placed n p ts s) (unfold links card in fits-filled.few)

  -- ---- the old place's row

  row-card : card_of (row_of (card s p) (bytes_at s p)) ≡ card s p
  unfolding links row_of
  row-card = card-back (card s p) (summary_on (card s p) (bytes_at s p)) (f.few p)

  pub row-clear : (rows : List (List ℕ)) → rows ≡ (lent_of s).cards → Clear (get_or rows p [])
  unfolding links
  row-clear rows e = rw (e, row-shown s f p place-below) (clear-row_of (card s p) (bytes_at s p) (f.few p))

  pub row-places : (rows : List (List ℕ)) → rows ≡ (lent_of s).cards → places_named (get_or rows p []) ≡ map (λ (l : Link). l.place) (links s p)
  unfolding links places_named
  row-places rows e = rw (e, row-shown s f p place-below, row-card)

  -- Its links, and the places that they name.
  link-at : (i : ℕ) (d : Link) → i < length (links s p) → get_or (links s p) i d ≡ link_at (row_of (card s p) (bytes_at s p)) i
  unfolding links
  link-at i d h =
      let near : i < length (links_of (card_of (row_of (card s p) (bytes_at s p)))) = rw row-card h in
      ap (λ (c : Card). get_or (links_of c) i d) (sym row-card) ∙ link-of (row_of (card s p) (bytes_at s p)) i d near

  link-below : (i : ℕ) → i < length (links s p) → (link_at (row_of (card s p) (bytes_at s p)) i).place < size s
  link-below i h =
      let d : Link = no_link in
      let l : Link = get_or (links s p) i d in
      rw (← link-at i d h) (below-size s l.place (frozen-not-free (card s l.place) (link-frozen s S p l (mem-get_or (links s p) i d h))))

  pub row_below : (rows : List (List ℕ)) → rows ≡ (lent_of s).cards → (i : ℕ) → i < link_count (get_or rows p []) → (link_at (get_or rows p []) i).place < size s
  unfolding links
  row_below rows e i h =
      let row : get_or rows p [] ≡ row_of (card s p) (bytes_at s p) = ap (λ (x : List (List ℕ)). get_or x p []) e ∙ row-shown s f p place-below in
      let near : i < length (links_of (card s p)) = omega (arith, ap link_count row, count-row_of (card s p) (bytes_at s p)) in
      rw row (link-below i near)

  -- ---- what names the frozen places

  cleared-links : (q : ℕ) → links cleared q ≡ links (with_card p free s) q
  unfolding links card
  cleared-links q =
      cases (eqb q p)
      (λ e. let qp : q ≡ p = eqb-true q p e in
      rw (qp, get_or-set_same filled.cards p free free (unfold size in omega (arith, place-below, wrote-filled.same_size)), get_or-set_same s.cards p free free (unfold size in place-below)))
      (λ e. rw (get_or-set_other filled.cards p q free free (eqb-false q p e), get_or-set_other s.cards p q free free (eqb-false q p e))
      (unfold links card in wrote-links s filled qs ts wrote-filled q))

  size-cleared : size cleared ≡ size s
  unfolding size
  size-cleared = length-set filled.cards p free ∙ wrote-filled.same_size

  -- A frozen place has no links, before and after.
  frozen-bare : (x : ℕ) → is_frozen (card s x) ≡ true → links cleared x ≡ []
  unfolding links
  frozen-bare x z =
      let other : x ≡ p → ⊥ = λ e. clash (rw e at z) (live-not-frozen (card s p) (p-live s S n p g.on enough)) in
      cleared-links x ∙ ap links_of (card-other s p free x other) ∙ no-links (card s x) (frozen-not-live (card s x) z)

  bare-cleared : Bare cleared (map (λ (l : Link). l.place) (links s p))
  bare-cleared x m =
      let z = linked-frozen s S n p g.on enough x m in
      (omega (arith, below-size s x (frozen-not-free (card s x) z), size-cleared), frozen-bare x z)

  held-named : (rows : List (List ℕ)) → rows ≡ (lent_of s).cards → (x : ℕ) → held_in p x rows ≡ named cleared x
  unfolding held_in
  held-named rows e x =
      ap (λ (r : List (List ℕ)). named_in x (set r p (row_with free (zeros summary_words)))) e
      ∙ ap (named_in x) (sym (freed-row p s))
      ∙ named-shown (with_card p free s) (few-freed p s f.few) x
      ∙ sym (named-same (with_card p free s) cleared x cleared-links)

  row_count : link_count (row_of (card s p) (bytes_at s p)) ≡ length (links s p)
  unfolding links
  row_count = count-row_of (card s p) (bytes_at s p)

  -- The flags say of each place whether it is named when the old place is freed.
  flags-named : (rows : List (List ℕ)) → rows ≡ (lent_of s).cards → (held : List Bool) → Flags rows p held
      → (i : ℕ) → i < length (map (λ (l : Link). l.place) (links s p)) → get_or held i false ≡ named cleared (get_or (map (λ (l : Link). l.place) (links s p)) i 0)
  flags-named rows e held fl i h =
      let d : Link = no_link in
      let row : get_or rows p [] ≡ row_of (card s p) (bytes_at s p) = ap (λ (x : List (List ℕ)). get_or x p []) e ∙ row-shown s f p place-below in
      let near : i < length (links s p) = omega (arith, length-map (links s p) (λ (l : Link). l.place)) in
      let count : i < link_count (row_of (card s p) (bytes_at s p)) = omega (arith, row_count) in
      let here : get_or (map (λ (l : Link). l.place) (links s p)) i 0 ≡ (link_at (row_of (card s p) (bytes_at s p)) i).place =
      get_d_map (λ (l : Link). l.place) (links s p) i d 0 near ∙ ap (λ (l : Link). l.place) (link-at i d near) in
      fl i ∙ rw (row, lt-ltb i (link_count (row_of (card s p) (bytes_at s p))) count, here) (held-named rows e (link_at (row_of (card s p) (bytes_at s p)) i).place)

  -- ---- the level's list

  room-new : length (replaced p qs (level s n)) ≤ size s
  room-new =
      let whole = level-fits (do_merge n p s) (sound-merge s S n p g.lowest g.highest g.on enough) n in
      let new = ap length (merge-from s S n p g.on enough (omega (arith, S.four, four))) in
      omega (arith, merge-size s S n p g.on enough)

  -- All that writing the tables asks for.
  pub merge-placing : (m : Lent) (out : List ℕ) (k : ℕ) → Lends m s → Tables out k (merged_tables s n p)
      → Placing m n p out k s (merged_tables s n p)
  merge-placing m out k le t = record {
    fits = f;
    lends = le;
    told = t;
    room = omega (arith, t.many, enough);
    four = four;
    below = place-below;
    on = g.on;
    space = omega (arith, length-new p qs (level s n) g.on, length_taken ts s, t.many, room-new);
  }

  module _ (area : List ℕ) (cards : List (List ℕ)) (lists head : List ℕ)
      (le : Lends (lent area cards lists head []) (placed n p (merged_tables s n p) s)) where
    counted : length cards ≡ size filled
    unfolding lent_of size
    counted = ap length le.shows.cards ∙ length-rows filled.cards filled.places

    pub merge-below : p < length cards
    merge-below = omega (arith, place-below, counted, wrote-filled.same_size)

    -- ---- the old place freed, and the frozen ones released

    module _ (cards' : List (List ℕ)) (ec' : cards' ≡ set cards p (row_with free (zeros summary_words))) where
      cleared-rows : cards' ≡ (lent_of cleared).cards
      unfolding lent_of
      cleared-rows = ec' ∙ ap (λ (rows : List (List ℕ)). set rows p (row_with free (zeros summary_words))) le.shows.cards ∙ sym (freed-row p (placed n p ts s))

      pub merge-many : length cards' ≡ size s
      merge-many = ap length ec' ∙ length-set cards p (row_with free (zeros summary_words)) ∙ counted ∙ wrote-filled.same_size

      module _ (rows cards'' : List (List ℕ)) (memory : List ℕ) (er : rows ≡ (lent_of s).cards)
          (held : List Bool) (eight : length held ≡ link_limit) (fl : Flags rows p held)
          (ec'' : cards'' ≡ freed_in held (places_named (get_or rows p [])) cards')
          (em : memory ≡ (lent_of s).memory) where
        area-done : area ≡ (lent_of (release (map (λ (l : Link). l.place) (links s p)) cleared)).area
        unfolding lent_of
        area-done = le.shows.area ∙ sym (area-released (map (λ (l : Link). l.place) (links s p)) cleared)

        cards-done : cards'' ≡ (lent_of (release (map (λ (l : Link). l.place) (links s p)) cleared)).cards
        cards-done =
            ec''
            ∙ ap (λ (xs : List ℕ). freed_in held xs cards') (row-places rows er)
            ∙ ap (freed_in held (map (λ (l : Link). l.place) (links s p))) cleared-rows
            ∙ freed-shown (map (λ (l : Link). l.place) (links s p)) held cleared few-cleared bare-cleared
            (omega (arith, length-map (links s p) (λ (l : Link). l.place), f.few p)) (flags-named rows er held fl)

        lists-done : lists ≡ (lent_of (release (map (λ (l : Link). l.place) (links s p)) cleared)).lists
        unfolding lent_of
        lists-done = le.lists ∙ sym (lists-released (map (λ (l : Link). l.place) (links s p)) cleared)

        head_done : head ≡ (lent_of (release (map (λ (l : Link). l.place) (links s p)) cleared)).head
        unfolding lent_of
        head_done = le.shows.head ∙ sym (head-released (map (λ (l : Link). l.place) (links s p)) cleared)

        memory_done : memory ≡ (lent_of (release (map (λ (l : Link). l.place) (links s p)) cleared)).memory
        unfolding lent_of
        memory_done =
            em ∙ ap table_bytes (sym wrote-filled.same_memory) ∙ sym (memory-released (map (λ (l : Link). l.place) (links s p)) cleared)

        pub merge-done : lent area cards'' lists head memory ≡ lent_of (do_merge n p s)
        unfolding do_merge
        merge-done = λ i. lent (area-done i) (cards-done i) (lists-done i) (head_done i) (memory_done i)
