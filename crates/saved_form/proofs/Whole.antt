-- The parts of the whole: what is known of saved bytes once each part was looked through, and what follows where one is broken.
use Prim.Native.Nat.{ℕ, ◌+◌, ◌-◌, ◌≤◌, ◌<◌}
use mathlib.Core.Path.{◌≡◌, ◌∙◌}
use mathlib.Core.Bool.{Bool, true, false, ◌&&◌}
use mathlib.Core.List.{List}
use mathlib.Core.Option.{Option, some, none}
use native.Mathlib.Omega.{arith}
use borrow.Author.Tests.{leb-true, le-leb, lt-leb, eq-eqb, ne_eqb}
use lib.Dec.{leb, eqb}
use lib.ListN.{length}
use Rattle.coding.specs.Number.{number_at}
use Rattle.table.specs.Limits.{table_limit}
use Rattle.ldc.specs.Layout.{fewest_places, most_places, level_count, mark_good}
use Rattle.ldc.proofs.Basics.Cases.{both_left}
use Rattle.saved_book.specs.Saved.{saved_kind}
use Rattle.saved_book.specs.Form.{whole_in, kind_in, places_saved, flag_saved1, key_saved1, flag_saved2, key_saved2, cards_start, head_form}
use Rattle.saved_book.specs.Form.{card_to, list_to, entry_to, in_turn, memory_to, cards_to, lists_to, saved_form, lists_start, memory_start}
use Rattle.saved_form.specs.Form.{form_of}
use Rattle.std.specs.Prelude.{Some, None}
use Rattle.saved_form.proofs.Fields.{card-within, list-within}
use Rattle.saved_form.proofs.Turns.{turns-within}

module _ (s : List ℕ) where
  -- ---- the head

  pub head-short : length s < cards_start → false ≡ head_form s
  unfolding head_form
  head-short h = rw (lt-leb cards_start (length s) h)

  pub head-test : (whole kind places : ℕ) (mark1 mark2 : Bool) → cards_start ≤ length s
      → whole ≡ whole_in s → kind ≡ kind_in s → places ≡ places_saved s
      → mark1 ≡ mark_good (flag_saved1 s) (key_saved1 s) → mark2 ≡ mark_good (flag_saved2 s) (key_saved2 s)
      → (eqb whole (length s) && (eqb kind saved_kind && (leb fewest_places places && (leb places most_places && (mark1 && mark2))))) ≡ head_form s
  unfolding head_form
  head-test whole kind places mark1 mark2 h w k p a b = rw (w, k, p, a, b, le-leb cards_start (length s) h)

  pub head-within : head_form s ≡ true → cards_start ≤ length s
  unfolding head_form
  head-within h = leb-true cards_start (length s) (both_left (leb cards_start (length s)) _ h)

  -- ---- the parts end within the bytes

  pub cards-within : (e : ℕ) → cards_start ≤ length s → cards_to s ≡ some e → e ≤ length s
  unfolding cards_to
  cards-within e h t = turns-within (length s) (card_to s) (card-within s) (places_saved s) cards_start e h t

  pub lists-within : (at e : ℕ) → at ≤ length s → lists_to s at ≡ some e → e ≤ length s
  unfolding lists_to
  lists-within at e h t = turns-within (length s) (list_to s) (list-within s) level_count at e h t

  -- ---- the memory entries

  pub memory-short : (at : ℕ) → length s - at < 2 → none ≡ memory_to s at
  unfolding memory_to
  memory-short at h = rw (lt-leb (at + 2) (length s) (omega arith))

  pub memory-many : (at n : ℕ) → at ≤ length s → 2 ≤ length s - at → n ≡ number_at 2 s at → table_limit < n → none ≡ memory_to s at
  unfolding memory_to
  memory-many at n h l e m = rw (← e, le-leb (at + 2) (length s) (omega arith), lt-leb n table_limit m)

  pub memory-few : (at n : ℕ) (r : Option ℕ) → at ≤ length s → 2 ≤ length s - at → n ≡ number_at 2 s at → n ≤ table_limit
      → r ≡ in_turn n (entry_to s) (at + 2) → r ≡ memory_to s at
  unfolding memory_to
  memory-few at n r h l e m t = t ∙ rw (← e, le-leb (at + 2) (length s) (omega arith), le-leb n table_limit m)

  -- ---- the whole

  pub no-head : head_form s ≡ false → None ≡ form_of s
  unfolding form_of saved_form
  no-head h = rw h

  module _ (h : head_form s ≡ true) where
    pub no-cards : cards_to s ≡ none → None ≡ form_of s
    unfolding form_of saved_form
    no-cards c = rw (h, c)

    module _ (lists : ℕ) (c : cards_to s ≡ some lists) where
      pub no-lists : lists_to s lists ≡ none → None ≡ form_of s
      unfolding form_of saved_form
      no-lists l = rw (h, c, l)

      module _ (memory : ℕ) (l : lists_to s lists ≡ some memory) where
        pub no-memory : memory_to s memory ≡ none → None ≡ form_of s
        unfolding form_of saved_form
        no-memory m = rw (h, c, l, m)

        module _ (end : ℕ) (m : memory_to s memory ≡ some end) where
          pub too_many : (end ≡ length s → ⊥) → None ≡ form_of s
          unfolding form_of saved_form
          too_many d = rw (h, c, l, m, ne_eqb end (length s) d)

          pub a-book : (places : ℕ) → places ≡ places_saved s → end ≡ length s
              → Some (record { places = places; lists = lists; memory = memory }) ≡ form_of s
          unfolding form_of saved_form lists_start memory_start
          a-book places p e = rw (h, c, l, m, eq-eqb end (length s) e, p)
