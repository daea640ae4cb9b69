-- The whole of a saved book: its pieces one behind the other, how many bytes they are, and the length of the whole put in front of them.
use Prim.Native.Nat.{ℕ, ◌+◌, ◌*◌, ◌≤◌, ◌<◌}
use mathlib.Core.Path.{◌≡◌, sym, ◌∙◌, ap}
use mathlib.Core.List.{List, ◌++◌}
use native.Mathlib.Omega.{arith}
use lib.ListN.{length, length-append, length-map}
use lib.Seq.{sets}
use Rattle.coding.specs.Number.{bytes_of}
use Rattle.coding.proofs.NumberLaws.{length-bytes_of}
use Rattle.coding.proofs.Sets.{sets-append, sets-comm}
use Rattle.table.specs.Table.{entries}
use Rattle.ldc.specs.Store.{size}
use Rattle.ldc.specs.Layout.{level_count, card_of, length_in, items_in}
use Rattle.read.proofs.Walks.{items-long}
use Rattle.saved_book.specs.Saved.{whole_size, list_bytes, memory_bytes, field_bytes, saved_bytes}
use Rattle.saved_write.specs.Book.{book_of, head_bytes, head_width, ListsFit, cards_bytes, lists_bytes}
use Rattle.saved_write.specs.Put.{Put}
use Rattle.saved_write.proofs.Widths.{length-head, length-list}

-- Room for four pieces behind the length of the whole, and so for the first ones of them.
pub record Rooms (head cards lists memory : List ℕ) (n : ℕ) : Type 0 where
  pub one : whole_size + length head ≤ n
  pub two : whole_size + length (head ++ cards) ≤ n
  pub three : whole_size + length (head ++ cards ++ lists) ≤ n
  pub four : whole_size + length (head ++ cards ++ lists ++ memory) ≤ n

pub length-lists : (places : ℕ) (lists head : List ℕ) → length lists ≡ level_count * places → ListsFit places head
    → length (lists_bytes places lists head)
    ≡ 2 * (level_count + (length_in head 0 + length_in head 1 + length_in head 2 + length_in head 3))
length-lists places lists head sized fit =
    let long : (n : ℕ) → n < level_count → length (list_bytes (items_in places lists head n)) ≡ 2 + 2 * length_in head n =
    λ n h. length-list (items_in places lists head n) ∙ rw (items-long places lists head n h sized (fit n h)) in
    simp length-append (omega (arith, long 0 (omega arith), long 1 (omega arith), long 2 (omega arith), long 3 (omega arith)))

module _ (cards : List (List ℕ)) (lists head memory : List ℕ) where
  -- The pieces, in their order.
  pub fields-put :
      head_bytes (length cards) head ++ cards_bytes cards ++ lists_bytes (length cards) lists head ++ memory_bytes (entries memory)
      ≡ field_bytes (book_of cards lists head memory)
  unfolding field_bytes book_of head_bytes size
  fields-put = rw (length-map cards card_of)

  pub saved-long : length (saved_bytes (book_of cards lists head memory)) ≡ whole_size + length (field_bytes (book_of cards lists head memory))
  unfolding saved_bytes
  saved-long =
      let f : List ℕ = field_bytes (book_of cards lists head memory) in
      length-append (bytes_of whole_size (whole_size + length f)) f ∙ rw (length-bytes_of whole_size (whole_size + length f))

  -- A buffer with room for the saved book has it for the pieces.
  pub rooms : {n : ℕ} → length (saved_bytes (book_of cards lists head memory)) ≤ n
      → Rooms (head_bytes (length cards) head) (cards_bytes cards) (lists_bytes (length cards) lists head) (memory_bytes (entries memory)) n
  rooms h =
      let p : List ℕ = head_bytes (length cards) head in
      let c : List ℕ = cards_bytes cards in
      let l : List ℕ = lists_bytes (length cards) lists head in
      let m : List ℕ = memory_bytes (entries memory) in
      let x = length-append p c in
      let y = length-append (p ++ c) l in
      let z = length-append (p ++ c ++ l) m in
      let whole = saved-long ∙ ap (λ (f : List ℕ). whole_size + length f) (sym fields-put) in
      record { one = omega arith; two = omega arith; three = omega arith; four = omega arith }

  -- The length of the whole, put in front at last, makes it the saved book.
  pub whole-put : {s t : List ℕ} {end : ℕ} → Put s whole_size (field_bytes (book_of cards lists head memory)) t end
      → sets t 0 (bytes_of whole_size end) ≡ sets s 0 (saved_bytes (book_of cards lists head memory))
  unfolding saved_bytes
  whole-put {s} {t} {end} p =
      let f : List ℕ = field_bytes (book_of cards lists head memory) in
      let w : List ℕ = bytes_of whole_size end in
      let four : length w ≡ whole_size = length-bytes_of whole_size end in
      let turned : sets (sets s 0 w) whole_size f ≡ sets (sets s whole_size f) 0 w = sets-comm s 0 w whole_size f (omega arith) in
      let joined : sets s 0 (w ++ f) ≡ sets (sets s 0 w) whole_size f = sets-append s 0 w f ∙ rw four in
      rw (← p.behind, p.written) (sym (joined ∙ turned))

  -- How many bytes the pieces are.
  pub pieces-long : length lists ≡ level_count * length cards → ListsFit (length cards) head
      → length (saved_bytes (book_of cards lists head memory))
      ≡ whole_size + head_width + length (cards_bytes cards)
      + 2 * (level_count + (length_in head 0 + length_in head 1 + length_in head 2 + length_in head 3))
      + length (memory_bytes (entries memory))
  pieces-long sized fit =
      let h : List ℕ = head_bytes (length cards) head in
      let c : List ℕ = cards_bytes cards in
      let l : List ℕ = lists_bytes (length cards) lists head in
      let m : List ℕ = memory_bytes (entries memory) in
      let all : length (h ++ c ++ l ++ m) ≡ length h + length c + length l + length m = simp length-append in
      saved-long ∙ rw (← fields-put) (omega (arith, all, length-head (length cards) head, length-lists (length cards) lists head sized fit))
