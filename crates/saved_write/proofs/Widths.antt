-- How many bytes each piece of a saved book has.
use Prim.Native.Nat.{ℕ, ◌+◌, ◌*◌}
use mathlib.Core.Path.{◌≡◌, refl}
use mathlib.Core.List.{List, [], ◌∷◌, map}
use mathlib.Core.Option.{Option, some, none}
use native.Mathlib.Omega.{arith}
use lib.ListN.{length, length-append}
use Rattle.coding.proofs.NumberLaws.{length-bytes_of}
use Rattle.table.specs.Entry.{Entry}
use Rattle.table.specs.Table.{entries_bytes}
use Rattle.ldc.specs.Lists.{flat}
use Rattle.ldc.specs.Store.{Link, Card, links_of}
use Rattle.ldc.specs.Request.{key_size}
use Rattle.saved_book.specs.Saved.{number_size, number_bytes, key_bytes, mark_bytes, link_bytes, card_bytes, list_bytes, memory_bytes}
use Rattle.saved_book.specs.Form.{card_head, link_width}
use Rattle.saved_write.specs.Book.{mark_width, head_width, head_bytes}

pub length-number : (n : ℕ) → length (number_bytes n) ≡ number_size
unfolding number_bytes
length-number n = length-bytes_of number_size n

pub length-key : (k : ℕ) → length (key_bytes k) ≡ key_size
unfolding key_bytes
length-key k = length-bytes_of key_size k

-- ---- the head

pub length-mark : (m : Option ℕ) → length (mark_bytes m) ≡ mark_width
unfolding mark_bytes
length-mark none = simp (length-append, length-number, length-key)
length-mark (some k) = simp (length-append, length-number, length-key)

pub length-head : (places : ℕ) (head : List ℕ) → length (head_bytes places head) ≡ head_width
unfolding head_bytes
length-head places head = simp (length-append, length-number, length-mark)

-- ---- cards

pub length-link : (l : Link) → length (link_bytes l) ≡ link_width
unfolding link_bytes
length-link l = simp (length-append, length-number, length-key)

pub length-links : (ls : List Link) → length (flat (map link_bytes ls)) ≡ link_width * length ls
length-links [] = refl
length-links (l ∷ ls) = omega (arith, length-append (link_bytes l) (flat (map link_bytes ls)), length-link l, length-links ls)

pub length-card : (c : Card) → length (card_bytes c) ≡ card_head + link_width * length (links_of c)
unfolding card_bytes
length-card c = simp (length-append, length-number, length-links)

-- ---- lists and memory entries

pub length-numbers : (ps : List ℕ) → length (flat (map number_bytes ps)) ≡ number_size * length ps
length-numbers [] = refl
length-numbers (p ∷ ps) = omega (arith, length-append (number_bytes p) (flat (map number_bytes ps)), length-number p, length-numbers ps)

pub length-list : (ps : List ℕ) → length (list_bytes ps) ≡ number_size + number_size * length ps
unfolding list_bytes
length-list ps = simp (length-append, length-number, length-numbers)

pub length-memory : (es : List Entry) → length (memory_bytes es) ≡ number_size + length (entries_bytes es)
unfolding memory_bytes
length-memory es = simp (length-append, length-number)
