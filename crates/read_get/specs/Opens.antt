-- A walk through the tables asked about a key (document 02, note 6): what it may assume, and what it finds and opens.
use Rattle.std.specs.Prelude.{ℕ, zero, suc, ◌+◌, ◌≡◌, cond, List, [], ◌++◌, map, reverse, length}
use Rattle.std.proofs.Math.Option.{Option, some, none}
use Rattle.coding.specs.declared.key.Key.{Key}
use Rattle.table.specs.Search.{find}
use Rattle.summary.specs.Bits.{exclusive_bit, sum_bit, weighed_bit}
use Rattle.summary.specs.declared.bits.KeyBits.{KeyBits}
use Rattle.ldc.specs.Lists.{flat, keep}
use Rattle.ldc.specs.Store.{Link, table}
use Rattle.ldc.specs.Layout.{items_in}
use Rattle.ldc.specs.Probe.{range_holds, asked_on, opened_of, bits_in}
use Rattle.book.specs.Head.{head_words}
use Rattle.book.specs.Pieces.{Words, Rows}
use Rattle.book.specs.Rows.{shown_by}
use Rattle.book.specs.declared.head.Head.{Head}
use Rattle.read.specs.Shown.{Legible, LinksSummed}
use Rattle.read.specs.Found.{Hit, Hits}
use Rattle.read_get.specs.declared.opened.Opened.{Opened}

-- ---- what a walk may assume

-- These are the three bits of the key.
pub record BitsOf (key : ℕ) (bits : KeyBits) : Type 0 where
  pub exclusive : bits.exclusive ≡ exclusive_bit key
  pub sum : bits.sum ≡ sum_bit key
  pub weighed : bits.weighed ≡ weighed_bit key

-- And area and cards can be read, links among them.
pub record Asking (area : List ℕ) (cards : List (List ℕ)) (key : ℕ) (bits : KeyBits) : Type 0 where
  pub legible : Legible area cards
  pub linked : LinksSummed area cards
  pub own : BitsOf key bits

-- ---- what it finds and opens

-- Where the entry that was found stands.
abbrev pub the_hit : Opened → Option Hit
the_hit r = cond r.found (some (record { place = r.place; at = r.at })) none

-- Of the tables asked, in this order: the entry that decides; how many were opened up to it; and the bits set in their summaries.
pub record Opens (area : List ℕ) (cards : List (List ℕ)) (key : ℕ) (asked : List ℕ) (r : Opened) : Type 0 where
  pub found : Hits area (find key (flat (map (table (shown_by area cards)) asked))) (the_hit r)
  pub tables : r.tables ≡ length (opened_of (shown_by area cards) key asked)
  pub bits : r.bits ≡ bits_in (shown_by area cards) (opened_of (shown_by area cards) key asked)

-- One walk, and then another where the first found nothing.
abbrev pub joined : Opened → Opened → Opened
joined a b = record { found = b.found; place = b.place; at = b.at; tables = a.tables + b.tables; bits = a.bits + b.bits }

-- ---- the tables asked, as they stand in the lent pieces

-- Of links the frozen tables of those whose range holds the key.
abbrev pub ranges : (key : ℕ) → List Link → List ℕ
ranges k ls = map (λ l. l.place) (keep (range_holds k) ls)

-- Of so many levels from one on.
unfoldable pub asked_from : (area : List ℕ) → (cards : List (List ℕ)) → (lists head : List ℕ) → (key count level : ℕ) → List ℕ
asked_from area cards lists head k zero n = []
asked_from area cards lists head k (suc c) n =
    asked_on (shown_by area cards) k (items_in (length cards) lists head n) ++ asked_from area cards lists head k c (suc n)

-- Level 0, newest first, then levels 1 to 3.
unfoldable pub asked_in : (area : List ℕ) → (cards : List (List ℕ)) → (lists head : List ℕ) → (key : ℕ) → List ℕ
asked_in area cards lists head k = reverse (items_in (length cards) lists head 0) ++ asked_from area cards lists head k 3 1

-- ---- the same over the parameters of a call, at its entry

abbrev pub OpensIn : (area : Words) → (cards : Rows) → Key → (asked : List ℕ) → Opened → Type 0
OpensIn area cards key asked r = Opens area.entry.now cards.entry.now key.value asked r

abbrev pub lower_asked : (area : Words) → (cards : Rows) → (lists : Words) → Head → Key → List ℕ
lower_asked area cards lists head key =
    asked_from area.entry.now cards.entry.now lists.entry.now (head_words head) key.value 3 1

abbrev pub all_asked : (area : Words) → (cards : Rows) → (lists : Words) → Head → Key → List ℕ
all_asked area cards lists head key =
    asked_in area.entry.now cards.entry.now lists.entry.now (head_words head) key.value
