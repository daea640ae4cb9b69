-- Summary bits in reading (document 02, note 6): which tables a look-up opens, and request kind 8, which tells of them.
use Rattle.std.specs.Prelude.{ℕ, ◌+◌, List, [], ◌∷◌, ◌++◌, map, reverse, Bool, cond, ◌&&◌, leb, length}
use Rattle.std.proofs.Math.Option.{Option, get_or}
use Rattle.coding.specs.Number.{bytes_of}
use Rattle.table.specs.Search.{find}
use Rattle.summary.specs.Summary.{summary_of, keys_of, may_hold, bits_set}
use Rattle.ldc.specs.Lists.{keep, flat, is_some}
use Rattle.ldc.specs.Store.{Link, Store, level, links, table, span_holds}
use Rattle.ldc.specs.Read.{look_up}
use Rattle.ldc.specs.Request.{Served, done}

-- ---- the tables asked about a key, in the read order

-- Of a table those of its links whose range holds the key, newest first, then itself.
abbrev pub range_holds : (key : ℕ) → Link → Bool
range_holds k l = leb l.low k && leb k l.high

unfoldable pub asked_of : Store → (key place : ℕ) → List ℕ
asked_of s k p = map (λ l. l.place) (keep (range_holds k) (reverse (links s p))) ++ (p ∷ [])

-- On levels 1 to 3 only the table whose span holds the key is considered.
unfoldable pub asked_on : Store → (key : ℕ) → (tables : List ℕ) → List ℕ
asked_on s k ps = flat (map (asked_of s k) (keep (λ p. span_holds s p k) ps))

unfoldable pub asked : Store → (key : ℕ) → List ℕ
asked s k = reverse (level s 0) ++ (asked_on s k (level s 1) ++ (asked_on s k (level s 2) ++ asked_on s k (level s 3)))

-- ---- the tables opened

unfoldable pub summary_at : Store → (place : ℕ) → List ℕ
summary_at s p = summary_of (keys_of (table s p))

-- A table with one of the three bits clear is not opened.
unfoldable pub has_bits : Store → (key place : ℕ) → Bool
has_bits s k p = may_hold (summary_at s p) k

-- Of these tables those up to the entry that decides.
abbrev pub up_to : Store → (key : ℕ) → List ℕ → List ℕ
up_to s k [] = []
up_to s k (p ∷ ps) = p ∷ cond (is_some (find k (table s p))) [] (up_to s k ps)

unfoldable pub opened_of : Store → (key : ℕ) → (asked : List ℕ) → List ℕ
opened_of s k ps = up_to s k (keep (has_bits s k) ps)

-- None where the memory table has the entry that decides.
unfoldable pub opened : Store → (key : ℕ) → List ℕ
opened s k = cond (is_some (find k s.memory)) [] (opened_of s k (asked s k))

-- The bits set in these tables' summaries.
abbrev pub bits_in : Store → List ℕ → ℕ
bits_in s [] = 0
bits_in s (p ∷ ps) = bits_set (summary_at s p) + bits_in s ps

-- ---- request kind 8

-- Found (2 bytes), the tables opened (2), the bits set in their summaries (4), then the value if found.
unfoldable pub probe_body : (value : Option (List ℕ)) → (tables bits : ℕ) → List ℕ
probe_body v tables bits = bytes_of 2 (cond (is_some v) 1 0) ++ bytes_of 2 tables ++ bytes_of 4 bits ++ get_or v []

unfoldable pub serve_probe : Store → (key : ℕ) → Served
serve_probe s k = done s (probe_body (look_up s k) (length (opened s k)) (bits_in s (opened s k)))
