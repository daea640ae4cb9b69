-- Reading: the read order, look-up, scan, report.
use Rattle.std.specs.Prelude.{ℕ, List, [], ◌∷◌, ◌++◌, map, reverse, Bool, cond, ltb, length, take}
use Rattle.std.proofs.Math.Option.{Option, some, none}
use Rattle.coding.specs.Number.{bytes_of}
use Rattle.table.specs.Entry.{Entry}
use Rattle.table.specs.Table.{entries_bytes}
use Rattle.table.specs.Search.{find}
use Rattle.ldc.specs.Lists.{keep, how_many, flat, is_some}
use Rattle.ldc.specs.Store.{Store, links_of, is_free, is_frozen, level, table, sources, within}
use Rattle.ldc.specs.Request.{Served, bad_range, no_value, done, only}
use Rattle.ldc.specs.Memtable.{put}

-- The read order: memory; level 0 newest first; for levels 1, 2, 3 each table's links, newest first, then the table.
unfoldable pub read_order : Store → List (List Entry)
read_order s =
    s.memory ∷ map (table s) (reverse (level s 0))
    ++ (flat (map (sources s) (level s 1)) ++ (flat (map (sources s) (level s 2)) ++ flat (map (sources s) (level s 3))))

-- The value that an entry gives: a delete mark means no value, and so does no entry.
abbrev pub value_of : Option Entry → Option (List ℕ)
value_of none = none
value_of (some e) = e.value

-- The first entry met decides.
unfoldable pub look_up : Store → (key : ℕ) → Option (List ℕ)
look_up s k = value_of (find k (flat (read_order s)))

abbrev pub look_up_served : Store → Option (List ℕ) → Served
look_up_served s (some v) = done s v
look_up_served s none = only no_value s

unfoldable pub serve_look_up : Store → (key : ℕ) → Served
serve_look_up s k = look_up_served s (look_up s k)

-- ---- scan

-- One list of two: for each key the entry of the first, where it has one.
abbrev pub newer : List Entry → List Entry → List Entry
newer [] older = older
newer (e ∷ es) older = put e (newer es older)

-- One list of many, newest first: one entry for each key, rising, the newer winning.
abbrev pub gather : List (List Entry) → List Entry
gather [] = []
gather (es ∷ rest) = newer es (gather rest)

-- Does an entry hold a value, and not a delete mark?
abbrev pub holds_value : Entry → Bool
holds_value e = is_some e.value

-- All values of the store, keys rising.
unfoldable pub contents : Store → List Entry
contents s = keep holds_value (gather (read_order s))

-- A scan gives at most so many values.
abbrev pub scan_limit : ℕ
scan_limit = 16

-- Count (2 bytes), more (2: 0 or 1), entries.
unfoldable pub scan_body : List Entry → List ℕ
scan_body found =
    bytes_of 2 (length (take scan_limit found)) ++ bytes_of 2 (cond (ltb scan_limit (length found)) 1 0) ++ entries_bytes (take scan_limit found)

-- Number 19: low above high.
unfoldable pub serve_scan : Store → (low high : ℕ) → Served
serve_scan s low high = cond (ltb high low) (only bad_range s) (done s (scan_body (within low high (contents s))))

-- ---- report

abbrev pub total_links : Store → ℕ
total_links s = length (flat (map links_of s.cards))

-- Free, live on levels 0, 1, 2, 3, frozen, links, memory entries: two bytes each.
unfoldable pub serve_report : Store → Served
serve_report s =
    done s (flat (map (bytes_of 2)
    (how_many is_free s.cards ∷ length (level s 0) ∷ length (level s 1) ∷ length (level s 2) ∷ length (level s 3)
    ∷ how_many is_frozen s.cards ∷ total_links s ∷ length s.memory ∷ [])))
