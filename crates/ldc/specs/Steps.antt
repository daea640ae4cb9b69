-- Tidy: the named step is done. Move, link and merge, and what each leaves.
use Rattle.std.specs.Prelude.{ℕ, zero, suc, List, [], ◌∷◌, ◌++◌, map, Bool, true, false, cond, ◌&&◌, eqb, length, set}
use Rattle.std.proofs.Math.Option.{Option, some}
use Rattle.coding.specs.Number.{bytes_of}
use Rattle.table.specs.Entry.{Entry}
use Rattle.table.specs.Search.{greatest_key}
use Rattle.ldc.specs.Store.{Link, free, live, frozen, Store, level, links, table, within, with_card, with_level, with_marks}
use Rattle.ldc.specs.Rules.{named}
use Rattle.ldc.specs.Request.{Served, no_room, nothing_to_do, done, only}
use Rattle.ldc.specs.Place.{written_all, places_taken}
use Rattle.ldc.specs.Tidy.{Slice, Step, idle, refused, moved, linked, merged, merged_tables, tidy_step}

-- A list with one item replaced by several; by none, it is taken out.
abbrev pub replaced : (item : ℕ) → (by : List ℕ) → List ℕ → List ℕ
replaced p qs [] = []
replaced p qs (x ∷ xs) = cond (eqb x p) (qs ++ xs) (x ∷ replaced p qs xs)

-- The mark of level 1 or 2 becomes the chosen table's greatest own key. Level 0 has none.
abbrev pub marks_after : (level place : ℕ) → Store → List (Option ℕ)
marks_after zero p s = s.marks
marks_after (suc n) p s = set s.marks n (some (greatest_key (table s p)))

-- The chosen table leaves its level.
unfoldable pub leaves : (level place : ℕ) → Store → Store
leaves n p s = with_level n (replaced p [] (level s n)) (with_marks (marks_after n p s) s)

-- Move: the chosen table joins the next level, which is empty.
unfoldable pub do_move : (level place : ℕ) → Store → Store
do_move n p s = with_level (suc n) (p ∷ []) (leaves n p s)

-- The link to a slice of a table with these entries: its number is that of the entries in its range.
abbrev pub link_to : List Entry → Slice → Link
link_to es r = record { place = r.place; low = r.low; high = r.high; number = length (within r.low r.high es) }

-- Link: each table below that is responsible for an entry gains a link, the newest; the chosen table is frozen.
abbrev pub hang : (chosen : List Entry) → List Slice → Store → Store
hang es [] s = s
hang es (r ∷ rs) s = hang es rs (with_card r.on (live (links s r.on ++ (link_to es r ∷ []))) s)

unfoldable pub do_link : (level place : ℕ) → List Slice → Store → Store
do_link n p slices s = hang (table s p) slices (with_card p frozen (leaves n p s))

-- Of these places those that no link names any more are freed.
abbrev pub release : List ℕ → Store → Store
release [] s = s
release (f ∷ fs) s = release fs (cond (named s f) s (with_card f free s))

-- Merge: the new tables take the old one's place in its list; then it, and every frozen table left without links, is freed.
unfoldable pub do_merge : (level place : ℕ) → Store → Store
do_merge n p s =
    release (map (λ l. l.place) (links s p))
    (with_card p free
    (with_level n (replaced p (places_taken (merged_tables s n p) s) (level s n))
    (written_all (merged_tables s n p) s)))

abbrev pub do_step : Step → Store → Store
do_step idle s = s
do_step refused s = s
do_step (moved n p) s = do_move n p s
do_step (linked n p slices) s = do_link n p slices s
do_step (merged n p) s = do_merge n p s

-- The steps by number.
abbrev pub moved_number : ℕ
moved_number = 1

abbrev pub linked_number : ℕ
linked_number = 2

abbrev pub merged_number : ℕ
merged_number = 3

-- Step (2 bytes), level (2).
abbrev pub step_served : Step → Store → Served
step_served idle s = only nothing_to_do s
step_served refused s = only no_room s
step_served (moved n p) s = done (do_move n p s) (bytes_of 2 moved_number ++ bytes_of 2 n)
step_served (linked n p slices) s = done (do_link n p slices s) (bytes_of 2 linked_number ++ bytes_of 2 n)
step_served (merged n p) s = done (do_merge n p s) (bytes_of 2 merged_number ++ bytes_of 2 n)

unfoldable pub serve_tidy : Store → Served
serve_tidy s = step_served (tidy_step s) s

-- ---- how much a step writes

-- Are these the same bytes?
abbrev pub same_bytes : List ℕ → List ℕ → Bool
same_bytes [] [] = true
same_bytes [] (y ∷ ys) = false
same_bytes (x ∷ xs) [] = false
same_bytes (x ∷ xs) (y ∷ ys) = eqb x y && same_bytes xs ys

-- How many places have other bytes than before? (One that is there only before or only after counts.)
abbrev pub places_changed : (before after : List (List ℕ)) → ℕ
places_changed [] [] = 0
places_changed [] (y ∷ ys) = suc (places_changed [] ys)
places_changed (x ∷ xs) [] = suc (places_changed xs [])
places_changed (x ∷ xs) (y ∷ ys) = cond (same_bytes x y) (places_changed xs ys) (suc (places_changed xs ys))
