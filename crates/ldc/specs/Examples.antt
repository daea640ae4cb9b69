-- The checked examples P1 to P10 of document 01, and those of notes 2 and 5 of document 02, as one table: what the definition computes beside
-- what the papers say; a second table with a case for each slip, and a third with the letters of damaged memory.
-- `proofs/Demand/Examples` shows that each row agrees. What is expected stands in plain numbers, as in document 01.
use Rattle.std.specs.Prelude.{ℕ, zero, suc, ◌+◌, ◌-◌, ◌%◌, Bool, true, cond, ◌&&◌}
use Rattle.std.specs.Prelude.{List, [], ◌∷◌, ◌++◌, map, length, get_or, take, replicate}
use Rattle.std.proofs.Math.Option
use Rattle.std.proofs.Math.Option.{some, none}
use Rattle.coding.specs.Number.{bytes_of}
use Rattle.table.specs.Limits.{place_size}
use Rattle.table.specs.Entry.{Entry}
use Rattle.table.specs.Table.{table_bytes, zeros}
use Rattle.ldc.specs.Lists.{flat}
use Rattle.ldc.specs.Store.{Link, Card, Store, free, live, frozen, new_store, card, links, level, table}
use Rattle.ldc.specs.Request.{put_kind, delete_kind, look_up_kind, flush_kind, tidy_kind, memory_full, key_size}
use Rattle.ldc.specs.Request.{Request, Served, reply_bytes, done}
use Rattle.ldc.specs.Tidy.{Slice, due, overfull, slices_of, greatest}
use Rattle.ldc.specs.Steps.{do_link, same_bytes}
use Rattle.ldc.specs.Serve.{serve}
use Rattle.ldc.specs.History.{fed}
use Rattle.ldc.specs.Layout.{fewest_places, state_word}
use Rattle.ldc.specs.Lent.{Lent, lent_of, broken}
use Rattle.ldc.specs.Run.{check, letter_of}

-- A row: what is computed, and what it should be.
pub record Example : Type 0 where
  pub computed : List ℕ
  pub expected : List ℕ

-- ---- requests, and serving several of them

-- A put of one byte.
abbrev ask_put_byte : ℕ → ℕ → Request
ask_put_byte k v = record { kind = put_kind; body = bytes_of key_size k ++ (v ∷ []) }

-- A put of "A".
abbrev ask_put : ℕ → Request
ask_put k = ask_put_byte k 65

abbrev ask_delete : ℕ → Request
ask_delete k = record { kind = delete_kind; body = bytes_of key_size k }

abbrev ask_look_up : ℕ → Request
ask_look_up k = record { kind = look_up_kind; body = bytes_of key_size k }

abbrev ask_flush : Request
ask_flush = record { kind = flush_kind; body = [] }

abbrev ask_tidy : Request
ask_tidy = record { kind = tidy_kind; body = [] }

-- The store and the last reply, result and body, when some requests were served.
abbrev last_served : Served → List Request → Served
last_served v [] = v
last_served v (r ∷ rs) = last_served (serve v.store r) rs

abbrev from : Store → List Request → Served
from s rs = last_served (done s []) rs

abbrev reply : Served → List ℕ
reply v = v.result ∷ v.body

-- A new store of 16 places, their bytes zero.
abbrev new : ℕ → Store
new t = new_store t (replicate fewest_places (zeros place_size))

-- ---- planted stores

-- A store of 16 places whose first ones hold these tables, with these cards and lists.
abbrev planted_with : (threshold : ℕ) → List (List Entry) → List Card → List (List ℕ) → Store
planted_with t tables cards levels = record {
  threshold = t;
  cursor = length tables % fewest_places;
  marks = none ∷ none ∷ [];
  levels = levels;
  cards = cards ++ replicate (fewest_places - length tables) free;
  places = map (λ es. table_bytes es) tables ++ replicate (fewest_places - length tables) (zeros place_size);
  memory = [];
}

abbrev entry : ℕ → ℕ → Entry
entry k v = record { key = k; value = some (v ∷ []) }

abbrev table_of : List ℕ → List Entry
table_of ks = map (λ k. entry k 65) ks

abbrev deleted : ℕ → Entry
deleted k = record { key = k; value = none }

-- A link to one entry of a place.
abbrev single : (place low high : ℕ) → Link
single p low high = record { place = p; low = low; high = high; number = 1 }

-- Keys of the first table of a level.
abbrev first_keys : Store → ℕ → List ℕ
first_keys s n = map (λ (e : Entry). e.key) (table s (get_or (level s n) 0 0))

-- Level 1 has the tables 10..20, 30..40 and 50..60 in places 1, 2, 3, and place 0 is live on level 0 with these keys.
abbrev planted : (threshold : ℕ) → List ℕ → Store
planted t ks =
    planted_with t
    (table_of ks ∷ table_of (10 ∷ 20 ∷ []) ∷ table_of (30 ∷ 40 ∷ []) ∷ table_of (50 ∷ 60 ∷ []) ∷ [])
    (replicate 4 (live []))
    ((0 ∷ []) ∷ (1 ∷ 2 ∷ 3 ∷ []) ∷ [] ∷ [] ∷ [])

-- So many numbers from one on.
abbrev count_from : (n from : ℕ) → List ℕ
count_from zero i = []
count_from (suc n) i = i ∷ count_from n (suc i)

-- Levels 0 and 1 hold so many tables, in places from 0 up, each with its place for its one key.
abbrev crowded : ℕ → ℕ → Store
crowded a b =
    planted_with 4
    (map (λ p. table_of (p ∷ [])) (count_from (a + b) 0))
    (replicate (a + b) (live []))
    (count_from a 0 ∷ count_from b a ∷ [] ∷ [] ∷ [])

-- The level that is too full, and what a tidy replies.
abbrev relieved : Store → List ℕ
relieved s = Option.get_or (overfull s) 9 ∷ reply (from s (ask_tidy ∷ []))

abbrev range_words : List Slice → List ℕ
range_words xs = flat (map (λ x. x.on ∷ x.low ∷ x.high ∷ []) xs)

-- The store of P7 with place 0 linked, and after some tidies: the last reply, and the state of place 0.
abbrev linked_p7 : (threshold : ℕ) → Store
linked_p7 t = let s : Store = planted t (5 ∷ 25 ∷ 70 ∷ []) in do_link 0 0 (slices_of s 0 0) s

abbrev tidied : ℕ → List ℕ
tidied n = let v : Served = from (linked_p7 1) (replicate n ask_tidy) in reply v ++ (state_word (card v.store 0) ∷ [])

abbrev sixteen : List Request
sixteen = map ask_put (0 ∷ 1 ∷ 2 ∷ 3 ∷ 4 ∷ 5 ∷ 6 ∷ 7 ∷ 8 ∷ 9 ∷ 10 ∷ 11 ∷ 12 ∷ 13 ∷ 14 ∷ 15 ∷ [])

-- Three tables on level 0, none below, after one tidy.
abbrev moved_p6 : Served
moved_p6 = from (new 4) (ask_put 1 ∷ ask_flush ∷ ask_put 2 ∷ ask_flush ∷ ask_put 3 ∷ ask_flush ∷ ask_tidy ∷ [])

-- T is 8; level 1 has a table of 3 entries in place 0, and level 0 four tables, the older two with 1 and 2 entries.
abbrev weighing : Store
weighing =
    planted_with 8
    (table_of (10 ∷ 20 ∷ 30 ∷ []) ∷ table_of (15 ∷ []) ∷ table_of (16 ∷ 25 ∷ [])
    ∷ table_of (40 ∷ []) ∷ table_of (50 ∷ []) ∷ [])
    (replicate 5 (live []))
    ((1 ∷ 2 ∷ 3 ∷ 4 ∷ []) ∷ (0 ∷ []) ∷ [] ∷ [] ∷ [])

-- After some tidies: the last reply, whether place 0's merge is due, and its links' numbers.
abbrev weighed : ℕ → List ℕ
weighed n =
    let v : Served = from weighing (replicate n ask_tidy) in
    reply v ++ (cond (due v.store 0) 1 0 ∷ map (λ (l : Link). l.number) (links v.store 0))

-- T is 1; level 1 has a table of these delete marks and a link to a place with one more, under 20; level 2 has the keys 1 and 3 with a
-- link 6 to 10, so the span 1 to 10, and level 3 the key 30.
abbrev marked : List ℕ → Store
marked ks =
    planted_with 1
    (map deleted ks ∷ (deleted 20 ∷ []) ∷ table_of (1 ∷ 3 ∷ []) ∷ table_of (8 ∷ []) ∷ table_of (30 ∷ []) ∷ [])
    (live (single 1 0 greatest ∷ []) ∷ frozen ∷ live (single 3 6 10 ∷ []) ∷ frozen ∷ live [] ∷ [])
    ([] ∷ (0 ∷ []) ∷ (2 ∷ []) ∷ (4 ∷ []) ∷ [])

-- After a tidy: its reply, how many tables level 1 has, and the keys of the first.
abbrev sifted : List ℕ → List ℕ
sifted ks =
    let v : Served = from (marked ks) (ask_tidy ∷ []) in
    reply v ++ (length (level v.store 1) ∷ first_keys v.store 1)

unfoldable pub examples : List Example
examples =
    -- P1 look up in a new store: 64
    record { computed = reply (from (new 4) (ask_look_up 5 ∷ [])); expected = 64 ∷ [] }
    -- P2 put 5, delete 5, look up 5: 64
    ∷ record { computed = reply (from (new 4) (ask_put 5 ∷ ask_delete 5 ∷ ask_look_up 5 ∷ [])); expected = 64 ∷ [] }
    -- P3 16 keys in memory, a new one: 18
    ∷ record { computed = reply (from (new 4) (sixteen ++ (ask_put 16 ∷ []))); expected = 18 ∷ [] }
    -- P4 the same, a repeated key: 0
    ∷ record { computed = reply (from (new 4) (sixteen ++ (ask_put 7 ∷ []))); expected = 0 ∷ [] }
    -- P5 flush of empty memory: 65
    ∷ record { computed = reply (from (new 4) (ask_flush ∷ [])); expected = 65 ∷ [] }
    -- P6 three tables on level 0, none below, tidy: the oldest moved
    ∷ record {
      computed = reply moved_p6 ++ level moved_p6.store 0 ++ level moved_p6.store 1;
      expected = 0 ∷ 1 ∷ 0 ∷ 0 ∷ 0 ∷ 1 ∷ 2 ∷ 0 ∷ [];
    }
    -- P7 link 5, 25, 70: ranges 0..20, 21..40, 41..2^64 - 1
    ∷ record {
      computed = range_words (slices_of (planted 4 (5 ∷ 25 ∷ 70 ∷ [])) 0 0);
      expected = 1 ∷ 0 ∷ 20 ∷ 2 ∷ 21 ∷ 40 ∷ 3 ∷ 41 ∷ 18446744073709551615 ∷ [];
    }
    -- P8 link 5, 6: one link
    ∷ record { computed = range_words (slices_of (planted 4 (5 ∷ 6 ∷ [])) 0 0); expected = 1 ∷ 0 ∷ 20 ∷ [] }
    -- P9 P7 with T = 1: three merges due, the frozen place freed by the third
    ∷ record { computed = tidied 0; expected = 0 ∷ 2 ∷ [] }
    ∷ record { computed = tidied 1; expected = 0 ∷ 3 ∷ 0 ∷ 1 ∷ 0 ∷ 2 ∷ [] }
    ∷ record { computed = tidied 2; expected = 0 ∷ 3 ∷ 0 ∷ 1 ∷ 0 ∷ 2 ∷ [] }
    ∷ record { computed = tidied 3; expected = 0 ∷ 3 ∷ 0 ∷ 1 ∷ 0 ∷ 0 ∷ [] }
    ∷ record { computed = tidied 4; expected = 65 ∷ 0 ∷ [] }
    -- P10 levels holding 3 of 2 and 12 of 8: level 0; with 13 of 8, level 1
    ∷ record { computed = relieved (crowded 3 12); expected = 0 ∷ 0 ∷ 2 ∷ 0 ∷ 0 ∷ 0 ∷ [] }
    ∷ record { computed = relieved (crowded 3 13); expected = 1 ∷ 0 ∷ 1 ∷ 0 ∷ 1 ∷ 0 ∷ [] }
    -- document 02, note 2: T = 8, a table of 3 entries, slices of 1 and 2: due by weight at the second link and not at the first
    ∷ record { computed = weighed 1; expected = 0 ∷ 2 ∷ 0 ∷ 0 ∷ 0 ∷ 0 ∷ 1 ∷ [] }
    ∷ record { computed = weighed 2; expected = 0 ∷ 2 ∷ 0 ∷ 0 ∷ 0 ∷ 1 ∷ 1 ∷ 2 ∷ [] }
    ∷ record { computed = weighed 3; expected = 0 ∷ 3 ∷ 0 ∷ 1 ∷ 0 ∷ 0 ∷ [] }
    -- document 02, note 5: marks stay under 1 and 10, the ends of a span, 5, in it but in no range, and 30, two levels down; 0, 11 and 20 go
    ∷ record {
      computed = sifted (0 ∷ 1 ∷ 5 ∷ 10 ∷ 11 ∷ 30 ∷ []);
      expected = 0 ∷ 3 ∷ 0 ∷ 1 ∷ 0 ∷ 1 ∷ 1 ∷ 5 ∷ 10 ∷ 30 ∷ [];
    }
    -- where all marks go, nothing comes out
    ∷ record { computed = take 6 (sifted (11 ∷ [])); expected = 0 ∷ 3 ∷ 0 ∷ 1 ∷ 0 ∷ 0 ∷ [] }
    ∷ []

-- ---- the slips that this store invites (document 01), each with a case that it would get wrong

unfoldable pub slips : List Example
slips =
    -- a newer level 0 table goes down before an older one
    record {
      computed = reply (from (new 4)
          (ask_put_byte 1 65 ∷ ask_flush ∷ ask_put_byte 1 66 ∷ ask_flush ∷ ask_put_byte 1 67 ∷ ask_flush
          ∷ ask_tidy ∷ ask_look_up 1 ∷ []));
      expected = 0 ∷ 67 ∷ [];
    }
    -- delete marks dropped above level 3: the mark on level 2 hides the value on level 3
    ∷ record {
      computed = reply (from (planted_with 1
          ((entry 5 65 ∷ []) ∷ (deleted 5 ∷ []) ∷ (entry 9 66 ∷ []) ∷ [])
          (live [] ∷ live (single 2 0 greatest ∷ []) ∷ frozen ∷ [])
          ([] ∷ [] ∷ (1 ∷ []) ∷ (0 ∷ []) ∷ [])) (ask_tidy ∷ ask_look_up 5 ∷ []));
      expected = 64 ∷ [];
    }
    -- a whole frozen table merged, and not its slice
    ∷ record {
      computed = first_keys (from (planted_with 1
          (table_of (10 ∷ 20 ∷ []) ∷ table_of (30 ∷ 40 ∷ []) ∷ table_of (15 ∷ 35 ∷ []) ∷ [])
          (live (single 2 0 20 ∷ []) ∷ live (single 2 21 greatest ∷ []) ∷ frozen ∷ [])
          ([] ∷ (0 ∷ 1 ∷ []) ∷ [] ∷ [] ∷ [])) (ask_tidy ∷ [])).store 1;
      expected = 10 ∷ 15 ∷ 20 ∷ [];
    }
    -- the oldest link read first
    ∷ record {
      computed = reply (from (planted_with 4
          (table_of (5 ∷ []) ∷ (entry 7 65 ∷ []) ∷ (entry 7 66 ∷ []) ∷ [])
          (live (single 1 0 greatest ∷ single 2 0 greatest ∷ []) ∷ frozen ∷ frozen ∷ [])
          ([] ∷ (0 ∷ []) ∷ [] ∷ [] ∷ [])) (ask_look_up 7 ∷ []));
      expected = 0 ∷ 66 ∷ [];
    }
    -- keys between two lower tables left without a link: 25 lies between the spans 10..20 and 30..40
    ∷ record {
      computed = range_words (slices_of (planted 4 (21 ∷ 25 ∷ [])) 0 0);
      expected = 2 ∷ 21 ∷ 40 ∷ [];
    }
    -- a put that was refused with 18 counted by the map
    ∷ record {
      computed = length (fed (record { request = ask_put_byte 1 65; reply = reply_bytes put_kind memory_full [] }) []) ∷ [];
      expected = 0 ∷ [];
    }
    ∷ []

-- ---- damaged memory: the letter that comes with 5 (document 02, note 3)

-- Of a store with these bytes for its memory table: the number that a check gives, the letter, and the letters of all broken rules.
abbrev checked : Store → (memory : List ℕ) → List ℕ
checked s memory =
    let m : Lent =
    record { area = (lent_of s).area; cards = (lent_of s).cards; lists = (lent_of s).lists; head = (lent_of s).head; memory = memory } in
    check m ∷ letter_of m (check m) ∷ broken m

-- Place 0 is live on level 0, with a table that has no entry.
abbrev hollow : (threshold : ℕ) → Store
hollow t = planted_with t ([] ∷ []) (live [] ∷ []) ((0 ∷ []) ∷ [] ∷ [] ∷ [] ∷ [])

-- Level 1 has the tables 10 and 20, and the first one's link names the second, which is not frozen.
abbrev mislinked : Store
mislinked =
    planted_with 4 (table_of (10 ∷ []) ∷ table_of (20 ∷ []) ∷ []) (live (single 1 0 greatest ∷ []) ∷ live [] ∷ [])
    ([] ∷ (0 ∷ 1 ∷ []) ∷ [] ∷ [] ∷ [])

unfoldable pub letters : List Example
letters =
    -- A (65) before C and D
    record { computed = checked (hollow 9) (zeros place_size); expected = 5 ∷ 65 ∷ 65 ∷ 67 ∷ 68 ∷ [] }
    -- C (67) before D
    ∷ record { computed = checked (hollow 4) (zeros place_size); expected = 5 ∷ 67 ∷ 67 ∷ 68 ∷ [] }
    -- E (69) before F and G
    ∷ record { computed = checked mislinked (table_bytes []); expected = 5 ∷ 69 ∷ 69 ∷ 70 ∷ 71 ∷ [] }
    -- a sound store: no letter
    ∷ record { computed = checked (new 4) (table_bytes []); expected = 0 ∷ 0 ∷ [] }
    ∷ []

-- Do all rows agree?
unfoldable pub agree : List Example → Bool
agree [] = true
agree (e ∷ es) = same_bytes e.computed e.expected && agree es
