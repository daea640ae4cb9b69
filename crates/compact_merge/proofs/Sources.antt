-- What a merge has before it: at most nine lists of valid entries. The table is one, each slice is what a range leaves of another.
use Prim.Native.Nat.{ℕ, ◌≤◌, ◌<◌}
use mathlib.Core.Path.{refl, sym, ◌∙◌, ap}
use mathlib.Core.List.{List, [], ◌∷◌, map, reverse, Memᴰ}
use native.Mathlib.Omega.{arith}
use lib.ListN.{length, get_or, length-append, length-map, length-reverse}
use Rattle.coding.specs.Number.{Bytes}
use Rattle.ldc.specs.Store.{Link, links, table, slice, sources}
use Rattle.ldc.proofs.Basics.ListLaws.{get_or-mem}
use Rattle.ldc.proofs.Basics.Replaced.{member-reverse}
use Rattle.ldc.proofs.Entries.Few.{AllValid, valid-append, valid-within}
use Rattle.ldc.specs.Layout.{link_count}
use Rattle.read.specs.Shown.{Tabled, Legible}
use Rattle.read.proofs.Shows.{place-valid, table-shown, slice-shown, carded, links-long, link-shown}
use Rattle.book.specs.Rows.{shown_by}
use Rattle.book.proofs.Rows.{no_link}
use Rattle.compact_merge.specs.Merge.{merge_tables}

-- ---- the sources of a place

module _ (area : List ℕ) (cards : List (List ℕ)) (g : Legible area cards) (b : Bytes area) (p : ℕ) (t : Tabled area p) where
  -- A link names a table.
  link-tabled : (l : Link) → Memᴰ l (links (shown_by area cards) p) → Tabled area l.place
  link-tabled l m =
      let d : Link = no_link in
      let h = carded area cards g p t in
      let i = get_or-mem (links (shown_by area cards) p) d m in
      let few : i.0 < link_count (get_or cards p []) = omega (arith, i.1, links-long area cards g p h) in
      let e = sym (link-shown area cards g p h i.0 d few) ∙ i.2 in
      rw (ap (λ (x : Link). x.place) e) at (g.linked p i.0 h few)

  slices-valid : (ls : List Link) → ((l : Link) → Memᴰ l ls → Tabled area l.place) → AllValid (map (slice (shown_by area cards)) ls)
  slices-valid [] h = tt
  slices-valid (l ∷ ls) h = (
    rw (slice-shown area cards g l) (valid-within l.low l.high _ (place-valid area l.place b (h l (Memᴰ.head refl)))),
    slices-valid ls (λ x m. h x (Memᴰ.tail m)),
  )

  pub sources-valid : AllValid (sources (shown_by area cards) p)
  unfolding sources
  sources-valid =
      let s = shown_by area cards in
      valid-append (map (slice s) (reverse (links s p))) (table s p ∷ [])
      (slices-valid (reverse (links s p)) (λ l m. link-tabled l (member-reverse l (links s p) m)))
      (rw (table-shown area cards g p) (place-valid area p b t), tt)

  pub sources-few : length (sources (shown_by area cards) p) ≤ merge_tables
  unfolding sources
  sources-few =
      let s = shown_by area cards in
      let h = carded area cards g p t in
      omega (
        arith,
        length-append (map (slice s) (reverse (links s p))) (table s p ∷ []),
        length-map (reverse (links s p)) (slice s),
        length-reverse (links s p),
        links-long area cards g p h,
        g.counted p h,
      )
