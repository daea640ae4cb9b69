-- The tables of a merge, one after the other: what is written and what is left make the whole, from the first table to the last.
use Prim.Native.Nat.{ℕ, zero, suc, ◌+◌, ◌*◌, ◌≤◌, ◌<◌, ◌^◌}
use mathlib.Core.Path.{◌≡◌, sym, ◌∙◌, ap}
use mathlib.Core.List.{List, [], ◌∷◌}
use native.Mathlib.Omega.{arith}
use lib.ListN.{length, take, drop, length-drop, drop_of_length-le}
use lib.Seq.{sets, drop-drop}
use Rattle.coding.proofs.Sets.{sets-append}
use Rattle.table.specs.Limits.{table_limit, place_size}
use Rattle.table.specs.Entry.{Entry}
use Rattle.table.specs.Table.{table_bytes}
use Rattle.table.specs.Valid.{Keys, Values}
use Rattle.ldc.specs.Tidy.{cut}
use Rattle.ldc.proofs.Entries.Keys.{values-drop, keys-tail}
use Rattle.compact_merge.specs.Merge.{bytes_out}
use Rattle.compact_merge.proofs.Merged.{cut-turn, cut-none, piece-long}

keys-drop : (n low high : ℕ) (es : List Entry) → Keys low high es → Keys low high (drop n es)
keys-drop zero low high es h = h
keys-drop (suc n) low high [] h = h
keys-drop (suc n) low high (e ∷ es) h = keys-drop n low high es (keys-tail low high e es h)

-- So many tables are written, and the entries that are not in them are left.
pub record Writing (es : List Entry) (before out : List ℕ) (tables : ℕ) : Type 0 where
  pub long : length out ≡ length before
  pub written : sets before 0 (bytes_out (cut es)) ≡ sets out (tables * place_size) (bytes_out (cut (drop (tables * table_limit) es)))
  pub count : length (cut es) ≡ tables + length (cut (drop (tables * table_limit) es))

module _ (es : List Entry) (before out : List ℕ) (tables : ℕ) (w : Writing es before out tables) where
  pub write_done : length es ≤ tables * table_limit → (tables ≡ length (cut es)) × (out ≡ sets before 0 (bytes_out (cut es)))
  unfolding bytes_out
  write_done h =
      let end : cut (drop (tables * table_limit) es) ≡ [] = ap cut (drop_of_length-le es {i = tables * table_limit} h) ∙ cut-none in
      (omega (arith, w.count, ap length end), sym (w.written ∙ rw end))

  pub write-turn : (next part : List ℕ) → Keys 0 (2 ^ 64) es → Values es → tables * table_limit < length es
      → next ≡ sets out (tables * place_size) part → length next ≡ length out
      → part ≡ table_bytes (take table_limit (drop (tables * table_limit) es)) → Writing es before next (tables + 1)
  unfolding bytes_out
  write-turn next part k v h n nl p =
      let from : ℕ = tables * table_limit in
      let left : List Entry = drop from es in
      let rest : List Entry = drop table_limit left in
      let some : 1 ≤ length left = omega (arith, length-drop from es) in
      let turn : cut left ≡ take table_limit left ∷ cut rest = cut-turn left some in
      let long : length (table_bytes (take table_limit left)) ≡ place_size =
      piece-long left (keys-drop from 0 (2 ^ 64) es k) (values-drop from es v) some in
      let at : tables * place_size + length (table_bytes (take table_limit left)) ≡ (tables + 1) * place_size = omega arith in
      let behind : from + table_limit ≡ (tables + 1) * table_limit = omega arith in
      let further : rest ≡ drop ((tables + 1) * table_limit) es = drop-drop table_limit from es ∙ ap (λ i. drop i es) behind in
      record {
        long = nl ∙ w.long;
        written = w.written ∙ ap (λ (ts : List (List Entry)). sets out (tables * place_size) (bytes_out ts)) turn
            ∙ sets-append out (tables * place_size) (table_bytes (take table_limit left)) (bytes_out (cut rest))
            ∙ rw (at, sym further, n, p);
        count = rw (sym further) (omega (arith, w.count, ap length turn));
      }
