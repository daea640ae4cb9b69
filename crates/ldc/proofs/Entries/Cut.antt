-- Cutting a list of entries into tables of 16: the tables one after the other are the list, each has 1 to 16 entries, and their spans rise.
-- By induction on the number that bounds how many tables there can be.
use Prim.Native.Nat.{ℕ, zero, suc, ◌+◌, ◌*◌, ◌≤◌, ◌^◌}
use mathlib.Core.Path.{◌≡◌, refl, ◌∙◌, ap}
use mathlib.Core.List.Memᴰ
use mathlib.Core.List.{List, [], ◌∷◌, ◌++◌, map, Memᴰ}
use mathlib.Core.Logic.{⊎_elim}
use native.Mathlib.Omega.{arith}
use lib.ListN.{length, take, drop, length-take, length-drop, take-append-drop}
use Rattle.table.specs.Entry.{Entry}
use Rattle.table.specs.Limits.{table_limit}
use Rattle.table.specs.Search.{least_key, greatest_key}
use Rattle.table.specs.Valid.{Keys, Values, Valid}
use Rattle.ldc.specs.Lists.{flat}
use Rattle.ldc.specs.Store.{Store, links, table, span_start, span_end}
use Rattle.ldc.specs.Tidy.{cut_in, cut}
use Rattle.ldc.proofs.Entries.Keys.{keys-order, keys-lower, values-take, values-drop}
use Rattle.ldc.proofs.Stores.Spans.{least-greatest}
use Rattle.ldc.specs.Facts.{Spans}

pub flat-cut_in : (n : ℕ) (es : List Entry) → length es ≤ n → flat (cut_in n es) ≡ es
flat-cut_in zero [] h = refl
flat-cut_in zero (e ∷ es) h = absurd (omega arith)
flat-cut_in (suc n) [] h = refl
flat-cut_in (suc n) (e ∷ es) h =
    ap (λ (xs : List Entry). take table_limit (e ∷ es) ++ xs)
    (flat-cut_in n (drop table_limit (e ∷ es)) (simp length-drop (omega arith)))
    ∙ take-append-drop table_limit (e ∷ es)

pub flat-cut : (es : List Entry) → flat (cut es) ≡ es
unfolding cut
flat-cut es = flat-cut_in (length es) es (omega arith)

-- ---- how many tables there are

cut_in-few : (n : ℕ) (es : List Entry) → table_limit * length (cut_in n es) ≤ length es + 15
cut_in-few zero es = omega arith
cut_in-few (suc n) [] = omega arith
cut_in-few (suc n) (e ∷ es) =
    let r = cut_in-few n (drop table_limit (e ∷ es)) in omega (arith, length-drop table_limit (e ∷ es))

pub cut-few : (es : List Entry) → table_limit * length (cut es) ≤ length es + 15
unfolding cut
cut-few es = cut_in-few (length es) es

-- ---- each table is valid

keys-take : (n low high : ℕ) (es : List Entry) → Keys low high es → Keys low high (take n es)
keys-take zero low high es h = keys-order low high es h
keys-take (suc n) low high [] h = h
keys-take (suc n) low high (e ∷ es) h = (h.0, keys-take n (suc e.key) high es h.1)

keys-drop : (n low high : ℕ) (es : List Entry) → Keys low high es → Keys low high (drop n es)
keys-drop zero low high es h = h
keys-drop (suc n) low high [] h = h
keys-drop (suc n) low high (e ∷ es) h = keys-lower (suc e.key) low high (drop n es) (omega (arith, h.0)) (keys-drop n (suc e.key) high es h.1)

-- What a table of a merge is.
pub record Piece (t : List Entry) : Type 0 where
  pub valid : Valid t
  pub some : 1 ≤ length t

pub cut_in-pieces : (n : ℕ) (es : List Entry) → Keys 0 (2 ^ 64) es → Values es → (t : List Entry) → Memᴰ t (cut_in n es) → Piece t
cut_in-pieces zero es k v t m = absurd (elim m [ ])
cut_in-pieces (suc n) [] k v t m = absurd (elim m [ ])
cut_in-pieces (suc n) (e ∷ es) k v t m =
    ⊎_elim
    (λ q. rw q (record {
      valid = record {
        keys = keys-take table_limit 0 (2 ^ 64) (e ∷ es) k;
        values = values-take table_limit (e ∷ es) v;
        few = simp length-take (omega arith);
      };
      some = simp length-take (omega arith);
    }))
    (λ r. cut_in-pieces n (drop table_limit (e ∷ es)) (keys-drop table_limit 0 (2 ^ 64) (e ∷ es) k) (values-drop table_limit (e ∷ es) v) t r)
    (Memᴰ.cases_cons m)

pub cut-pieces : (es : List Entry) → Keys 0 (2 ^ 64) es → Values es → (t : List Entry) → Memᴰ t (cut es) → Piece t
unfolding cut
cut-pieces es k v t m = cut_in-pieces (length es) es k v t m

-- ---- their spans rise

keys-behind : (low high : ℕ) (xs ys : List Entry) → 1 ≤ length xs → Keys low high (xs ++ ys) → (low ≤ least_key xs) × Keys (suc (greatest_key xs)) high ys
unfolding least_key greatest_key
keys-behind low high [] ys n h = absurd (omega arith)
keys-behind low high (x ∷ []) ys n h = (h.0, h.1)
keys-behind low high (x ∷ z ∷ xs) ys n h = (h.0, (keys-behind (suc x.key) high (z ∷ xs) ys (omega arith) h.1).1)

keys-front : (low high : ℕ) (xs ys : List Entry) → Keys low high (xs ++ ys) → Keys low high xs
keys-front low high [] ys h = keys-order low high ys h
keys-front low high (x ∷ xs) ys h = (h.0, keys-front (suc x.key) high xs ys h.1)

-- Spans that rise from `low` on and end below `high`.
abbrev pub SpansTo : Store → (low high : ℕ) → List ℕ → Type 0
SpansTo s low high [] = low ≤ high
SpansTo s low high (p ∷ ps) = (low ≤ span_start s p) × (span_start s p ≤ span_end s p) × SpansTo s (suc (span_end s p)) high ps

pub spans-join : (s : Store) (low high : ℕ) (xs ys : List ℕ) → SpansTo s low high xs → Spans s high ys → Spans s low (xs ++ ys)
spans-join s low high [] [] h k = tt
spans-join s low high [] (y ∷ ys) h k = (omega (arith, h, k.0), k.1, k.2)
spans-join s low high (x ∷ xs) ys h k = (h.0, h.1, spans-join s (suc (span_end s x)) high xs ys h.2 k)

-- The span of a table without links is that of its own keys.
module _ (s : Store) (q : ℕ) (b : links s q ≡ []) where
  bare-start : span_start s q ≡ least_key (table s q)
  unfolding span_start
  bare-start = rw b

  bare-end : span_end s q ≡ greatest_key (table s q)
  unfolding span_end
  bare-end = rw b

pub pieces-spans : (s : Store) (low high : ℕ) (qs : List ℕ) → ((q : ℕ) → Memᴰ q qs → (links s q ≡ []) × (1 ≤ length (table s q)))
    → Keys low high (flat (map (table s) qs)) → SpansTo s low high qs
pieces-spans s low high [] b k = k
pieces-spans s low high (q ∷ qs) b k =
    let c = b q (Memᴰ.head refl) in
    let t = keys-behind low high (table s q) (flat (map (table s) qs)) c.1 k in
    let o = least-greatest low high (table s q) c.1 (keys-front low high (table s q) (flat (map (table s) qs)) k) in
    rw (bare-start s q c.0, bare-end s q c.0) (t.0, o, pieces-spans s (suc (greatest_key (table s q))) high qs (λ x m. b x (Memᴰ.tail m)) t.1)
