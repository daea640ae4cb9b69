-- The read order in its parts: memory, level 0, and the levels below, each as one list of entries.
use Prim.Native.Nat.{ℕ, zero, suc, ◌≤◌}
use mathlib.Core.Path.{◌≡◌, refl, sym, ◌∙◌, ap}
use mathlib.Core.List.Memᴰ
use mathlib.Core.List.{List, [], ◌∷◌, ◌++◌, map, reverse, reverse-cons, append-nil, append_assoc, Memᴰ}
use mathlib.Core.Option.{Option, some, none}
use native.Mathlib.Omega.{arith}
use Rattle.table.specs.Entry.{Entry}
use Rattle.table.specs.Search.{find}
use Rattle.ldc.specs.Lists.{flat}
use Rattle.ldc.specs.Store.{Store, level, links, table, sources, span_start}
use Rattle.ldc.specs.Read.{read_order, value_of}
use Rattle.ldc.proofs.Entries.Finds.{or_else, or_else-assoc, find-append}
use Rattle.ldc.proofs.Stores.Spans.{Readable, spans-from, reads, reads-flat, reads-apart, find-reads, flat_append, or_else-swap}
use Rattle.ldc.specs.Facts.{Spans}

-- What is read of some tables of level 0, newest first.
abbrev pub newest : Store → List ℕ → List Entry
newest s ps = flat (map (table s) (reverse ps))

-- The entry that decides.
abbrev pub view : Store → ℕ → Option Entry
view s k = find k (flat (read_order s))

-- By levels.
abbrev pub view_parts : Option Entry → Option Entry → Option Entry → Option Entry → Option Entry → Option Entry
view_parts m a b c d = or_else m (or_else a (or_else b (or_else c d)))

pub view-parts : (s : Store) (k : ℕ) → view s k
    ≡ view_parts (find k s.memory) (find k (newest s (level s 0))) (find k (reads s (level s 1))) (find k (reads s (level s 2))) (find k (reads s (level s 3)))
unfolding read_order
view-parts s k =
    let z : List (List Entry) = map (table s) (reverse (level s 0)) in
    let b : List (List Entry) = flat (map (sources s) (level s 1)) in
    let c : List (List Entry) = flat (map (sources s) (level s 2)) in
    let d : List (List Entry) = flat (map (sources s) (level s 3)) in
    find-append k s.memory (flat (z ++ (b ++ (c ++ d))))
    ∙ ap (or_else (find k s.memory))
    (ap (find k) (flat_append z (b ++ (c ++ d))) ∙ find-append k (flat z) (flat (b ++ (c ++ d)))
    ∙ ap (or_else (find k (flat z)))
    (ap (find k) (flat_append b (c ++ d)) ∙ find-append k (flat b) (flat (c ++ d))
    ∙ ap (λ o. or_else o (find k (flat (c ++ d)))) (ap (find k) (reads-flat s (level s 1)))
    ∙ ap (or_else (find k (reads s (level s 1))))
    (ap (find k) (flat_append c d) ∙ find-append k (flat c) (flat d)
    ∙ ap (λ o. or_else o (find k (flat d))) (ap (find k) (reads-flat s (level s 2)))
    ∙ ap (λ o. or_else (find k (reads s (level s 2))) o) (ap (find k) (reads-flat s (level s 3))))))

-- ---- by the number of the level

-- What a level gives to a key.
abbrev pub given : Store → (level key : ℕ) → Option Entry
given s zero k = find k (newest s (level s 0))
given s (suc n) k = find k (reads s (level s (suc n)))

pub or_else-none : (o : Option Entry) → or_else o none ≡ o
or_else-none (some e) = refl
or_else-none none = refl

pub view-given : (s : Store) (k : ℕ) → view s k ≡ view_parts (find k s.memory) (given s 0 k) (given s 1 k) (given s 2 k) (given s 3 k)
view-given s k = view-parts s k

module _ (m m' a a' b b' c c' d d' : Option Entry) (em : m' ≡ m) where
  parts-upper : c' ≡ c → d' ≡ d → or_else a' (or_else b' (or_else c d)) ≡ or_else a (or_else b (or_else c d)) → view_parts m' a' b' c' d' ≡ view_parts m a b c d
  parts-upper ec ed two = rw (em, ec, ed) (ap (or_else m) two)

  parts-middle : a' ≡ a → d' ≡ d → or_else b' (or_else c' d) ≡ or_else b (or_else c d) → view_parts m' a' b' c' d' ≡ view_parts m a b c d
  parts-middle ea ed two = rw (em, ea, ed) (ap (λ o. or_else m (or_else a o)) two)

  parts-lower : a' ≡ a → b' ≡ b → or_else c' d' ≡ or_else c d → view_parts m' a' b' c' d' ≡ view_parts m a b c d
  parts-lower ea eb two = rw (em, ea, eb) (ap (λ o. or_else m (or_else a (or_else b o))) two)

-- A change of two neighbouring levels that together give the same changes no answer.
pub view-two : (s s' : Store) (k n : ℕ) → n ≤ 2 → s'.memory ≡ s.memory
    → ((i : ℕ) → (i ≡ n → ⊥) → (i ≡ suc n → ⊥) → given s' i k ≡ given s i k)
    → ((rest : Option Entry) → or_else (given s' n k) (or_else (given s' (suc n) k) rest) ≡ or_else (given s n k) (or_else (given s (suc n) k) rest))
    → view s' k ≡ view s k
view-two s s' k zero b m same two =
    view-given s' k
    ∙ parts-upper (find k s.memory) (find k s'.memory) (given s 0 k) (given s' 0 k) (given s 1 k) (given s' 1 k) (given s 2 k) (given s' 2 k) (given s 3 k) (given s' 3 k)
    (ap (find k) m) (same 2 (λ e. omega arith) (λ e. omega arith)) (same 3 (λ e. omega arith) (λ e. omega arith)) (two (or_else (given s 2 k) (given s 3 k)))
    ∙ sym (view-given s k)
view-two s s' k (suc zero) b m same two =
    view-given s' k
    ∙ parts-middle (find k s.memory) (find k s'.memory) (given s 0 k) (given s' 0 k) (given s 1 k) (given s' 1 k) (given s 2 k) (given s' 2 k) (given s 3 k) (given s' 3 k)
    (ap (find k) m) (same 0 (λ e. omega arith) (λ e. omega arith)) (same 3 (λ e. omega arith) (λ e. omega arith)) (two (given s 3 k))
    ∙ sym (view-given s k)
view-two s s' k (suc (suc zero)) b m same two =
    let last : or_else (given s' 2 k) (given s' 3 k) ≡ or_else (given s 2 k) (given s 3 k) =
    ap (or_else (given s' 2 k)) (sym (or_else-none (given s' 3 k))) ∙ two none ∙ ap (or_else (given s 2 k)) (or_else-none (given s 3 k)) in
    view-given s' k
    ∙ parts-lower (find k s.memory) (find k s'.memory) (given s 0 k) (given s' 0 k) (given s 1 k) (given s' 1 k) (given s 2 k) (given s' 2 k) (given s 3 k) (given s' 3 k)
    (ap (find k) m) (same 0 (λ e. omega arith) (λ e. omega arith)) (same 1 (λ e. omega arith) (λ e. omega arith)) last
    ∙ sym (view-given s k)
view-two s s' k (suc (suc (suc n))) b m same two = absurd (omega arith)

-- ---- a table taken out of its level

-- What a table without links gives.
pub bare-sources : (s : Store) (p : ℕ) → links s p ≡ [] → flat (sources s p) ≡ table s p
unfolding sources
bare-sources s p e = rw e (append-nil (table s p))

-- From level 0 the oldest: it is read last there.
pub oldest-out : (s : Store) (k p : ℕ) (ps : List ℕ) (rest : Option Entry)
    → or_else (find k (newest s (p ∷ ps))) rest ≡ or_else (find k (newest s ps)) (or_else (find k (table s p)) rest)
oldest-out s k p ps rest =
    let e : newest s (p ∷ ps) ≡ newest s ps ++ table s p =
    ap (λ (qs : List ℕ). flat (map (table s) qs)) (reverse-cons p ps) ∙ map-flat (reverse ps) in
    rw (e, find-append k (newest s ps) (table s p)) (or_else-assoc (find k (newest s ps)) (find k (table s p)) rest)
  where
    map-flat : (qs : List ℕ) → flat (map (table s) (qs ++ (p ∷ []))) ≡ flat (map (table s) qs) ++ table s p
    map-flat qs = elim qs as (λ ps. flat (map (table s) (ps ++ (p ∷ []))) ≡ flat (map (table s) ps) ++ table s p) [ [] ↦ append-nil (table s p) | q ∷ (qs → h) ↦ ap (λ (es : List Entry). table s q ++ es) h ∙ sym (append_assoc (table s q) (flat (map (table s) qs)) (table s p)) ]

-- From a level below any: no table behind it holds its keys.
pub table-out : (s : Store) (k low p : ℕ) (xs ys : List ℕ) (rest : Option Entry)
    → ((q : ℕ) → Memᴰ q (xs ++ (p ∷ ys)) → Readable s q) → Spans s low (xs ++ (p ∷ ys))
    → or_else (find k (reads s (xs ++ (p ∷ ys)))) rest ≡ or_else (find k (reads s (xs ++ ys))) (or_else (find k (flat (sources s p))) rest)
table-out s k low p xs ys rest r h =
    let f = find k (reads s xs) in
    let a = find k (flat (sources s p)) in
    let b = find k (reads s ys) in
    let apart = reads-apart s k (span_start s p) p ys (λ q m. r q (Memᴰ.append_right xs m)) (spans-from s low xs p ys h) in
    rw (find-reads s k xs (p ∷ ys), find-reads s k xs ys, find-append k (flat (sources s p)) (reads s ys))
    (or_else-assoc f (or_else a b) rest
    ∙ ap (or_else f) (or_else-assoc a b rest ∙ or_else-swap a b rest apart)
    ∙ sym (or_else-assoc f b (or_else a rest)))

-- ---- the value that is read

pub value-or_else : (a x y : Option Entry) → value_of x ≡ value_of y → value_of (or_else a x) ≡ value_of (or_else a y)
value-or_else (some e) x y h = refl
value-or_else none x y h = h

-- Below memory and levels 0 and 1.
value-upper : (s : Store) (k : ℕ) (x y : Option Entry) → value_of x ≡ value_of y
    → value_of (or_else (find k s.memory) (or_else (given s 0 k) (or_else (given s 1 k) x)))
    ≡ value_of (or_else (find k s.memory) (or_else (given s 0 k) (or_else (given s 1 k) y)))
value-upper s k x y h =
    value-or_else (find k s.memory) (or_else (given s 0 k) (or_else (given s 1 k) x)) (or_else (given s 0 k) (or_else (given s 1 k) y))
    (value-or_else (given s 0 k) (or_else (given s 1 k) x) (or_else (given s 1 k) y) (value-or_else (given s 1 k) x y h))

parts_same : {m m' a a' b b' c c' d d' : Option Entry} → m' ≡ m → a' ≡ a → b' ≡ b → c' ≡ c → d' ≡ d → view_parts m' a' b' c' d' ≡ view_parts m a b c d
parts_same em ea eb ec ed = rw (em, ea, eb, ec, ed)

-- What the levels below one of levels 1 to 3 give.
abbrev pub beneath : Store → (level key : ℕ) → Option Entry
beneath s zero k = none
beneath s (suc zero) k = or_else (given s 2 k) (given s 3 k)
beneath s (suc (suc zero)) k = given s 3 k
beneath s (suc (suc (suc n))) k = none

-- A change of one of levels 1 to 3 that leaves the value given by it and those below changes no value.
pub view-one : (s s' : Store) (k n : ℕ) → 1 ≤ n → n ≤ 3 → s'.memory ≡ s.memory → ((i : ℕ) → (i ≡ n → ⊥) → given s' i k ≡ given s i k)
    → value_of (or_else (given s' n k) (beneath s n k)) ≡ value_of (or_else (given s n k) (beneath s n k)) → value_of (view s' k) ≡ value_of (view s k)
view-one s s' k zero l h m same one = absurd (omega arith)
view-one s s' k (suc zero) l h m same one =
    let rest = or_else (given s 2 k) (given s 3 k) in
    let parts : view s' k ≡ view_parts (find k s.memory) (given s 0 k) (given s' 1 k) (given s 2 k) (given s 3 k) =
    view-given s' k ∙ parts_same (ap (find k) m) (same 0 (λ e. omega arith)) (refl {a = given s' 1 k}) (same 2 (λ e. omega arith)) (same 3 (λ e. omega arith)) in
    ap value_of parts
    ∙ value-or_else (find k s.memory) (or_else (given s 0 k) (or_else (given s' 1 k) rest)) (or_else (given s 0 k) (or_else (given s 1 k) rest))
    (value-or_else (given s 0 k) (or_else (given s' 1 k) rest) (or_else (given s 1 k) rest) one)
    ∙ sym (ap value_of (view-given s k))
view-one s s' k (suc (suc zero)) l h m same one =
    let rest : Option Entry → Option Entry = λ o. or_else o (given s 3 k) in
    let parts : view s' k ≡ view_parts (find k s.memory) (given s 0 k) (given s 1 k) (given s' 2 k) (given s 3 k) =
    view-given s' k ∙ parts_same (ap (find k) m) (same 0 (λ e. omega arith)) (same 1 (λ e. omega arith)) (refl {a = given s' 2 k}) (same 3 (λ e. omega arith)) in
    ap value_of parts
    ∙ value-upper s k (rest (given s' 2 k)) (rest (given s 2 k)) one
    ∙ sym (ap value_of (view-given s k))
view-one s s' k (suc (suc (suc zero))) l h m same one =
    let parts : view s' k ≡ view_parts (find k s.memory) (given s 0 k) (given s 1 k) (given s 2 k) (given s' 3 k) =
    view-given s' k ∙ parts_same (ap (find k) m) (same 0 (λ e. omega arith)) (same 1 (λ e. omega arith)) (same 2 (λ e. omega arith)) (refl {a = given s' 3 k}) in
    ap value_of parts
    ∙ value-upper s k (or_else (given s 2 k) (given s' 3 k)) (or_else (given s 2 k) (given s 3 k))
    (value-or_else (given s 2 k) (given s' 3 k) (given s 3 k)
    (ap value_of (sym (or_else-none (given s' 3 k))) ∙ one ∙ ap value_of (or_else-none (given s 3 k))))
    ∙ sym (ap value_of (view-given s k))
view-one s s' k (suc (suc (suc (suc n)))) l h m same one = absurd (omega arith)
