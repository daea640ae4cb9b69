-- Sources taken in one after the other.
use Prim.Native.Nat.{ℕ, ◌+◌, ◌≤◌, ◌<◌, ◌%◌, max, min}
use mathlib.Core.Path.{◌≡◌, refl, sym, ◌∙◌, ap}
use mathlib.Core.Bool.{Bool, true, false, ◌&&◌}
use mathlib.Core.List.{List, [], ◌∷◌, ◌++◌, map, reverse, reverse-append, map-append}
use native.Mathlib.Omega.{arith}
use native.Mathlib.Numerals.{add-one}
use borrow.Author.Tests.{leb-true, leb-false, le-leb, lt-leb}
use lib.Dec.{leb}
use lib.ListN.{length, take, drop, get_or, length-drop}
use lib.Seq.{take-append-le, drop-append-le, take-suc, take_all}
use Rattle.table.specs.Limits.{place_size}
use Rattle.table.specs.Entry.{Entry}
use Rattle.table.specs.Table.{entries, place_at, place_of}
use Rattle.ldc.specs.Store.{Link, links, table, slice, sources, within}
use Rattle.ldc.specs.Read.{gather}
use Rattle.ldc.proofs.Entries.Keys.{AllKeys}
use Rattle.ldc.specs.Layout.{link_count, link_at}
use Rattle.book.specs.Rows.{shown_by}
use Rattle.book.proofs.Rows.{no_link}
use Rattle.read.specs.Shown.{Legible}
use Rattle.read.proofs.Shows.{table-shown, slice-shown, links-long, link-shown}
use Rattle.ldc.proofs.Basics.Cases.{cases}
use Rattle.read_gather.specs.Beside.{Rises, InUse}
use Rattle.read_gather.specs.Gathered.{intake, gathered, Gathers, TakenIn}
use Rattle.read_gather.proofs.Intake.{gathered-range}
use Rattle.read_gather.specs.Sources.{gather_on, ranges, TakenAll}

-- ---- one after the other

pub on-append : (n : ℕ) (xss yss : List (List Entry)) (es : List Entry) → gather_on n (xss ++ yss) es ≡ gather_on n xss (gather_on n yss es)
on-append n [] yss es = refl
on-append n (xs ∷ xss) yss es = ap (intake n xs) (on-append n xss yss es)

pub on_none : (n : ℕ) (sources : List (List Entry)) → gather_on n sources [] ≡ gathered n sources
on_none n [] = refl
on_none n (es ∷ rest) = ap (intake n es) (on_none n rest)

pub none-taken : (area keys spots : List ℕ) (n : ℕ) → n ≤ length keys → Rises 0 (take n keys) → TakenAll area [] keys spots n keys spots n
none-taken area keys spots n l u = record { inside = l; rises = u; gathers = λ behind es g. g }

-- Then they are in use as before.
pub in_use : {area : List ℕ} {xss : List (List Entry)} {keys spots : List ℕ} {n : ℕ} {keys' spots' : List ℕ} {r : ℕ} → InUse keys spots n
    → TakenAll area xss keys spots n keys' spots' r → length keys' ≡ length keys → length spots' ≡ length spots → InUse keys' spots' r
in_use u t k s = (rw k t.inside, (t.rises, s ∙ u.1.1 ∙ sym k))

pub both-taken : (area : List ℕ) (xss yss : List (List Entry)) (k₀ s₀ : List ℕ) (n₀ : ℕ) (k₁ s₁ : List ℕ) (n₁ : ℕ) (k₂ s₂ : List ℕ) (n₂ : ℕ)
    → length k₁ ≡ length k₀ → TakenAll area yss k₀ s₀ n₀ k₁ s₁ n₁ → TakenAll area xss k₁ s₁ n₁ k₂ s₂ n₂ → TakenAll area (xss ++ yss) k₀ s₀ n₀ k₂ s₂ n₂
both-taken area xss yss k₀ s₀ n₀ k₁ s₁ n₁ k₂ s₂ n₂ l a b = record {
  inside = rw (sym l) b.inside;
  rises = b.rises;
  gathers = λ behind es g.
      rw (on-append (length k₀) xss yss es, sym l) (b.gathers behind (gather_on (length k₁) yss es) (rw l (a.gathers behind es g)));
}

-- ---- one table of the area

abbrev pub table_at : (area : List ℕ) → (p : ℕ) → List Entry
table_at area p = entries (place_of area p)

pub place-before : (area behind : List ℕ) (base : ℕ) → base + place_size ≤ length area → place_at base area ≡ place_at base (area ++ behind)
place-before area behind base h =
    sym (ap (take place_size) (drop-append-le base area behind (omega arith))
    ∙ take-append-le place_size (drop base area) behind (simp length-drop (omega arith)))

pub one-taken : (area : List ℕ) (base low high : ℕ) (keys spots : List ℕ) (n : ℕ) (keys' spots' : List ℕ) (r : ℕ) → base + place_size ≤ length area
    → base % place_size ≡ 0
    → TakenIn (place_at base area) base low high keys spots n keys' spots' r
    → TakenAll area (within low high (entries (place_at base area)) ∷ []) keys spots n keys' spots' r
one-taken area base low high keys spots n keys' spots' r h z t = record {
  inside = t.inside;
  rises = t.rises;
  gathers = λ behind es g. t.gathers (area ++ behind) es (place-before area behind base h, z) g;
}

-- ---- the range of a range

leb-max : (a c k : ℕ) → leb (max a c) k ≡ (leb a k && leb c k)
leb-max a c k =
    cases (leb a k)
    (λ p. cases (leb c k)
    (λ q. rw (p, q) (le-leb (max a c) k (omega (arith, leb-true a k p, leb-true c k q))))
    (λ q. rw (p, q) (lt-leb (max a c) k (omega (arith, leb-false c k q)))))
    (λ p. rw p (lt-leb (max a c) k (omega (arith, leb-false a k p))))

leb-min : (b d k : ℕ) → leb k (min b d) ≡ (leb k b && leb k d)
leb-min b d k =
    cases (leb k b)
    (λ p. cases (leb k d)
    (λ q. rw (p, q) (le-leb k (min b d) (omega (arith, leb-true k b p, leb-true k d q))))
    (λ q. rw (p, q) (lt-leb k (min b d) (omega (arith, leb-false k d q)))))
    (λ p. rw p (lt-leb k (min b d) (omega (arith, leb-false k b p))))

four : (a b c d : Bool) → ((a && c) && (b && d)) ≡ ((c && d) && (a && b))
four true true true true = refl
four true true true false = refl
four true true false d = refl
four true false true true = refl
four true false true false = refl
four true false false d = refl
four false b true true = refl
four false b true false = refl
four false b false d = refl

pub within-within : (a b c d : ℕ) (es : List Entry) → within a b (within c d es) ≡ within (max a c) (min b d) es
unfolding within
within-within a b c d [] = refl
within-within a b c d (e ∷ es) =
    let k : ℕ = e.key in
    let t : (leb (max a c) k && leb k (min b d)) ≡ ((leb c k && leb k d) && (leb a k && leb k b)) =
    rw (leb-max a c k, leb-min b d k) (four (leb a k) (leb k b) (leb c k) (leb k d)) in
    cases (leb c k && leb k d)
    (λ q. cases (leb a k && leb k b)
    (λ r. let y : (leb (max a c) k && leb k (min b d)) ≡ true = t ∙ rw (q, r) in
    rw (q, y, r) (ap (λ (l : List Entry). e ∷ l) (within-within a b c d es)))
    (λ r. let y : (leb (max a c) k && leb k (min b d)) ≡ false = t ∙ rw (q, r) in rw (q, y, r) (within-within a b c d es)))
    (λ q. let y : (leb (max a c) k && leb k (min b d)) ≡ false = t ∙ rw q in rw (q, y) (within-within a b c d es))

-- ---- links

pub newest : {A B : Type 0} (f : A → B) (xs : List A) (i : ℕ) (d : A) → i < length xs
    → map f (reverse (take (i + 1) xs)) ≡ f (get_or xs i d) ∷ map f (reverse (take i xs))
newest f xs i d h =
    ap (λ j. map f (reverse (take j xs))) (add-one i)
    ∙ ap (map f) (ap reverse (take-suc xs i d h) ∙ reverse-append (take i xs) (get_or xs i d ∷ []))

module _ (area : List ℕ) (cards : List (List ℕ)) (g : Legible area cards) (p : ℕ) (h : p < length cards) (low high : ℕ) where
  -- What the first i links give.
  abbrev pub sliced : (i : ℕ) → List (List Entry)
  sliced i = ranges low high (map (slice (shown_by area cards)) (reverse (take i (links (shown_by area cards) p))))

  -- All of them.
  pub sliced-all : (i count : ℕ) → count ≡ link_count (get_or cards p []) → i ≤ count → count ≤ i
      → sliced i ≡ ranges low high (map (slice (shown_by area cards)) (reverse (links (shown_by area cards) p)))
  sliced-all i count c a b =
      let s = shown_by area cards in
      ap (λ (ls : List Link). ranges low high (map (slice s) (reverse ls))) (take_all i (links s p) (omega (arith, links-long area cards g p h)))

  -- One link more.
  pub sliced-turn : (i : ℕ) (l : Link) → i < link_count (get_or cards p []) → l ≡ link_at (get_or cards p []) i
      → sliced (i + 1) ≡ (within (max low l.low) (min high l.high) (table_at area l.place) ∷ []) ++ sliced i
  sliced-turn i l few e =
      let s = shown_by area cards in
      let d : Link = no_link in
      let this : get_or (links s p) i d ≡ l = link-shown area cards g p h i d few ∙ sym e in
      let own : within low high (slice s (get_or (links s p) i d)) ≡ within (max low l.low) (min high l.high) (table_at area l.place) =
      ap (λ (x : Link). within low high (slice s x)) this ∙ ap (within low high) (slice-shown area cards g l)
      ∙ within-within low high l.low l.high (table_at area l.place) in
      ap (map (within low high)) (newest (slice s) (links s p) i d (omega (arith, links-long area cards g p h)))
      ∙ ap (λ (x : List Entry). x ∷ sliced i) own

-- The links over the table are all sources.
pub sources-ranges : (area : List ℕ) (cards : List (List ℕ)) (g : Legible area cards) (p low high : ℕ)
    → ranges low high (map (slice (shown_by area cards)) (reverse (links (shown_by area cards) p))) ++ (within low high (table_at area p) ∷ [])
    ≡ ranges low high (sources (shown_by area cards) p)
unfolding sources
sources-ranges area cards g p low high =
    let s = shown_by area cards in
    rw (sym (table-shown area cards g p)) (sym (map-append (within low high) (map (slice s) (reverse (links s p))) (table s p ∷ [])))

-- ---- from nothing on

-- What is gathered from nothing on: the first entries of the range, as many as there is room for.
pub taken-gathers : (area behind : List ℕ) (sources : List (List Entry)) (low high from to : ℕ) (keys spots keys' spots' : List ℕ) (r : ℕ)
    → AllKeys from to sources
    → TakenAll area (ranges low high sources) keys spots 0 keys' spots' r
    → Gathers (area ++ behind) keys' spots' r (take (length keys) (within low high (gather sources)))
taken-gathers area behind sources low high from to keys spots keys' spots' r h t =
    let begun : Gathers (area ++ behind) keys spots 0 [] = record { keyed = refl; shown = refl; seated = tt; inside = omega arith } in
    rw (sym (on_none (length keys) (ranges low high sources) ∙ gathered-range (length keys) low high from to sources h))
    (t.gathers behind [] begun)

-- ---- tables, the newest last

module _ (area items : List ℕ) (low high : ℕ) where
  abbrev pub tabled : (i : ℕ) → List (List Entry)
  tabled i = ranges low high (map (table_at area) (reverse (take i items)))

  pub tabled-all : (i : ℕ) → length items ≤ i → tabled i ≡ ranges low high (map (table_at area) (reverse items))
  tabled-all i h = ap (λ (ps : List ℕ). ranges low high (map (table_at area) (reverse ps))) (take_all i items h)

  pub tabled-turn : (i : ℕ) → i < length items → tabled (i + 1) ≡ (within low high (table_at area (get_or items i 0)) ∷ []) ++ tabled i
  tabled-turn i h = ap (map (within low high)) (newest (table_at area) items i 0 h)
