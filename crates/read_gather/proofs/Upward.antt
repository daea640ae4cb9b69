-- The tables of a level below taken in upward from one whose span reaches the low key, or from one before it. Spans rise: what is read of a
-- table has keys in its span, so the tables before give nothing to the range, and once the range ends in a span, nor do those behind.
use Prim.Native.Nat.{ℕ, zero, suc, ◌+◌, ◌≤◌, ◌<◌, ◌^◌}
use mathlib.Core.Path.{◌≡◌, refl, sym, ◌∙◌, ap}
use mathlib.Core.List.{List, [], ◌∷◌, ◌++◌, map, reverse, map-append, Memᴰ}
use native.Mathlib.Omega.{arith}
use native.Mathlib.Numerals.{add-one}
use borrow.Author.Tests.{ltb-true}
use lib.Dec.{ltb}
use lib.ListN.{length, get_or, drop, length-drop, drop_of_length-le}
use lib.Seq.{drop-cons, get_or-drop}
use Rattle.coding.specs.Number.{Bytes}
use Rattle.table.specs.Entry.{Entry}
use Rattle.table.specs.Search.{least_key, greatest_key}
use Rattle.table.specs.Valid.{Keys}
use Rattle.ldc.specs.Store.{Link, Store, links, table, slice, sources, within, span_start, span_end}
use Rattle.ldc.specs.Facts.{Spans}
use Rattle.ldc.proofs.Basics.Cases.{cases}
use Rattle.ldc.proofs.Basics.ListLaws.{get_or-mem}
use Rattle.ldc.proofs.Basics.Replaced.{member-reverse}
use Rattle.ldc.proofs.Entries.Keys.{AllKeys, keys-lower, keys-higher, all-keys-append}
use Rattle.ldc.proofs.Stores.Spans.{span-order, spans-lower, keys-tight, least_end-own, greatest_end-own, least_end-link, greatest_end-link}
use Rattle.ldc.specs.Layout.{link_count, link_at}
use Rattle.book.specs.Rows.{shown_by}
use Rattle.book.proofs.Rows.{no_link}
use Rattle.read.specs.Shown.{Tabled, Legible, Rising}
use Rattle.read.specs.Level.{rank}
use Rattle.read.proofs.Rank.{spans}
use Rattle.read.proofs.Shows.{readable, carded, links-long, link-shown}
use Rattle.read_gather.specs.Beside.{InUse}
use Rattle.read_gather.specs.Sources.{gather_on, ranges, TakenAll}
use Rattle.read_gather.specs.Order.{up_to, sources_of}
use Rattle.read_gather.proofs.Intake.{keys-ranges}
use Rattle.read_gather.proofs.Narrow.{narrowed, narrow-taken}
use Rattle.read_gather.proofs.Scans.{widen}
use Rattle.read_gather.proofs.Steps.{on-append}
use Rattle.read_gather.proofs.Within.{below-range, above-range, keys_between}
use Rattle.read_gather.proofs.Going.{Going, going, goes_on, gone}

-- ---- sources beside the range

module _ (n low high from to : ℕ) where
  on_below : (xss : List (List Entry)) (es : List Entry) → AllKeys from to xss → to ≤ low → gather_on n (ranges low high xss) es ≡ es
  on_below [] es h l = refl
  on_below (xs ∷ xss) es h l = rw (below-range low high from to xs h.0 l) (on_below xss es h.1 l)

  on-above : (xss : List (List Entry)) (es : List Entry) → AllKeys from to xss → high < from → gather_on n (ranges low high xss) es ≡ es
  on-above [] es h l = refl
  on-above (xs ∷ xss) es h l = rw (above-range low high from to xs h.0 l) (on-above xss es h.1 l)

-- ---- the keys of a span

module _ (area : List ℕ) (cards : List (List ℕ)) (b : Bytes area) (g : Legible area cards) where
  abbrev S : Store
  S = shown_by area cards

  module _ (p : ℕ) (t : Tabled area p) where
    linked-keys : (l : Link) → Memᴰ l (links S p) → Keys 0 (2 ^ 64) (table S l.place)
    linked-keys l m =
        let h = carded area cards g p t in
        let at = get_or-mem (links S p) no_link m in
        let few : at.0 < link_count (get_or cards p []) = rw (sym (links-long area cards g p h)) at.1 in
        let same : link_at (get_or cards p []) at.0 ≡ l = sym (link-shown area cards g p h at.0 no_link few) ∙ at.2 in
        (readable area cards g l.place b (rw same at (g.linked p at.0 h few))).keys

    slices-spanned : (ls : List Link) → ((l : Link) → Memᴰ l ls → Memᴰ l (links S p))
        → AllKeys (span_start S p) (suc (span_end S p)) (map (slice S) ls)
    unfolding slice span_start span_end
    slices-spanned [] h = omega (arith, span-order S p (readable area cards g p b t))
    slices-spanned (l ∷ ls) h =
        let m = h l (Memᴰ.head refl) in (
          keys_between (span_start S p) (suc (span_end S p)) 0 (2 ^ 64) l.low l.high (table S l.place) (linked-keys l m)
              (omega (arith, span-order S p (readable area cards g p b t))) (least_end-link (least_key (table S p)) (links S p) l m)
              (omega (arith, greatest_end-link (greatest_key (table S p)) (links S p) l m)),
          slices-spanned ls (λ x y. h x (Memᴰ.tail y)),
        )

    sources-spanned : AllKeys (span_start S p) (suc (span_end S p)) (sources S p)
    unfolding sources span_start span_end
    sources-spanned =
        let r = readable area cards g p b t in
        let own = keys-tight 0 (2 ^ 64) (table S p) r.some r.keys in
        all-keys-append (span_start S p) (suc (span_end S p)) (map (slice S) (reverse (links S p))) (table S p ∷ [])
        (slices-spanned (reverse (links S p)) (λ l m. member-reverse l (links S p) m)) (
          keys-lower (least_key (table S p)) (span_start S p) (suc (span_end S p)) (table S p) (least_end-own (least_key (table S p)) (links S p))
              (keys-higher (least_key (table S p)) (suc (greatest_key (table S p))) (suc (span_end S p)) (table S p)
              (omega (arith, greatest_end-own (greatest_key (table S p)) (links S p))) own),
          omega (arith, span-order S p r),
        )

  -- Tables, one after the other, and a bound above their spans.
  abbrev All : List ℕ → Type 0
  All ps = (q : ℕ) → Memᴰ q ps → Tabled area q

  abbrev top_of : (low : ℕ) → List ℕ → ℕ
  top_of low [] = low
  top_of low (p ∷ ps) = top_of (suc (span_end S p)) ps

  top-order : (low : ℕ) (ps : List ℕ) → Spans S low ps → low ≤ top_of low ps
  top-order low [] h = omega arith
  top-order low (p ∷ ps) h = let r = top-order (suc (span_end S p)) ps h.2 in omega (arith, h.0, h.1)

  tables-spanned : (low : ℕ) (ps : List ℕ) → All ps → Spans S low ps → AllKeys low (top_of low ps) (sources_of S ps)
  tables-spanned low [] r h = omega arith
  tables-spanned low (p ∷ ps) r h =
      let o = top-order (suc (span_end S p)) ps h.2 in
      all-keys-append low (top_of (suc (span_end S p)) ps) (sources S p) (sources_of S ps)
      (widen (span_start S p) low (suc (span_end S p)) (top_of (suc (span_end S p)) ps) (sources S p) h.0 o
      (sources-spanned p (r p (Memᴰ.head refl))))
      (widen (suc (span_end S p)) low (top_of (suc (span_end S p)) ps) (top_of (suc (span_end S p)) ps) (sources_of S ps) (omega (arith, h.0, h.1))
      (omega arith)
      (tables-spanned (suc (span_end S p)) ps (λ q m. r q (Memᴰ.tail m)) h.2))

  -- ---- from one on

  -- As many tables in front as the low key has passed, or fewer, give nothing to the range.
  passed : (n low high : ℕ) (ps : List ℕ) (i : ℕ) (es : List Entry) → All ps → i ≤ rank S low ps
      → gather_on n (ranges low high (sources_of S ps)) es ≡ gather_on n (ranges low high (sources_of S (drop i ps))) es
  unfolding rank
  passed n low high ps zero es r = λ h. refl
  passed n low high [] (suc i) es r = λ h. refl
  passed n low high (p ∷ ps) (suc i) es r =
      cases (ltb (span_end S p) low)
      (λ q. rw q (λ h. let e = ltb-true (span_end S p) low q in
      ap (λ (xss : List (List Entry)). gather_on n xss es) (map-append (within low high) (sources S p) (sources_of S ps))
      ∙ on-append n (ranges low high (sources S p)) (ranges low high (sources_of S ps)) es
      ∙ on_below n low high (span_start S p) (suc (span_end S p)) (sources S p) (gather_on n (ranges low high (sources_of S ps)) es)
      (sources-spanned p (r p (Memᴰ.head refl))) e
      ∙ passed n low high ps i es (λ x m. r x (Memᴰ.tail m)) (omega arith)))
      (λ q. rw q (λ h. absurd (omega arith)))

  -- ---- one turn of a level

  spans-drop : (low : ℕ) (ps : List ℕ) (i : ℕ) → Spans S low ps → Spans S 0 (drop i ps)
  spans-drop low ps zero h = spans-lower S low 0 ps (omega arith) h
  spans-drop low [] (suc i) h = tt
  spans-drop low (p ∷ ps) (suc i) h = spans-drop (suc (span_end S p)) ps i h.2

  module _ (items : List ℕ) (r : Rising area cards items) (low high : ℕ) where
    abbrev pub left : (i : ℕ) → List (List Entry)
    left i = ranges low high (sources_of S (drop i items))

    listed : (i : ℕ) → All (drop i items)
    listed i q m =
        let at = get_or-mem (drop i items) 0 m in
        rw (sym (get_or-drop i items at.0 0) ∙ at.2) at (r.listed (i + at.0) (omega (arith, at.1, length-drop i items)))

    rest-spans : (i : ℕ) → i < length items → Spans S (suc (span_end S (get_or items i 0))) (drop (suc i) items)
    rest-spans i h = (rw (drop-cons items i 0 h) at (spans-drop 0 items i (spans area cards items b g r))).2

    split : (i : ℕ) → i < length items → left i ≡ ranges low high (sources S (get_or items i 0)) ++ left (i + 1)
    split i h =
        rw (drop-cons items i 0 h, add-one i)
        (map-append (within low high) (sources S (get_or items i 0)) (sources_of S (drop (suc i) items)))

    module _ (keys₀ spots₀ : List ℕ) (n : ℕ) where
      pub level-begins : (i : ℕ) → InUse keys₀ spots₀ n → i ≤ rank S low items
          → Going area (ranges low high (sources_of S items)) keys₀ spots₀ n keys₀ spots₀ n (left i)
      level-begins i u h =
          going area (ranges low high (sources_of S items)) keys₀ spots₀ n (left i) u
          (λ es. passed (length keys₀) low high items i es (listed 0) h)

      module _ (keys spots : List ℕ) (used i : ℕ) where
        pub level-turns : i < length items → 0 < length keys → (keys' spots' : List ℕ) (used' : ℕ)
            → Going area (ranges low high (sources_of S items)) keys₀ spots₀ n keys spots used (left i)
            → TakenAll area (ranges low (up_to keys used high) (sources S (get_or items i 0))) keys spots used keys' spots' used'
            → length keys' ≡ length keys → length spots' ≡ length spots
            → Going area (ranges low high (sources_of S items)) keys₀ spots₀ n keys' spots' used' (left (i + 1))
        level-turns h some keys' spots' used' w t kl sl =
            let p : ℕ = get_or items i 0 in
            let e : ℕ = suc (span_end S p) in
            let rs = rest-spans i h in
            goes_on area (ranges low high (sources_of S items)) keys₀ spots₀ n keys spots used (ranges low high (sources S p)) (left (i + 1)) e
            (top_of e (drop (suc i) items)) keys' spots' used'
            (rw (sym (split i h)) w)
            (keys-ranges low high 0 e (sources S p) (widen (span_start S p) 0 e e (sources S p) (omega arith) (omega arith)
            (sources-spanned p (r.listed i h))))
            (rw (add-one i) (keys-ranges low high e (top_of e (drop (suc i) items)) (sources_of S (drop (suc i) items))
            (tables-spanned e (drop (suc i) items) (listed (suc i)) rs)))
            (narrow-taken low high (sources S p) keys used w.up some area spots keys' spots' used' t) kl sl

        -- The range ends in the span of the table before.
        pub level-stops : i < length items → 0 < length keys → up_to keys used high ≤ span_end S (get_or items i 0)
            → Going area (ranges low high (sources_of S items)) keys₀ spots₀ n keys spots used (left (i + 1))
            → TakenAll area (ranges low high (sources_of S items)) keys₀ spots₀ n keys spots used
        level-stops h some e w =
            let top : ℕ = up_to keys used high in
            let from : ℕ = suc (span_end S (get_or items i 0)) in
            gone area (ranges low high (sources_of S items)) keys₀ spots₀ n keys spots used (left (i + 1)) w
            (λ bytes es q. narrowed low high (sources_of S (drop (i + 1) items)) keys used w.up some bytes spots es q
            ∙ rw (add-one i) (on-above (length keys) low top from (top_of from (drop (suc i) items)) (sources_of S (drop (suc i) items)) es
            (tables-spanned from (drop (suc i) items) (listed (suc i)) (rest-spans i h)) (omega arith)))

        -- No table more.
        pub level-ends : length items ≤ i → Going area (ranges low high (sources_of S items)) keys₀ spots₀ n keys spots used (left i)
            → TakenAll area (ranges low high (sources_of S items)) keys₀ spots₀ n keys spots used
        level-ends h w =
            let e : drop i items ≡ [] = drop_of_length-le items {i = i} h in
            gone area (ranges low high (sources_of S items)) keys₀ spots₀ n keys spots used (left i) w (λ bytes es q. rw e)
