-- Where the links to a frozen place hang in a sound store: on tables of one level, whose spans meet its keys. So a level's list can be searched for them.
use Prim.Native.Nat.{ℕ, zero, suc, ◌*◌, ◌≤◌, ◌<◌, ◌^◌}
use mathlib.Core.Path.{◌≡◌, refl, sym, ◌∙◌, ap}
use mathlib.Core.Bool.{Bool, true, false, ◌&&◌}
use mathlib.Core.List.Memᴰ
use mathlib.Core.List.{List, [], ◌∷◌, ◌++◌, map, Memᴰ}
use mathlib.Core.Logic.{⊎_elim}
use native.Mathlib.Omega.{arith}
use borrow.Author.Tests.{eqb-true, leb-true, ltb-true, ltb-false, eq-eqb, ne_eqb}
use lib.Dec.{eqb, ltb, leb}
use lib.ListN.{length, get_or}
use Rattle.coding.specs.Number.{Bytes}
use Rattle.table.specs.Limits.{place_size}
use Rattle.table.specs.Entry.{Entry}
use Rattle.table.specs.Table.{entries, place_of}
use Rattle.table.specs.Search.{least_key, greatest_key}
use Rattle.table.specs.Valid.{Keys}
use Rattle.ldc.specs.Lists.{all, how_many, flat, keep, is_empty}
use Rattle.ldc.specs.Store.{Link, Store, card, links, links_of, is_live, bytes_at, table, level, slice, within, span_start, span_end}
use Rattle.ldc.specs.Lent.{Lent, store_of}
use Rattle.ldc.specs.Rules.{Hung, hung_on, apart, all_apart}
use Rattle.ldc.proofs.Basics.Cases.{cases, clash, both_left, both_right}
use Rattle.ldc.proofs.Basics.Counts.{one, total, counted-member}
use Rattle.ldc.proofs.Basics.ListLaws.{all-at, mem-get_or}
use Rattle.ldc.proofs.Entries.Keys.{keys-order}
use Rattle.ldc.proofs.Stores.CardFacts.{no-links, frozen-not-free}
use Rattle.ldc.proofs.Stores.Facts.{listed-total, link-frozen, link-holds, table-readable}
use Rattle.ldc.proofs.Lent.Shows.{sizes}
use Rattle.ldc.proofs.Stores.Naming.{any-elim}
use Rattle.ldc.proofs.Stores.Sound.{Sound}
use Rattle.ldc.proofs.Stores.Spans.{keys-tight, least_end-link, greatest_end-link}
use Rattle.ldc.proofs.Stores.Written.{map-member}
use Rattle.ldc.proofs.Steps.Apart.{all-append-right, apart-without}
use Rattle.ldc.specs.Layout.{level_count, link_count, card_of, link_at, length_in, items_in}
use Rattle.book.proofs.Rows.{link-of, count-of, no_link}
use Rattle.book.specs.Rows.{shown_by}
use Rattle.read.specs.Shown.{Rising, Kept}
use Rattle.read.specs.Look.{Levels}
use Rattle.read.proofs.Pieces.{bytes-shown, links-shown, row-good, row-eight, level-items}
use Rattle.read.proofs.Levels.{sound-kept, levels-kept}
use Rattle.compact_install.specs.Release.{row_names, Sought, SoughtAll}

-- ---- lists

flat-member : (x : Hung) (f : ℕ → List Hung) (ps : List ℕ) (q : ℕ) → Memᴰ q ps → Memᴰ x (f q) → Memᴰ x (flat (map f ps))
flat-member x f [] q m h = absurd (elim m [ ])
flat-member x f (p ∷ ps) q m h =
    ⊎_elim
    (λ e. Memᴰ.append_left {a = x} {s = f p} (flat (map f ps)) (rw e at h))
    (λ t. Memᴰ.append_right {a = x} (f p) {t = flat (map f ps)} (flat-member x f ps q t h))
    (Memᴰ.cases_cons m)

total-some : (q : ℕ) (xss : List (List ℕ)) → 1 ≤ total (how_many (eqb q)) xss → (m : ℕ) × ((m < length xss) × Memᴰ q (get_or xss m []))
total-some q [] h = absurd (omega arith)
total-some q (xs ∷ xss) h =
    cases (ltb 0 (how_many (eqb q) xs))
    (λ t. (0, (omega arith, counted-member q xs (ltb-true 0 (how_many (eqb q) xs) t))))
    (λ t. let r = total-some q xss (omega (arith, ltb-false 0 (how_many (eqb q) xs) t)) in
    (suc r.0, (omega (arith, r.1.0), r.1.1)))

kept-some : (t : Entry → Bool) (es : List Entry) → is_empty (keep t es) ≡ false → (e : Entry) × (Memᴰ e es × (t e ≡ true))
kept-some t [] h = clash refl h
kept-some t (e ∷ es) h =
    cases (t e)
    (λ q. (e, (Memᴰ.head refl, q)))
    (λ q. let r = kept-some t es (rw q at h) in (r.0, (Memᴰ.tail r.1.0, r.1.1)))

keys-member : (low high : ℕ) (es : List Entry) (e : Entry) → Keys low high es → Memᴰ e es → (low ≤ e.key) × (e.key < high)
keys-member low high [] e h m = absurd (elim m [ ])
keys-member low high (x ∷ es) e h m =
    ⊎_elim
    (λ q. rw q (h.0, keys-order (suc x.key) high es h.1))
    (λ t. let r = keys-member (suc x.key) high es e h.1 t in (omega (arith, h.0, r.0), r.1))
    (Memᴰ.cases_cons m)

-- ---- one level

apart-two : (xs ys : List Hung) (g h : Hung) → all_apart (xs ++ ys) ≡ true → Memᴰ g xs → Memᴰ h ys → apart g h ≡ true
apart-two [] ys g h a m n = absurd (elim m [ ])
apart-two (x ∷ xs) ys g h a m n =
    ⊎_elim
    (λ e. rw e (all-at (apart x) ys (all-append-right (apart x) xs ys (both_left (all (apart x) (xs ++ ys)) (all_apart (xs ++ ys)) a)) n))
    (λ t. apart-two xs ys g h (both_right (all (apart x) (xs ++ ys)) (all_apart (xs ++ ys)) a) t n)
    (Memᴰ.cases_cons m)

not-apart : (g h : Hung) → g.link.place ≡ h.link.place → (g.on ≡ h.on → ⊥) → apart g h ≡ false
unfolding apart
not-apart g h e d = rw (eq-eqb g.link.place h.link.place e, ne_eqb g.on h.on d)

module _ (s : Store) (S : Sound s) where
  hung-member : (n q : ℕ) (l : Link) → Memᴰ q (level s n) → Memᴰ l (links s q) → Memᴰ (record { on = n; link = l }) (hung_on s n)
  unfolding hung_on
  hung-member n q l m k =
      flat-member (record { on = n; link = l }) (λ p. map (λ (x : Link). record { on = n; link = x }) (links s p)) (level s n) q m
      (map-member (λ (x : Link). record { on = n; link = x }) l (links s q) k)

  apart-levels : (i j : ℕ) → i < j → j < 3 → (g h : Hung) → Memᴰ g (hung_on s (suc i)) → Memᴰ h (hung_on s (suc j)) → apart g h ≡ true
  apart-levels zero zero l b g h m k = absurd (omega arith)
  apart-levels zero (suc zero) l b g h m k =
      apart-two (hung_on s 1) (hung_on s 2 ++ hung_on s 3) g h S.disjoint m (Memᴰ.append_left {a = h} {s = hung_on s 2} (hung_on s 3) k)
  apart-levels zero (suc (suc zero)) l b g h m k =
      apart-two (hung_on s 1) (hung_on s 2 ++ hung_on s 3) g h S.disjoint m (Memᴰ.append_right {a = h} (hung_on s 2) {t = hung_on s 3} k)
  apart-levels zero (suc (suc (suc j))) l b g h m k = absurd (omega arith)
  apart-levels (suc zero) zero l b g h m k = absurd (omega arith)
  apart-levels (suc zero) (suc zero) l b g h m k = absurd (omega arith)
  apart-levels (suc zero) (suc (suc zero)) l b g h m k =
      apart-two (hung_on s 2) (hung_on s 3) g h (apart-without [] (hung_on s 1) (hung_on s 2 ++ hung_on s 3) S.disjoint) m k
  apart-levels (suc zero) (suc (suc (suc j))) l b g h m k = absurd (omega arith)
  apart-levels (suc (suc i)) j l b g h m k = absurd (omega arith)

  -- Links that name one place hang on one level.
  module _ (p q : ℕ) (l k : Link) (lp : Memᴰ l (links s p)) (kq : Memᴰ k (links s q)) (same : l.place ≡ k.place) where
    same-level : (n m : ℕ) → n < 3 → m < 3 → Memᴰ p (level s (suc n)) → Memᴰ q (level s (suc m)) → m ≡ n
    same-level n m hn hm a b =
        let g : Hung = record { on = suc n; link = l } in
        let h : Hung = record { on = suc m; link = k } in
        let mg = hung-member (suc n) p l a lp in
        let mh = hung-member (suc m) q k b kq in
        cases (ltb n m)
        (λ t. let lt : n < m = ltb-true n m t in
        clash (apart-levels n m lt hm g h mg mh) (not-apart g h same (λ e. omega (arith, lt, e))))
        (λ t. cases (ltb m n)
        (λ u. let lt : m < n = ltb-true m n u in
        clash (apart-levels m n lt hn h g mh mg) (not-apart h g (sym same) (λ e. omega (arith, lt, e))))
        (λ u. omega (arith, ltb-false n m t, ltb-false m n u)))

    linked-live : is_live (card s q) ≡ true
    unfolding links
    linked-live = cases (is_live (card s q)) (λ t. t) (λ t. absurd (Memᴰ.not-nil (rw (no-links (card s q) t) at kq)))

    somewhere : (m : ℕ) × ((m < level_count) × Memᴰ q (level s m))
    unfolding level
    somewhere =
        let o : one (is_live (card s q)) ≡ 1 = rw linked-live in
        let r = total-some q s.levels (omega (arith, listed-total s S q)) in
        (r.0, (omega (arith, r.1.0, S.four), r.1.1))

    on-level : (m : ℕ) → m < level_count → Memᴰ q (level s m) → (n : ℕ) → n < 3 → Memᴰ p (level s (suc n)) → Memᴰ q (level s (suc n))
    on-level zero hm b n hn a = absurd (Memᴰ.not-nil (rw (S.bare q b) at kq))
    on-level (suc m) hm b n hn a = let e = same-level n m hn (omega arith) a b in rw e at b

    pub linked-level : (n : ℕ) → 1 ≤ n → n ≤ 3 → Memᴰ p (level s n) → Memᴰ q (level s n)
    linked-level zero lo hi a = absurd (omega arith)
    linked-level (suc n) lo hi a = on-level somewhere.0 somewhere.1.0 somewhere.1.1 n (omega arith) a

  -- ---- spans

  module _ (q : ℕ) (l : Link) (m : Memᴰ l (links s q)) where
    -- a link's range holds an entry
    link-entry : (e : Entry) × (Memᴰ e (table s l.place) × ((l.low ≤ e.key) × (e.key ≤ l.high)))
    unfolding slice within
    link-entry =
        let r = kept-some (λ e. leb l.low e.key && leb e.key l.high) (table s l.place) (link-holds s S q l m) in
        let e : Entry = r.0 in (
          e,
          (
            r.1.0,
            (
              leb-true l.low e.key (both_left (leb l.low e.key) (leb e.key l.high) r.1.1),
              leb-true e.key l.high (both_right (leb l.low e.key) (leb e.key l.high) r.1.1),
            ),
          ),
        )

    pub link-meets : (least_key (table s l.place) ≤ span_end s q) × (span_start s q ≤ greatest_key (table s l.place))
    unfolding span_start span_end
    link-meets =
        let t = table s l.place in
        let r = table-readable s S l.place (frozen-not-free (card s l.place) (link-frozen s S q l m)) in
        let e = link-entry in
        let b = keys-member (least_key t) (suc (greatest_key t)) t e.0 (keys-tight 0 (2 ^ 64) t r.some r.keys) e.1.0 in (
          omega (arith, b.0, e.1.1.1, greatest_end-link (greatest_key (table s q)) (links s q) l m),
          omega (arith, b.1, e.1.1.0, least_end-link (least_key (table s q)) (links s q) l m),
        )

-- ---- in lent pieces

-- A level's list in its part of the lists, in which all tables can be found whose links name a place that p's links name.
pub record Searchable (area : List ℕ) (cards : List (List ℕ)) (lists head : List ℕ) (n p : ℕ) : Type 0 where
  pub sought : SoughtAll area cards (items_in (length cards) lists head n) p
  pub sized : length lists ≡ level_count * length cards
  pub fits : length_in head n ≤ length cards

module _ (m : Lent) (k : Kept m) (long : length m.memory ≡ place_size) (valued : Bytes m.memory) (bytes : Bytes m.area)
    (n p : ℕ) (lowest : 1 ≤ n) (highest : n ≤ 3) (on : Memᴰ p (level (store_of m) n)) (below : p < length m.cards) where
  abbrev items : List ℕ
  items = items_in (length m.cards) m.lists m.head n

  L : Levels m.area m.cards m.lists m.head
  L = levels-kept m k long valued bytes

  S : Sound (store_of m)
  S = sound-kept m k long valued bytes

  level-same : level (store_of m) n ≡ items
  level-same = level-items m k n (omega arith)

  same_end : (q : ℕ) → span_end (shown_by m.area m.cards) q ≡ span_end (store_of m) q
  unfolding span_end table links card bytes_at store_of
  same_end q = refl

  same_start : (q : ℕ) → span_start (shown_by m.area m.cards) q ≡ span_start (store_of m) q
  unfolding span_start table links card bytes_at store_of
  same_start q = refl

  same-table : (f : ℕ) → table (store_of m) f ≡ entries (place_of m.area f)
  unfolding table
  same-table f = ap entries (bytes-shown m (sizes m k.sizes).area f)

  -- A row that names a place has a link that does.
  named-link : (f q : ℕ) → row_names f (get_or m.cards q []) ≡ true → (l : Link) × (Memᴰ l (links (store_of m) q) × (l.place ≡ f))
  unfolding row_names
  named-link f q h =
      let r = any-elim (λ (l : Link). eqb l.place f) (links_of (card_of (get_or m.cards q []))) h in
      (r.0, (rw (links-shown m q) r.1.0, eqb-true r.0.place f r.1.1))

  -- The i-th link of the place itself.
  own-link : (i : ℕ) → i < link_count (get_or m.cards p [])
      → (l : Link) × (Memᴰ l (links (store_of m) p) × (l.place ≡ (link_at (get_or m.cards p []) i).place))
  own-link i h =
      let d : Link = no_link in
      let row = get_or m.cards p [] in
      let many = count-of row (row-good m k p below) (row-eight m k p below) in
      let here : get_or (links (store_of m) p) i d ≡ link_at row i = rw (links-shown m p) (link-of row i d (omega arith)) in
      (get_or (links (store_of m) p) i d, (mem-get_or (links (store_of m) p) i d (rw (links-shown m p) (omega arith)), ap (λ (l : Link). l.place) here))

  rising-from : (j : ℕ) → 1 ≤ j → j ≤ 3 → Rising m.area m.cards (items_in (length m.cards) m.lists m.head j)
  rising-from zero lo hi = absurd (omega arith)
  rising-from (suc j) lo hi = L.rising j (omega arith)

  sought-at : (i : ℕ) → i < link_count (get_or m.cards p [])
      → Sought m.area m.cards (items_in (length m.cards) m.lists m.head n) (link_at (get_or m.cards p []) i).place
  sought-at i h =
      let f : ℕ = (link_at (get_or m.cards p []) i).place in
      let o = own-link i h in
      record {
        legible = L.legible;
        rising = rising-from n lowest highest;
        tabled = L.legible.linked p i below h;
        among = λ q x.
            let r = named-link f q x in
            rw level-same at (linked-level (store_of m) S p q o.0 r.0 o.1.0 r.1.0 (o.1.1 ∙ sym r.1.1) n lowest highest on);
        reaches = λ q x.
            let r = named-link f q x in
            let b = (link-meets (store_of m) S q r.0 r.1.0).0 in
            rw (same_end q, ← same-table f, ← r.1.1) b;
        starts = λ q x.
            let r = named-link f q x in
            let b = (link-meets (store_of m) S q r.0 r.1.0).1 in
            rw (same_start q, ← same-table f, ← r.1.1) b;
      }

  pub searchable : Searchable m.area m.cards m.lists m.head n p
  searchable = record {
    sought = record { below = below; legible = L.legible; each = sought-at };
    sized = L.sized;
    fits = L.lengths n (omega arith);
  }
