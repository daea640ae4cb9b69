-- The slices to hang, one at a time: the next entry's key decides which table is responsible, the tables passed by have no entry in their
-- ranges, and where no entry is left there is nothing more to hang. By induction on the tables, whose spans rise.
use Prim.Native.Nat.{ℕ, zero, suc, ◌-◌, ◌≤◌, ◌<◌, ◌^◌}
use mathlib.Core.Path.{◌≡◌, refl, sym, ◌∙◌, ap}
use mathlib.Core.Bool.{true, false, ◌&&◌}
use mathlib.Core.List.Memᴰ
use mathlib.Core.List.{List, [], ◌∷◌, Memᴰ}
use mathlib.Core.Logic.{⊎_elim}
use mathlib.Core.Option.{Option, some, none}
use native.Mathlib.Omega.{arith}
use borrow.Author.Tests.{leb-true, leb-false, le-leb, ltb-true, ltb-false, eqb-true, eqb-false, eq-eqb, ne_eqb, lt-ltb, le-ltb}
use lib.Dec.{leb, ltb, eqb}
use lib.ListN.{length, get_or, drop}
use Rattle.table.specs.Entry.{Entry}
use Rattle.table.specs.Search.{first_from, least_key}
use Rattle.table.specs.Valid.{Keys}
use Rattle.ldc.specs.Lists.{is_empty}
use Rattle.ldc.specs.Store.{Store, table, links, within, span_start, span_end}
use Rattle.ldc.specs.Tidy.{greatest}
use Rattle.ldc.proofs.Basics.Cases.{cases, clash, both, both_left, both_right}
use Rattle.ldc.proofs.Entries.Keys.{head-below}
use Rattle.ldc.proofs.Stores.Spans.{Readable, least_end-own, least-greatest, greatest-high}
use Rattle.ldc.specs.Facts.{Spans}
use Rattle.read.specs.Level.{rank}
use Rattle.compact_link.specs.Range.{keeper, low_of, high_of, slice_at, slices_from}

-- ---- the next entry from a point on

-- The least key from a point on, by the entries.
pub record Next (from k : ℕ) (es : List Entry) : Type 0 where
  pub above : from ≤ k
  pub holds : (e : Entry) × (Memᴰ e es × (e.key ≡ k))
  pub least : (e : Entry) → Memᴰ e es → from ≤ e.key → k ≤ e.key

-- No key from a point on.
abbrev pub Spent : (from : ℕ) → List Entry → Type 0
Spent from es = (e : Entry) → Memᴰ e es → e.key < from

some-clash : {P : Type 0} (e : Entry) (o : Option Entry) → o ≡ some e → o ≡ none → P
some-clash e o p q = absurd (let z : ◌≡◌ {A = ℕ} 0 1 = cc in omega arith)

pub spent-of : (k : ℕ) (es : List Entry) → first_from k es ≡ none → Spent k es
unfolding first_from
spent-of k [] h e m = absurd (elim m [ ])
spent-of k (x ∷ xs) h e m =
    cases (leb k x.key)
    (λ q. some-clash x (some x) refl (rw q at h))
    (λ q. ⊎_elim
    (λ r. let same : e.key ≡ x.key = ap (λ (y : Entry). y.key) r in omega (arith, leb-false k x.key q))
    (λ t. spent-of k xs (rw q at h) e t)
    (Memᴰ.cases_cons m))

-- Rising entries have keys from `low` on and below `high`.
pub keys-member : (low high : ℕ) (es : List Entry) (e : Entry) → Keys low high es → Memᴰ e es → (low ≤ e.key) × (e.key < high)
keys-member low high [] e h m = absurd (elim m [ ])
keys-member low high (x ∷ xs) e h m =
    ⊎_elim
    (λ r. let same : e.key ≡ x.key = ap (λ (y : Entry). y.key) r in (omega (arith, h.0), omega (arith, head-below low high x xs h)))
    (λ t. let r = keys-member (suc x.key) high xs e h.1 t in (omega (arith, h.0, r.0), r.1))
    (Memᴰ.cases_cons m)

-- The first of rising entries from a point on has the least key.
pub next_of : (from low high : ℕ) (es : List Entry) (e : Entry) → Keys low high es → first_from from es ≡ some e → Next from e.key es
unfolding first_from
next_of from low high [] e h f = some-clash e none f refl
next_of from low high (x ∷ xs) e h f =
    cases (leb from x.key)
    (λ q. let z : ◌≡◌ {A = Option Entry} (some x) (some e) = rw q at f in
    let same : x ≡ e = cc in
    let key : x.key ≡ e.key = ap (λ (y : Entry). y.key) same in
    record {
      above = omega (arith, leb-true from x.key q);
      holds = (x, (Memᴰ.head refl, key));
      least = λ y m l.
          ⊎_elim
          (λ r. let here : y.key ≡ x.key = ap (λ (w : Entry). w.key) r in omega arith)
          (λ t. omega (arith, (keys-member (suc x.key) high xs y h.1 t).0))
          (Memᴰ.cases_cons m);
    })
    (λ q. let r = next_of from (suc x.key) high xs e h.1 (rw q at f) in
    record {
      above = r.above;
      holds = (r.holds.0, (Memᴰ.tail r.holds.1.0, r.holds.1.1));
      least = λ y m l.
          ⊎_elim
          (λ w. let here : y.key ≡ x.key = ap (λ (v : Entry). v.key) w in omega (arith, leb-false from x.key q))
          (λ t. r.least y t l)
          (Memᴰ.cases_cons m);
    })

next-later : (from from' k : ℕ) (es : List Entry) → from ≤ from' → from' ≤ k → Next from k es → Next from' k es
next-later from from' k es a b n = record { above = b; holds = n.holds; least = λ e m l. n.least e m (omega arith) }

-- ---- ranges

within-some : (low high : ℕ) (es : List Entry) (e : Entry) → Memᴰ e es → low ≤ e.key → e.key ≤ high → is_empty (within low high es) ≡ false
unfolding within
within-some low high [] e m a b = absurd (elim m [ ])
within-some low high (x ∷ xs) e m a b =
    cases (leb low x.key && leb x.key high)
    (λ q. rw q)
    (λ q. ⊎_elim
    (λ r. let here : e.key ≡ x.key = ap (λ (y : Entry). y.key) r in
    clash (both (leb low x.key) (leb x.key high) (le-leb low x.key (omega arith)) (le-leb x.key high (omega arith))) q)
    (λ t. rw q (within-some low high xs e t a b))
    (Memᴰ.cases_cons m))

within_none : (low high : ℕ) (es : List Entry) → ((e : Entry) → Memᴰ e es → low ≤ e.key → high < e.key) → is_empty (within low high es) ≡ true
unfolding within
within_none low high [] h = refl
within_none low high (x ∷ xs) h =
    cases (leb low x.key && leb x.key high)
    (λ q. let a : low ≤ x.key = leb-true _ _ (both_left (leb low x.key) (leb x.key high) q) in
    let b : x.key ≤ high = leb-true _ _ (both_right (leb low x.key) (leb x.key high) q) in
    absurd (omega (arith, h x (Memᴰ.head refl) a)))
    (λ q. rw q (within_none low high xs (λ e m. h e (Memᴰ.tail m))))

next-within : (from k high : ℕ) (es : List Entry) → Next from k es → k ≤ high → is_empty (within from high es) ≡ false
next-within from k high es n l =
    within-some from high es n.holds.0 n.holds.1.0 (omega (arith, n.above, n.holds.1.1)) (omega (arith, n.holds.1.1))

-- ---- the responsible table

module _ (s : Store) (k : ℕ) where
  keeper-one : (q : ℕ) → keeper s k (q ∷ []) ≡ 0
  unfolding keeper
  keeper-one q = omega arith

  keeper-here : (q : ℕ) (qs : List ℕ) → k ≤ span_end s q → keeper s k (q ∷ qs) ≡ 0
  unfolding keeper rank
  keeper-here q qs h = rw (le-ltb (span_end s q) k h) (omega arith)

  keeper-next : (q x : ℕ) (qs : List ℕ) → span_end s q < k → keeper s k (q ∷ x ∷ qs) ≡ suc (keeper s k (x ∷ qs))
  unfolding keeper
  keeper-next q x qs h =
      let r : rank s k (q ∷ x ∷ qs) ≡ suc (rank s k (x ∷ qs)) = unfold rank in (rw (lt-ltb (span_end s q) k h)) in
      omega arith

  pub keeper-few : (qs : List ℕ) → 1 ≤ length qs → keeper s k qs < length qs
  unfolding keeper
  keeper-few qs h = omega arith

module _ (s : Store) where
  pub low_first : (from : ℕ) (qs : List ℕ) (i : ℕ) → i ≡ 0 → low_of s from qs i ≡ from
  unfolding low_of
  low_first from qs i h = rw h

  pub low-other : (from : ℕ) (qs : List ℕ) (i : ℕ) → 1 ≤ i → low_of s from qs i ≡ suc (span_end s (get_or qs (i - 1) 0))
  unfolding low_of
  low-other from qs zero h = absurd (omega arith)
  low-other from qs (suc i) h = let e : suc i - 1 ≡ i = omega arith in rw e

  low-next : (from q x : ℕ) (qs : List ℕ) (i : ℕ) → low_of s from (q ∷ x ∷ qs) (suc i) ≡ low_of s (suc (span_end s q)) (x ∷ qs) i
  unfolding low_of
  low-next from q x qs zero = refl
  low-next from q x qs (suc i) = refl

  pub high-last : (qs : List ℕ) (i : ℕ) → suc i ≡ length qs → high_of s qs i ≡ greatest
  unfolding high_of
  high-last qs i h = rw (eq-eqb (suc i) (length qs) h)

  pub high-other : (qs : List ℕ) (i : ℕ) → (suc i ≡ length qs → ⊥) → high_of s qs i ≡ span_end s (get_or qs i 0)
  unfolding high_of
  high-other qs i h = rw (ne_eqb (suc i) (length qs) h)

  high-next : (q x : ℕ) (qs : List ℕ) (i : ℕ) → high_of s (q ∷ x ∷ qs) (suc i) ≡ high_of s (x ∷ qs) i
  high-next q x qs i =
      cases (eqb (suc i) (length (x ∷ qs)))
      (λ e. high-last (q ∷ x ∷ qs) (suc i) (omega (arith, eqb-true (suc i) (length (x ∷ qs)) e)) ∙ sym (high-last (x ∷ qs) i (eqb-true _ _ e)))
      (λ e. high-other (q ∷ x ∷ qs) (suc i) (λ z. eqb-false (suc i) (length (x ∷ qs)) e (omega arith)) ∙ sym (high-other (x ∷ qs) i (eqb-false _ _ e)))

-- ---- slices, one at a time

module _ (s : Store) (es : List Entry) (p : ℕ) where
  pub slices-pass : (from q x : ℕ) (qs : List ℕ) → is_empty (within from (span_end s q) es) ≡ true
      → slices_from s es p from (q ∷ x ∷ qs) ≡ slices_from s es p (suc (span_end s q)) (x ∷ qs)
  unfolding slices_from
  slices-pass from q x qs h = rw h

  pub slices-take : (from q x : ℕ) (qs : List ℕ) → is_empty (within from (span_end s q) es) ≡ false
      → slices_from s es p from (q ∷ x ∷ qs) ≡ record { place = p; on = q; low = from; high = span_end s q } ∷ slices_from s es p (suc (span_end s q)) (x ∷ qs)
  unfolding slices_from
  slices-take from q x qs h = rw h

  pub slices-last : (from q : ℕ) → is_empty (within from greatest es) ≡ false
      → slices_from s es p from (q ∷ []) ≡ record { place = p; on = q; low = from; high = greatest } ∷ []
  unfolding slices_from
  slices-last from q h = rw h

  pub slices-short : (from q : ℕ) → is_empty (within from greatest es) ≡ true → slices_from s es p from (q ∷ []) ≡ []
  unfolding slices_from
  slices-short from q h = rw h

  pub slices-nil : (from : ℕ) → slices_from s es p from [] ≡ []
  unfolding slices_from
  slices-nil from = refl

  -- Where no entry is left, nothing more is hung.
  pub slices-spent : (from : ℕ) (qs : List ℕ) → Spent from es → Spans s from qs → slices_from s es p from qs ≡ []
  slices-spent from [] n h = slices-nil from
  slices-spent from (q ∷ []) n h = slices-short from q (within_none from greatest es (λ e m l. absurd (omega (arith, n e m))))
  slices-spent from (q ∷ x ∷ qs) n h =
      slices-pass from q x qs (within_none from (span_end s q) es (λ e m l. absurd (omega (arith, n e m))))
      ∙ slices-spent (suc (span_end s q)) (x ∷ qs) (λ e m. omega (arith, n e m, h.0, h.1)) h.2

  -- The next slice hangs on the table that is responsible for the next entry.
  pub slices-met : (from k : ℕ) (qs : List ℕ) → Next from k es → k ≤ greatest → Spans s from qs → 1 ≤ length qs
      → slices_from s es p from qs
      ≡ slice_at s p from qs (keeper s k qs) ∷ slices_from s es p (suc (high_of s qs (keeper s k qs))) (drop (suc (keeper s k qs)) qs)
  unfolding slice_at low_of
  slices-met from k [] n g h l = absurd (omega arith)
  slices-met from k (q ∷ []) n g h l =
      rw (keeper-one s k q, high-last s (q ∷ []) 0 refl, slices-nil (suc greatest))
      (slices-last from q (next-within from k greatest es n g))
  slices-met from k (q ∷ x ∷ qs) n g h l =
      cases (ltb (span_end s q) k)
      (λ b. let over : span_end s q < k = ltb-true _ _ b in
      slices-pass from q x qs (within_none from (span_end s q) es (λ e m f. omega (arith, n.least e m f)))
      ∙ slices-met (suc (span_end s q)) k (x ∷ qs) (next-later from (suc (span_end s q)) k es (omega (arith, h.0, h.1)) over n) g h.2 (omega arith)
      ∙ rw (keeper-next s k q x qs over, high-next s q x qs (keeper s k (x ∷ qs)), low-next s from q x qs (keeper s k (x ∷ qs))))
      (λ b. let up : k ≤ span_end s q = ltb-false _ _ b in
      slices-take from q x qs (next-within from k (span_end s q) es n up)
      ∙ rw (keeper-here s k q (x ∷ qs) up, high-other s (q ∷ x ∷ qs) 0 (λ z. omega arith)))

-- ---- spans behind a table

pub spans-above : (s : Store) (low : ℕ) (qs : List ℕ) (q : ℕ) → Spans s low qs → Memᴰ q qs → low ≤ span_end s q
spans-above s low [] q h m = absurd (elim m [ ])
spans-above s low (x ∷ xs) q h m =
    ⊎_elim
    (λ e. let same : span_end s q ≡ span_end s x = ap (span_end s) e in omega (arith, h.0, h.1))
    (λ t. omega (arith, h.0, h.1, spans-above s (suc (span_end s x)) xs q h.2 t))
    (Memᴰ.cases_cons m)

pub spans-behind : (s : Store) (low : ℕ) (qs : List ℕ) (i : ℕ) → Spans s low qs → i < length qs → Spans s (suc (span_end s (get_or qs i 0))) (drop (suc i) qs)
spans-behind s low [] i h l = absurd (omega arith)
spans-behind s low (q ∷ qs) zero h l = h.2
spans-behind s low (q ∷ qs) (suc i) h l = spans-behind s (suc (span_end s q)) qs i h.2 (omega arith)

-- A table that is not the last ends below the greatest key.
pub end-room : (s : Store) (low : ℕ) (qs : List ℕ) (i : ℕ) → ((q : ℕ) → Memᴰ q qs → Readable s q) → Spans s low qs → suc i < length qs
    → span_end s (get_or qs i 0) < greatest
end-room s low [] i r h l = absurd (omega arith)
end-room s low (q ∷ []) i r h l = absurd (omega arith)
end-room s low (q ∷ x ∷ qs) zero r h l =
    let t = r x (Memᴰ.tail (Memᴰ.head refl)) in
    let a : span_start s x ≤ least_key (table s x) = unfold span_start in least_end-own (least_key (table s x)) (links s x) in
    omega (arith, h.2.0, least-greatest 0 (2 ^ 64) (table s x) t.some t.keys, greatest-high 0 (2 ^ 64) (table s x) t.some t.keys)
end-room s low (q ∷ x ∷ qs) (suc i) r h l = end-room s (suc (span_end s q)) (x ∷ qs) i (λ y m. r y (Memᴰ.tail m)) h.2 (omega arith)
