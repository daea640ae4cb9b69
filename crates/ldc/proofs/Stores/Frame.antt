-- What is not touched stays as it is: spans, links and what is read of a table depend on its own card and bytes and on those that its links name.
use Prim.Native.Nat.{ℕ}
use mathlib.Core.Path.{◌≡◌, refl, ap, ap₂}
use mathlib.Core.List.{List, [], ◌∷◌, ◌++◌, map, reverse, Memᴰ}
use Rattle.table.specs.Entry.{Entry}
use Rattle.ldc.specs.Lists.{flat}
use Rattle.ldc.specs.Store.{Link, Store, card, links, bytes_at, table, level, slice, sources, span_start, span_end}
use Rattle.ldc.specs.Rules.{Hung, link_good, spans_rise}
use Rattle.ldc.proofs.Basics.Replaced.{member-reverse}
use Rattle.ldc.proofs.Stores.Spans.{reads}

module _ {A B : Type 0} where
  pub map-cong : (f g : A → B) (xs : List A) → ((x : A) → Memᴰ x xs → f x ≡ g x) → map f xs ≡ map g xs
  map-cong f g [] h = refl
  map-cong f g (x ∷ xs) h = ap₂ (λ (y : B) (ys : List B). y ∷ ys) (h x (Memᴰ.head refl)) (map-cong f g xs (λ y m. h y (Memᴰ.tail m)))

module _ (s s' : Store) where
  -- ---- a table and its links

  pub table_same : (p : ℕ) → bytes_at s' p ≡ bytes_at s p → table s' p ≡ table s p
  unfolding table
  table_same p b = rw b

  pub links-same : (p : ℕ) → card s' p ≡ card s p → links s' p ≡ links s p
  unfolding links
  links-same p c = rw c

  pub slice-same : (l : Link) → bytes_at s' l.place ≡ bytes_at s l.place → slice s' l ≡ slice s l
  unfolding slice table
  slice-same l b = rw b

  pub link_good-same : (l : Link) → card s' l.place ≡ card s l.place → bytes_at s' l.place ≡ bytes_at s l.place → link_good s' l ≡ link_good s l
  unfolding link_good
  link_good-same l c b = rw (c, slice-same l b)

  module _ (p : ℕ) (c : links s' p ≡ links s p) (b : bytes_at s' p ≡ bytes_at s p) where
    pub span_start-same : span_start s' p ≡ span_start s p
    unfolding span_start
    span_start-same = rw (c, table_same p b)

    pub span_end-same : span_end s' p ≡ span_end s p
    unfolding span_end
    span_end-same = rw (c, table_same p b)

    pub sources-same : ((l : Link) → Memᴰ l (links s p) → bytes_at s' l.place ≡ bytes_at s l.place) → sources s' p ≡ sources s p
    unfolding sources
    sources-same h =
        rw (c, table_same p b)
        (ap (λ (xs : List (List Entry)). xs ++ (table s p ∷ []))
        (map-cong (slice s') (slice s) (reverse (links s p)) (λ l m. slice-same l (h l (member-reverse l (links s p) m)))))

  -- ---- lists of tables

  pub spans_rise-same : (ps : List ℕ) → ((p : ℕ) → Memᴰ p ps → (links s' p ≡ links s p) × (bytes_at s' p ≡ bytes_at s p)) → spans_rise s' ps ≡ spans_rise s ps
  spans_rise-same [] h = refl
  spans_rise-same (p ∷ []) h = refl
  spans_rise-same (p ∷ q ∷ ps) h =
      let a = h p (Memᴰ.head refl) in
      let b = h q (Memᴰ.tail (Memᴰ.head refl)) in
      rw (span_end-same p a.0 a.1, span_start-same q b.0 b.1, spans_rise-same (q ∷ ps) (λ x m. h x (Memᴰ.tail m)))

  pub reads_same : (ps : List ℕ) → ((p : ℕ) → Memᴰ p ps → sources s' p ≡ sources s p) → reads s' ps ≡ reads s ps
  reads_same [] h = refl
  reads_same (p ∷ ps) h = rw (h p (Memᴰ.head refl), reads_same ps (λ q m. h q (Memᴰ.tail m)))

-- The links that hang on some tables of a level.
abbrev pub hung_in : Store → (level : ℕ) → List ℕ → List Hung
hung_in s n ps = flat (map (λ p. map (λ l. record { on = n; link = l }) (links s p)) ps)

pub hung_in-same : (s s' : Store) (n : ℕ) (ps : List ℕ) → ((p : ℕ) → Memᴰ p ps → links s' p ≡ links s p) → hung_in s' n ps ≡ hung_in s n ps
hung_in-same s s' n ps h =
    ap flat (map-cong (λ p. map (λ l. record { on = n; link = l }) (links s' p)) (λ p. map (λ l. record { on = n; link = l }) (links s p)) ps
    (λ p m. rw (h p m)))
