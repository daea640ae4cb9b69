-- The lists of the read order have rising keys and short values. Each is the memory table, a listed and so live table, or a slice of a
-- frozen one; soundness has valid entries there, and a slice keeps some of them. By members: whatever stands in the read order is one of these.
use Prim.Native.Nat.{ℕ, ◌≤◌, ◌^◌}
use mathlib.Core.Path.{◌≡◌, refl}
use mathlib.Core.List.Memᴰ
use mathlib.Core.List.{List, [], ◌∷◌, map, reverse, Memᴰ}
use mathlib.Core.Bool.{true}
use mathlib.Core.Logic.{⊎_elim}
use native.Mathlib.Omega.{arith}
use Rattle.table.specs.Entry.{Entry}
use Rattle.table.specs.Valid.{Keys, Values, Valid}
use Rattle.ldc.specs.Lists.{flat}
use Rattle.ldc.specs.Store.{Link, Store, card, links, is_live, level, table, within, slice, sources}
use Rattle.ldc.specs.Read.{read_order}
use Rattle.ldc.proofs.Stores.CardFacts.{live-not-free, frozen-not-free}
use Rattle.ldc.proofs.Stores.Facts.{listed-live, table-valid, link-frozen}
use Rattle.ldc.proofs.Entries.Keys.{AllKeys, AllValues, keys-keep, values-keep}
use Rattle.ldc.proofs.Basics.Replaced.{member-reverse}
use Rattle.ldc.proofs.Stores.Sound.{Sound}
use Rattle.ldc.proofs.Stores.Written.{member-map}

-- What stands in lists end to end stands in one of them.
pub member-flat : {A : Type 0} (x : A) (xss : List (List A)) → Memᴰ x (flat xss) → (xs : List A) × (Memᴰ xs xss × Memᴰ x xs)
member-flat x [] m = absurd (Memᴰ.not-nil m)
member-flat x (xs ∷ xss) m =
    ⊎_elim (λ h. (xs, (Memᴰ.head refl, h)))
    (λ t. let r = member-flat x xss t in (r.0, (Memᴰ.tail r.1.0, r.1.1)))
    (Memᴰ.append_cases xs m)

-- All lists, by members.
pub all-keys : (low high : ℕ) (xss : List (List Entry)) → low ≤ high → ((es : List Entry) → Memᴰ es xss → Keys low high es) → AllKeys low high xss
all-keys low high [] o h = o
all-keys low high (es ∷ xss) o h = (h es (Memᴰ.head refl), all-keys low high xss o (λ x m. h x (Memᴰ.tail m)))

pub all-values : (xss : List (List Entry)) → ((es : List Entry) → Memᴰ es xss → Values es) → AllValues xss
all-values [] h = tt
all-values (es ∷ xss) h = (h es (Memᴰ.head refl), all-values xss (λ x m. h x (Memᴰ.tail m)))

-- Entries that may be read: as `Valid`, however many.
pub record Read (es : List Entry) : Type 0 where
  pub keys : Keys 0 (2 ^ 64) es
  pub values : Values es

read_of : {es : List Entry} → Valid es → Read es
read_of v = record { keys = v.keys; values = v.values }

read-within : (low high : ℕ) (es : List Entry) → Read es → Read (within low high es)
unfolding within
read-within low high es r = record { keys = keys-keep 0 (2 ^ 64) _ es r.keys; values = values-keep _ es r.values }

module _ (s : Store) (S : Sound s) where
  slice-read : (p : ℕ) (l : Link) → Memᴰ l (links s p) → Read (slice s l)
  unfolding slice
  slice-read p l m =
      read-within l.low l.high (table s l.place)
      (read_of (table-valid s S l.place (frozen-not-free (card s l.place) (link-frozen s S p l m))))

  table-read : (p : ℕ) → is_live (card s p) ≡ true → Read (table s p)
  table-read p h = read_of (table-valid s S p (live-not-free (card s p) h))

  -- what is read of a live table
  pub source-read : (p : ℕ) → is_live (card s p) ≡ true → (es : List Entry) → Memᴰ es (sources s p) → Read es
  unfolding sources
  source-read p h es m =
      ⊎_elim
      (λ a. let r = member-map (slice s) es (reverse (links s p)) a in
      rw r.1.1 (slice-read p r.0 (member-reverse r.0 (links s p) r.1.0)))
      (λ b. let e : es ≡ table s p = Memᴰ.eq_of_singleton b in rw e (table-read p h))
      (Memᴰ.append_cases (map (slice s) (reverse (links s p))) m)

  level-read : (n : ℕ) (es : List Entry) → Memᴰ es (flat (map (sources s) (level s n))) → Read es
  level-read n es m =
      let r = member-flat es (map (sources s) (level s n)) m in
      let q = member-map (sources s) r.0 (level s n) r.1.0 in
      source-read q.0 (listed-live s S n q.0 q.1.0) es (rw q.1.1 at r.1.1)

  newest-read : (es : List Entry) → Memᴰ es (map (table s) (reverse (level s 0))) → Read es
  newest-read es m =
      let r = member-map (table s) es (reverse (level s 0)) m in
      rw r.1.1 (table-read r.0 (listed-live s S 0 r.0 (member-reverse r.0 (level s 0) r.1.0)))

  pub read_order-read : (es : List Entry) → Memᴰ es (read_order s) → Read es
  unfolding read_order
  read_order-read es m =
      ⊎_elim (λ e. rw e (read_of S.memory))
      (λ t. ⊎_elim (newest-read es)
      (λ u. ⊎_elim (level-read 1 es)
      (λ v. ⊎_elim (level-read 2 es) (level-read 3 es) (Memᴰ.append_cases (flat (map (sources s) (level s 2))) v))
      (Memᴰ.append_cases (flat (map (sources s) (level s 1))) u))
      (Memᴰ.append_cases (map (table s) (reverse (level s 0))) t))
      (Memᴰ.cases_cons m)

  pub read_order-keys : AllKeys 0 (2 ^ 64) (read_order s)
  read_order-keys = all-keys 0 (2 ^ 64) (read_order s) (omega arith) (λ es m. (read_order-read es m).keys)

  pub read_order-values : AllValues (read_order s)
  read_order-values = all-values (read_order s) (λ es m. (read_order-read es m).values)
