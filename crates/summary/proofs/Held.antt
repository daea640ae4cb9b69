-- Which bits a summary has: those of its keys and no other. So a key that is there has its three bits set, and a table with one of them
-- clear does not hold it. By induction on the keys, a bit at a time.
use Prim.Native.Nat.{ℕ, zero, suc, ◌/◌, ◌%◌, ◌^◌}
use mathlib.Core.Path.{◌≡◌, refl, sym, ◌∙◌, ap}
use mathlib.Core.Bool.{Bool, true, false, ◌&&◌, ◌||◌, or-false, or-true, or_assoc, true≢false}
use mathlib.Core.List.{List, [], ◌∷◌, Memᴰ}
use mathlib.Core.Logic.{◌⊎◌, inl, inr, ⊎_elim}
use mathlib.Core.Option.{none}
use native.Mathlib.Omega.{arith}
use native.Mathlib.Nat.{zero-div}
use borrow.Author.Tests.{eqb-true, eq-eqb}
use lib.Dec.{eqb}
use lib.ListN.{length, get_or}
use Rattle.table.specs.Entry.{Entry}
use Rattle.table.specs.Table.{zeros}
use Rattle.table.specs.Search.{find}
use Rattle.table.proofs.Tests.{cases}
use Rattle.table.proofs.Zeros.{length-zeros}
use Rattle.summary.specs.Bits.{exclusive_bit, sum_bit, weighed_bit, has_bit, with_bit}
use Rattle.summary.specs.Summary.{summary_bytes, with_key, with_keys, summary_of, keys_of, may_hold}
use Rattle.summary.proofs.Places.{exclusive-below, sum_below, weighed-below}
use Rattle.summary.proofs.Form.{length-with_bit, length-with_key}
use Rattle.summary.proofs.Marks.{has-with_bit}

-- Is bit n one of the three of this key? Of any of these keys?
unfoldable pub key_has : (n key : ℕ) → Bool
key_has n k = eqb n (exclusive_bit k) || (eqb n (sum_bit k) || eqb n (weighed_bit k))

abbrev pub any_has : (n : ℕ) → (keys : List ℕ) → Bool
any_has n [] = false
any_has n (k ∷ ks) = key_has n k || any_has n ks

-- No bit of zeros is set.
zero-at : (w i : ℕ) → get_or (zeros w) i 0 ≡ 0
unfolding zeros
zero-at zero i = refl
zero-at (suc w) zero = refl
zero-at (suc w) (suc i) = zero-at w i

has-zeros : (w n : ℕ) → has_bit (zeros w) n ≡ false
unfolding has_bit
has-zeros w n = rw (zero-at w (n / 8), zero-div (2 ^ (n % 8)))

-- The bits with a key's three set, and with those of some keys.
has-with_key : (k n : ℕ) (s : List ℕ) → length s ≡ summary_bytes → has_bit (with_key k s) n ≡ has_bit s n || key_has n k
unfolding key_has
has-with_key k n s h =
    let x : ℕ = exclusive_bit k in
    let y : ℕ = sum_bit k in
    let z : ℕ = weighed_bit k in
    let first = has-with_bit x n s (omega (arith, exclusive-below k)) in
    let second = has-with_bit y n (with_bit x s) (omega (arith, sum_below k, length-with_bit x s)) in
    let third = has-with_bit z n (with_bit y (with_bit x s))
    (omega (arith, weighed-below k, length-with_bit y (with_bit x s), length-with_bit x s)) in
    third ∙ rw (second, first, or_assoc (has_bit s n || eqb n x) (eqb n y) (eqb n z), or_assoc (has_bit s n) (eqb n x) (eqb n y || eqb n z))

has-with_keys : (ks : List ℕ) (n : ℕ) (s : List ℕ) → length s ≡ summary_bytes → has_bit (with_keys ks s) n ≡ has_bit s n || any_has n ks
has-with_keys [] n s h = sym (or-false (has_bit s n))
has-with_keys (k ∷ ks) n s h =
    has-with_keys ks n (with_key k s) (length-with_key k s ∙ h)
    ∙ rw (has-with_key k n s h, or_assoc (has_bit s n) (key_has n k) (any_has n ks))

-- A summary has just the bits of its keys.
pub has-summary : (ks : List ℕ) (n : ℕ) → has_bit (summary_of ks) n ≡ any_has n ks
unfolding summary_of
has-summary ks n =
    has-with_keys ks n (zeros summary_bytes) (length-zeros summary_bytes)
    ∙ ap (λ b. b || any_has n ks) (has-zeros summary_bytes n)

-- A bit of a key that is there is a bit of some key.
pub any-member : (n k : ℕ) (ks : List ℕ) → Memᴰ k ks → key_has n k ≡ true → any_has n ks ≡ true
any-member n k [] x'' h = elim x'' [ ]
any-member n k (x ∷ ks) (Memᴰ.head e) h = rw (← e, h)
any-member n k (x ∷ ks) (Memᴰ.tail m) h = rw (any-member n k ks m h, or-true (key_has n x))

-- The three bits of a key are its own.
has-exclusive : (k : ℕ) → key_has (exclusive_bit k) k ≡ true
unfolding key_has
has-exclusive k = rw (eq-eqb (exclusive_bit k) (exclusive_bit k) refl)

has-sum : (k : ℕ) → key_has (sum_bit k) k ≡ true
unfolding key_has
has-sum k = rw (eq-eqb (sum_bit k) (sum_bit k) refl, or-true (eqb (sum_bit k) (exclusive_bit k)))

has-weighed : (k : ℕ) → key_has (weighed_bit k) k ≡ true
unfolding key_has
has-weighed k =
    rw (eq-eqb (weighed_bit k) (weighed_bit k) refl, or-true (eqb (weighed_bit k) (sum_bit k)), or-true (eqb (weighed_bit k) (exclusive_bit k)))

-- What `may_hold` finds with the bits that `bits_of` gives.
pub may-hold-of : (s : List ℕ) (k x y z : ℕ) → (x ≡ exclusive_bit k) × ((y ≡ sum_bit k) × (z ≡ weighed_bit k))
    → has_bit s x && (has_bit s y && has_bit s z) ≡ may_hold s k
unfolding may_hold
may-hold-of s k x y z e = rw (e.0, e.1.0, e.1.1)

-- A key that is there has its three bits set.
pub holds-key : (k : ℕ) (ks : List ℕ) → Memᴰ k ks → may_hold (summary_of ks) k ≡ true
unfolding may_hold
holds-key k ks m =
    rw (
      has-summary ks (exclusive_bit k),
      any-member (exclusive_bit k) k ks m (has-exclusive k),
      has-summary ks (sum_bit k),
      any-member (sum_bit k) k ks m (has-sum k),
      has-summary ks (weighed_bit k),
      any-member (weighed_bit k) k ks m (has-weighed k),
    )

-- A key is that of an entry, or none is found.
member-or-none : (k : ℕ) (es : List Entry) → Memᴰ k (keys_of es) ⊎ (find k es ≡ none)
unfolding find
member-or-none k [] = inr refl
member-or-none k (e ∷ es) =
    cases (eqb e.key k)
    (λ q. inl (Memᴰ.head (sym (eqb-true e.key k q))))
    (λ q. ⊎_elim (λ m. inl (Memᴰ.tail m)) (λ n. inr (rw q n)) (member-or-none k es))

-- So a table with one of its bits clear does not hold it.
pub not-held : (k : ℕ) (es : List Entry) → may_hold (summary_of (keys_of es)) k ≡ false → find k es ≡ none
not-held k es h =
    ⊎_elim (λ m. absurd (true≢false (sym (holds-key k (keys_of es) m) ∙ h))) (λ n. n) (member-or-none k es)
