-- A list from a position on, one request at a time. How many steps are allowed does not matter, once they are as many as bytes are left:
-- by induction on them, each request taking at least four bytes.
use Prim.Native.Nat.{ℕ, zero, suc, ◌+◌, ◌-◌, ◌≤◌, ◌<◌}
use mathlib.Core.Path.{◌≡◌, refl, ap}
use mathlib.Core.Bool.{true, false, ◌&&◌}
use mathlib.Core.List.{List, [], ◌∷◌}
use mathlib.Core.Option.{Option, some, none, map}
use native.Mathlib.Omega.{arith}
use borrow.Author.Tests.{leb-true, leb-false, eqb-false, eq-eqb, ne_eqb, le-leb, lt-leb}
use lib.Dec.{leb, eqb}
use lib.ListN.{length}
use Rattle.table.specs.Entry.{length_at}
use Rattle.table.proofs.Tests.{and_parts}
use Rattle.ldc.specs.Lists.{is_some}
use Rattle.ldc.specs.Request.{Request}
use Rattle.ldc.specs.Run.{list_limit, request_at, whole_at, split_at, split}
use Rattle.ldc.proofs.Basics.Cases.{cases}
use Rattle.wire.specs.Rest.{rest}

module _ (bytes : List ℕ) where
  -- A whole request has a length of at least 4 and ends within the list.
  pub whole-fits : (at : ℕ) → whole_at bytes at ≡ true
      → (at + 4 ≤ length bytes) × ((4 ≤ length_at bytes at) × (at + length_at bytes at ≤ length bytes))
  unfolding whole_at
  whole-fits at w =
      let a = and_parts (leb (at + 4) (length bytes)) _ w in
      let b = and_parts (leb 4 (length_at bytes at)) _ a.1 in
      (leb-true (at + 4) (length bytes) a.0, (leb-true 4 (length_at bytes at) b.0, leb-true (at + length_at bytes at) (length bytes) b.1))

  -- The test of the code, which never adds beyond the list's end.
  pub whole-short : (at : ℕ) → length bytes - at < 4 → whole_at bytes at ≡ false
  unfolding whole_at
  whole-short at h = rw (lt-leb (at + 4) (length bytes) (omega arith))

  pub whole-test : (at n : ℕ) → at ≤ length bytes → 4 ≤ length bytes - at → n ≡ length_at bytes at
      → (leb 4 n && leb n (length bytes - at)) ≡ whole_at bytes at
  unfolding whole_at
  whole-test at n h l e =
      rw (← e, le-leb (at + 4) (length bytes) (omega arith))
      (cases (leb n (length bytes - at))
      (λ q. rw (q, le-leb (at + n) (length bytes) (omega (arith, leb-true n (length bytes - at) q))))
      (λ q. rw (q, lt-leb (at + n) (length bytes) (omega (arith, leb-false n (length bytes - at) q)))))

  steps : (n k at : ℕ) → at ≤ length bytes → length bytes - at ≤ n → length bytes - at ≤ k → split_at n bytes at ≡ split_at k bytes at
  steps zero zero at h a b = refl
  steps zero (suc k) at h a b = rw (eq-eqb at (length bytes) (omega arith))
  steps (suc n) zero at h a b = rw (eq-eqb at (length bytes) (omega arith))
  steps (suc n) (suc k) at h a b =
      cases (eqb at (length bytes)) (λ q. rw q)
      (λ q. cases (whole_at bytes at)
      (λ w. let f = whole-fits at w in
      let off : at ≡ length bytes → ⊥ = eqb-false at (length bytes) q in
      rw (q, w, steps n k (at + length_at bytes at) f.1.1 (omega (arith, f.1.0)) (omega (arith, f.1.0))))
      (λ w. rw (q, w)))

  pub rest_all : length bytes ≤ list_limit → split bytes ≡ rest bytes 0
  unfolding split rest
  rest_all h = let e : length bytes - 0 ≡ length bytes = omega arith in rw (le-leb (length bytes) list_limit h, e)

  pub rest-long : list_limit < length bytes → split bytes ≡ none
  unfolding split
  rest-long h = rw (lt-leb (length bytes) list_limit h)

  pub rest_end : (at : ℕ) → length bytes ≤ at → at ≤ length bytes → rest bytes at ≡ some []
  unfolding rest
  rest_end at h k = let e : length bytes - at ≡ 0 = omega arith in rw (e, eq-eqb at (length bytes) (omega arith))

  module _ (at : ℕ) (h : at < length bytes) where
    one_more : length bytes - at ≡ suc (length bytes - at - 1)
    one_more = omega arith

    off : eqb at (length bytes) ≡ false
    off = ne_eqb at (length bytes) (λ e. omega arith)

    pub rest-turn : whole_at bytes at ≡ true → rest bytes at ≡ map (λ rs. request_at bytes at ∷ rs) (rest bytes (at + length_at bytes at))
    unfolding rest
    rest-turn w =
        let f = whole-fits at w in
        rw (one_more, off, w)
        (ap (map (λ rs. request_at bytes at ∷ rs))
        (steps (length bytes - at - 1) (length bytes - (at + length_at bytes at)) (at + length_at bytes at) f.1.1
        (omega (arith, f.1.0)) (omega arith)))

    pub rest-broken : whole_at bytes at ≡ false → rest bytes at ≡ none
    unfolding rest
    rest-broken w = rw (one_more, off, w)

-- One request in front does not decide whether there is a list.
pub some-map : (r : Request) (o : Option (List Request)) → is_some (map (λ rs. r ∷ rs) o) ≡ is_some o
some-map r none = refl
some-map r (some rs) = refl
