-- The list behind its first requests: what stands from a position on is a list of its own, with the requests from there on. How many bytes the
-- first requests take is added up one request at a time: by induction on how many they are.
use Prim.Native.Nat.{ℕ, zero, suc, ◌+◌, ◌-◌, ◌≤◌, ◌<◌}
use mathlib.Core.Path.{◌≡◌, refl, sym, ◌∙◌, ap}
use mathlib.Core.Bool.{true, true≢false}
use mathlib.Core.List.{List, [], ◌∷◌}
use mathlib.Core.Option
use mathlib.Core.Option.{Option, some, none, map}
use native.Mathlib.Omega.{arith}
use borrow.Author.Tests.{leb-true, leb-false, le-leb, lt-leb, eq-eqb, ne_eqb, eqb-true, eqb-false}
use lib.Dec.{leb, eqb}
use lib.ListN.{length, get_or, take, drop, length-drop}
use lib.Seq.{drop-drop, get_or-drop, length-take-le}
use Rattle.coding.specs.Number.{number_at}
use Rattle.coding.proofs.NumberLaws.{number_at-cong}
use Rattle.table.specs.Entry.{length_at}
use Rattle.ldc.specs.Lists.{is_some}
use Rattle.ldc.specs.Request.{Request}
use Rattle.ldc.specs.Run.{list_limit, request_at, whole_at, split_at, split}
use Rattle.ldc.proofs.Basics.Cases.{cases, maybe}
use Rattle.wire.specs.Rest.{rest}
use Rattle.wire.proofs.Splits.{whole-fits, rest_all, rest-long, rest_end, rest-turn, rest-broken}
use Rattle.serve_list.specs.Ran.{requests_of}
use Rattle.survey_deliver.specs.Whole.{size_of, position_of}

-- ---- a list from a position on

module _ (bytes : List ℕ) (at : ℕ) (h : at ≤ length bytes) where
  number_behind : (w k : ℕ) → number_at w (drop at bytes) k ≡ number_at w bytes (at + k)
  number_behind w k =
      number_at-cong w (drop at bytes) bytes k (at + k)
      (λ i hi. get_or-drop at bytes (k + i) 0 ∙ ap (λ (j : ℕ). get_or bytes j 0) (omega arith))

  length-behind : (k : ℕ) → length_at (drop at bytes) k ≡ length_at bytes (at + k)
  length-behind k = number_behind 2 k

  leb-behind : (n : ℕ) → leb n (length (drop at bytes)) ≡ leb (at + n) (length bytes)
  leb-behind n =
      let l = length-drop at bytes in
      cases (leb (at + n) (length bytes))
      (λ q. rw (q, le-leb n (length (drop at bytes)) (omega (arith, leb-true (at + n) (length bytes) q))))
      (λ q. rw (q, lt-leb n (length (drop at bytes)) (omega (arith, leb-false (at + n) (length bytes) q))))

  eqb-behind : (n : ℕ) → eqb n (length (drop at bytes)) ≡ eqb (at + n) (length bytes)
  eqb-behind n =
      let l = length-drop at bytes in
      cases (eqb (at + n) (length bytes))
      (λ q. rw (q, eq-eqb n (length (drop at bytes)) (omega (arith, eqb-true (at + n) (length bytes) q))))
      (λ q. let off : at + n ≡ length bytes → ⊥ = eqb-false (at + n) (length bytes) q in
      rw (q, ne_eqb n (length (drop at bytes)) (λ e. off (omega arith))))

  whole-behind : (k : ℕ) → whole_at (drop at bytes) k ≡ whole_at bytes (at + k)
  unfolding whole_at
  whole-behind k =
      let e : at + (k + 4) ≡ at + k + 4 = omega arith in
      let f : at + (k + length_at bytes (at + k)) ≡ at + k + length_at bytes (at + k) = omega arith in
      rw (length-behind k, leb-behind (k + 4), leb-behind (k + length_at bytes (at + k)), e, f)

  request-behind : (k : ℕ) → request_at (drop at bytes) k ≡ request_at bytes (at + k)
  unfolding request_at
  request-behind k =
      let e : at + (k + 2) ≡ at + k + 2 = omega arith in
      let f : at + (k + 4) ≡ at + k + 4 = omega arith in
      rw (length-behind k, number_behind 2 (k + 2), drop-drop (k + 4) at bytes, e, f)

  split-behind : (n k : ℕ) → split_at n (drop at bytes) k ≡ split_at n bytes (at + k)
  split-behind zero k = rw (eqb-behind k)
  split-behind (suc n) k =
      let e : at + (k + length_at bytes (at + k)) ≡ at + k + length_at bytes (at + k) = omega arith in
      rw (eqb-behind k, whole-behind k, request-behind k, length-behind k, split-behind n (k + length_at bytes (at + k)), e)

  pub split_rest : length bytes ≤ list_limit → split (drop at bytes) ≡ rest bytes at
  unfolding rest
  split_rest l =
      let n : length (drop at bytes) - 0 ≡ length bytes - at = omega (arith, length-drop at bytes) in
      let z : at + 0 ≡ at = omega arith in
      rest_all (drop at bytes) (omega (arith, length-drop at bytes))
      ∙ ap (λ (k : ℕ). split_at k (drop at bytes) 0) n
      ∙ split-behind (length bytes - at) 0
      ∙ ap (λ (k : ℕ). split_at (length bytes - at) bytes k) z

-- ---- how many there are

get_or-more : (r : Request) (o : Option (List Request)) → is_some o ≡ true → Option.get_or (map (λ rs. r ∷ rs) o) [] ≡ r ∷ Option.get_or o []
get_or-more r none h = absurd (true≢false (sym h))
get_or-more r (some rs) h = refl

some_is : (o : Option (List Request)) → is_some o ≡ true → o ≡ some (Option.get_or o [])
some_is none h = absurd (true≢false (sym h))
some_is (some rs) h = refl

pub split-short : (bytes : List ℕ) → is_some (split bytes) ≡ true → length bytes ≤ list_limit
split-short bytes h =
    cases (leb (length bytes) list_limit) (λ q. leb-true (length bytes) list_limit q)
    (λ q. absurd (true≢false (sym h ∙ ap is_some (rest-long bytes (leb-false (length bytes) list_limit q)))))

few-more : (n : ℕ) (r : Request) (o : Option (List Request)) → length (Option.get_or o []) ≤ n → length (Option.get_or (map (λ rs. r ∷ rs) o) []) ≤ suc n
few-more n r none h = omega arith
few-more n r (some rs) h = omega arith

split_at-few : (n : ℕ) (bytes : List ℕ) (at : ℕ) → length (Option.get_or (split_at n bytes at) []) ≤ n
split_at-few zero bytes at = cases (eqb at (length bytes)) (λ q. rw q (omega arith)) (λ q. rw q (omega arith))
split_at-few (suc n) bytes at =
    let rest = split_at-few n bytes (at + length_at bytes at) in
    cases (eqb at (length bytes)) (λ q. rw q (omega arith))
    (λ q. rw q (cases (whole_at bytes at)
    (λ w. rw w (few-more n (request_at bytes at) (split_at n bytes (at + length_at bytes at)) rest))
    (λ w. rw w (omega arith))))

-- No list has more requests than a list may have bytes.
pub split-few : (bytes : List ℕ) → length (requests_of bytes) ≤ list_limit
unfolding split
split-few bytes =
    cases (leb (length bytes) list_limit)
    (λ q. rw q (omega (arith, split_at-few (length bytes) bytes 0, leb-true (length bytes) list_limit q)))
    (λ q. rw q (omega arith))

some_more : (r : Request) (o : Option (List Request)) (rs : List Request) → map (λ qs. r ∷ qs) o ≡ some rs → 0 < length rs
some_more r none rs e = absurd (true≢false (sym (ap is_some e)))
some_more r (some qs) rs e = omega (arith, ap (λ o. length (Option.get_or o [])) e)

-- A list that is not empty has a request.
pub split-some : (bytes : List ℕ) (rs : List Request) → 0 < length bytes → split bytes ≡ some rs → 0 < length rs
split-some bytes rs h e =
    let all = rest_all bytes (split-short bytes (ap is_some e)) in
    cases (whole_at bytes 0)
    (λ w. some_more (request_at bytes 0) (rest bytes (0 + length_at bytes 0)) rs (sym (rest-turn bytes 0 h w) ∙ sym all ∙ e))
    (λ w. absurd (true≢false (sym (ap is_some (sym (rest-broken bytes 0 h w) ∙ sym all ∙ e)))))

-- ---- one request further

-- The requests from a position on.
abbrev pub from : List ℕ → (at : ℕ) → List Request
from list at = Option.get_or (rest list at) []

none-there : {o : Option (List Request)} → o ≡ none → 0 < length (Option.get_or o []) → ⊥
none-there q h = omega (arith, ap (λ o. length (Option.get_or o [])) q)

module _ (list : List ℕ) (at : ℕ) (within : at ≤ length list) (more : 0 < length (from list at)) where
  inside : at < length list
  inside =
      cases (leb (length list) at)
      (λ q. let n : length (from list at) ≡ 0 = ap (λ o. length (Option.get_or o [])) (rest_end list at (leb-true (length list) at q) within) in
      absurd (omega arith))
      (λ q. leb-false (length list) at q)

  here : whole_at list at ≡ true
  here = cases (whole_at list at) (λ q. q) (λ q. absurd (none-there (rest-broken list at inside q) more))

  pub whole_here : (at + 4 ≤ length list) × ((4 ≤ length_at list at) × (at + length_at list at ≤ length list))
  whole_here = whole-fits list at here

  pub listed_next : is_some (rest list (at + length_at list at)) ≡ true
  listed_next =
      maybe (rest list (at + length_at list at))
      (λ q. absurd (none-there (rest-turn list at inside here ∙ ap (map (λ (rs : List Request). request_at list at ∷ rs)) q) more))
      (λ rs q. ap is_some q)

  pub first-here : from list at ≡ request_at list at ∷ from list (at + length_at list at)
  first-here = ap (λ o. Option.get_or o []) (rest-turn list at inside here) ∙ get_or-more (request_at list at) (rest list (at + length_at list at)) listed_next

  pub size-here : 4 + length (request_at list at).body ≡ length_at list at
  unfolding request_at
  size-here =
      let f = whole_here in
      let l = length-take-le (length_at list at - 4) (drop (at + 4) list) (omega (arith, length-drop (at + 4) list, f.1.1)) in
      omega (arith, l, f.1.0)

-- ---- behind the first requests

-- Where so many requests end that begin at a position.
abbrev ends_at : List ℕ → (at n : ℕ) → ℕ
ends_at list at n = at + size_of (take n (from list at))

ends-turn : (list : List ℕ) (at n : ℕ) → at ≤ length list → 0 < length (from list at) → ends_at list at (suc n) ≡ ends_at list (at + length_at list at) n
ends-turn list at n h m = rw (first-here list at h m) (omega (arith, size-here list at h m))

behind : (n : ℕ) (list : List ℕ) (at : ℕ) → at ≤ length list → is_some (rest list at) ≡ true → n ≤ length (from list at)
    → (ends_at list at n ≤ length list) × (rest list (ends_at list at n) ≡ some (drop n (from list at)))
behind zero list at h s f = let z : ends_at list at 0 ≡ at = omega arith in (omega arith, rw z (some_is (rest list at) s))
behind (suc n) list at h s f =
    let m : 0 < length (from list at) = omega arith in
    let first = first-here list at h m in
    let next = behind n list (at + length_at list at) (whole_here list at h m).1.1 (listed_next list at h m) (omega (arith, ap length first)) in
    let e = ends-turn list at n h m in
    (omega (arith, next.0, e), ap (rest list) e ∙ next.1 ∙ ap (λ (rs : List Request). some (drop (suc n) rs)) (sym first))

module _ (list : List ℕ) (n : ℕ) (few : n ≤ length (requests_of list)) where
  start_of : length list ≤ list_limit → from list 0 ≡ requests_of list
  start_of l = ap (λ o. Option.get_or o []) (sym (rest_all list l))

  start-ends : length list ≤ list_limit → ends_at list 0 n ≡ position_of list n
  unfolding position_of
  start-ends l = ap (λ (rs : List Request). 0 + size_of (take n rs)) (start_of l) ∙ omega arith

  -- The rest of a list behind its first requests is a list, with the other requests.
  pub split-others : is_some (split list) ≡ true → (position_of list n ≤ length list) × (split (drop (position_of list n) list) ≡ some (drop n (requests_of list)))
  split-others s =
      let l = split-short list s in
      let b = behind n list 0 (omega arith) (ap is_some (sym (rest_all list l)) ∙ s) (rw (start_of l) few) in
      let e = start-ends l in
      let h : position_of list n ≤ length list = omega (arith, b.0, e) in
      (h, split_rest list (position_of list n) h l ∙ ap (rest list) (sym e) ∙ b.1 ∙ ap (λ (rs : List Request). some (drop n rs)) (start_of l))

-- ---- the loop of `skip`

-- At this position so many are left to be passed.
pub record Passed (list : List ℕ) (count at left : ℕ) : Type 0 where
  pub within : at ≤ length list
  pub few : left ≤ length (from list at)
  pub ends : ends_at list at left ≡ position_of list count

pub passed_start : (list : List ℕ) (count : ℕ) → count ≤ length (requests_of list) → Passed list count 0 count
unfolding position_of
passed_start list count f =
    cases (leb (length list) list_limit)
    (λ q. let l = leb-true (length list) list_limit q in
    record { within = omega arith; few = rw (start_of list count f l) f; ends = start-ends list count f l })
    (λ q. let n : length (requests_of list) ≡ 0 = ap (λ o. length (Option.get_or o [])) (rest-long list (leb-false (length list) list_limit q)) in
    let z : count ≡ 0 = omega arith in
    rw z (record { within = omega arith; few = omega arith; ends = refl }))

module _ {list : List ℕ} {count at left : ℕ} (p : Passed list count at left) (more : 0 < left) where
  some_left : 0 < length (from list at)
  some_left = omega (arith, p.few)

  pub passed-fits : (at + 4 ≤ length list) × ((4 ≤ length_at list at) × (at + length_at list at ≤ length list))
  passed-fits = whole_here list at p.within some_left

  pub passed-turn : (n : ℕ) → n ≡ length_at list at → Passed list count (at + n) (left - 1)
  passed-turn n e =
      let one : left ≡ suc (left - 1) = omega arith in
      rw e (record {
        within = passed-fits.1.1;
        few = omega (arith, p.few, ap length (first-here list at p.within some_left));
        ends = sym (ends-turn list at (left - 1) p.within some_left) ∙ ap (ends_at list at) (sym one) ∙ p.ends;
      })

pub passed-end : {list : List ℕ} {count at left : ℕ} → Passed list count at left → left ≤ 0 → at ≡ position_of list count
passed-end {list} {count} {at} {left} p h =
    let z : left ≡ 0 = omega arith in
    omega (arith, rw z at p.ends)
