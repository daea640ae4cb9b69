-- The tables opened (document 02, note 6): a table with one of the three bits clear does not hold the key, so what the tables opened give
-- is what all that were asked give; and how many are opened of a list that is put together.
use Prim.Native.Nat.{ℕ, ◌+◌, ◌*◌, ◌≤◌}
use mathlib.Core.Path.{◌≡◌, refl, sym, ◌∙◌, ap}
use mathlib.Core.List.{List, [], ◌∷◌, ◌++◌}
use mathlib.Core.Bool.{true, false, cond}
use mathlib.Core.Option.{Option, some, none}
use native.Mathlib.Omega.{arith}
use lib.ListN.{length}
use Rattle.table.specs.Entry.{Entry}
use Rattle.table.specs.Search.{find}
use Rattle.summary.specs.Summary.{keys_of}
use Rattle.summary.proofs.Held.{not-held}
use Rattle.summary.proofs.Counted.{bits-few}
use Rattle.ldc.specs.Lists.{keep, is_some}
use Rattle.ldc.specs.Store.{Store, level, table}
use Rattle.ldc.specs.Probe.{asked, summary_at, has_bits, up_to, opened_of, opened, bits_in}
use Rattle.ldc.proofs.Basics.Cases.{cases, maybe}
use Rattle.ldc.proofs.Entries.Finds.{or_else, find-append}
use Rattle.ldc.proofs.Stores.Asked.{tables, view-asked, few-asked}
use Rattle.ldc.proofs.Stores.Order.{view}
use Rattle.ldc.proofs.Stores.Sound.{Sound}

module _ (s : Store) (k : ℕ) where
  -- A table that is not opened does not hold the key.
  pub unopened : (p : ℕ) → has_bits s k p ≡ false → find k (table s p) ≡ none
  unfolding has_bits summary_at
  unopened p h = not-held k (table s p) h

  -- ---- one table after the other

  pub opened-skip : (p : ℕ) (ps : List ℕ) → has_bits s k p ≡ false → opened_of s k (p ∷ ps) ≡ opened_of s k ps
  unfolding opened_of
  opened-skip p ps h = rw h

  pub opened-cons : (p : ℕ) (ps : List ℕ) → has_bits s k p ≡ true → opened_of s k (p ∷ ps) ≡ p ∷ cond (is_some (find k (table s p))) [] (opened_of s k ps)
  unfolding opened_of
  opened-cons p ps h = rw h

  -- What is opened of two lists: where the first has the key, the second is not asked.
  pub opened-found : (ps qs : List ℕ) → is_some (find k (tables s ps)) ≡ true → opened_of s k (ps ++ qs) ≡ opened_of s k ps
  unfolding find
  opened-found [] qs h = absurd (let z : ◌≡◌ {A = ℕ} 0 1 = cc in omega arith)
  opened-found (p ∷ ps) qs h =
      let e = find-append k (table s p) (tables s ps) in
      cases (has_bits s k p)
      (λ b. rw (opened-cons p (ps ++ qs) b, opened-cons p ps b)
      (maybe (find k (table s p))
      (λ n. rw n (ap (λ xs. p ∷ xs) (opened-found ps qs (rw (e, n) at h))))
      (λ x n. rw n)))
      (λ b. rw (opened-skip p (ps ++ qs) b, opened-skip p ps b)
      (opened-found ps qs (rw (e, unopened p b) at h)))

  pub opened-missed : (ps qs : List ℕ) → find k (tables s ps) ≡ none → opened_of s k (ps ++ qs) ≡ opened_of s k ps ++ opened_of s k qs
  unfolding opened_of
  opened-missed [] qs h = refl
  opened-missed (p ∷ ps) qs h =
      let e = find-append k (table s p) (tables s ps) in
      maybe (find k (table s p))
      (λ n. let h' : find k (tables s ps) ≡ none = rw (e, n) at h in
      cases (has_bits s k p)
      (λ b. rw (opened-cons p (ps ++ qs) b, opened-cons p ps b, n) (ap (λ xs. p ∷ xs) (opened-missed ps qs h')))
      (λ b. rw (opened-skip p (ps ++ qs) b, opened-skip p ps b) (opened-missed ps qs h')))
      (λ x n. absurd (let h' : ◌≡◌ {A = Option Entry} (some x) none = rw (e, n) at h in let z : ◌≡◌ {A = ℕ} 0 1 = cc in omega arith))

  -- ---- the answer

  -- What the tables opened give is what the tables asked give.
  pub find-opened : (ps : List ℕ) → find k (tables s (opened_of s k ps)) ≡ find k (tables s ps)
  unfolding opened_of find
  find-opened [] = refl
  find-opened (p ∷ ps) =
      let e = find-append k (table s p) (tables s ps) in
      cases (has_bits s k p)
      (λ b. rw (opened-cons p ps b)
      (find-append k (table s p) (tables s (cond (is_some (find k (table s p))) [] (opened_of s k ps)))
      ∙ sym (e ∙ maybe (find k (table s p)) (λ n. rw n (sym (find-opened ps))) (λ x n. rw n))))
      (λ b. rw (opened-skip p ps b) (find-opened ps ∙ sym (e ∙ rw (unopened p b))))

  -- ---- how many

  length-up_to : (ps : List ℕ) → length (up_to s k ps) ≤ length ps
  length-up_to [] = omega arith
  length-up_to (p ∷ ps) =
      let r = length-up_to ps in cases (is_some (find k (table s p))) (λ q. rw q (omega arith)) (λ q. rw q (omega arith))

  pub few-opened_of : (ps : List ℕ) → length (opened_of s k ps) ≤ length ps
  unfolding opened_of
  few-opened_of ps = omega (arith, length-up_to (keep (has_bits s k) ps), kept ps)
    where
      kept : (xs : List ℕ) → length (keep (has_bits s k) xs) ≤ length xs
      kept [] = omega arith
      kept (x ∷ xs) = let r = kept xs in cases (has_bits s k x) (λ q. rw q (omega arith)) (λ q. rw q (omega arith))

  pub few_bits : (ps : List ℕ) → bits_in s ps ≤ 256 * length ps
  unfolding summary_at
  few_bits [] = omega arith
  few_bits (p ∷ ps) = omega (arith, bits-few (keys_of (table s p)), few_bits ps)

-- The bits of two lists.
pub bits-append : (s : Store) (ps qs : List ℕ) → bits_in s (ps ++ qs) ≡ bits_in s ps + bits_in s qs
bits-append s [] qs = omega arith
bits-append s (p ∷ ps) qs = omega (arith, bits-append s ps qs)

-- Every look-up replies as without the bits: memory and the tables opened decide.
pub view-opened : (s : Store) → Sound s → (k : ℕ) → view s k ≡ or_else (find k s.memory) (find k (tables s (opened s k)))
unfolding opened find
view-opened s S k =
    view-asked s S k
    ∙ maybe (find k s.memory)
    (λ n. rw n (sym (find-opened s k (asked s k))))
    (λ e n. rw n)

-- At most level 0's live tables plus 3 times (T + 1) are opened.
pub few-opened : (s : Store) → Sound s → (k : ℕ) → length (opened s k) ≤ length (level s 0) + 3 * (s.threshold + 1)
unfolding opened
few-opened s S k =
    cases (is_some (find k s.memory))
    (λ q. rw q (omega arith))
    (λ q. rw q (omega (arith, few-opened_of s k (asked s k), few-asked s S k)))
