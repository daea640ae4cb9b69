-- What a look-up opens does not depend on the bytes of free places: the tables asked are listed or frozen, so each is the same in both stores.
-- First the list of those asked, by the levels; then what is opened of it, table after table.
use Prim.Native.Nat.{ℕ}
use mathlib.Core.Path.{◌≡◌, refl, ◌∙◌, ap}
use mathlib.Core.List.Memᴰ
use mathlib.Core.List.{List, [], ◌∷◌, ◌++◌, map, reverse, Memᴰ}
use mathlib.Core.Bool.{Bool, cond}
use mathlib.Core.Logic.{⊎_elim}
use Rattle.table.specs.Search.{find}
use Rattle.summary.specs.Summary.{summary_of, keys_of, may_hold}
use Rattle.ldc.specs.Lists.{keep, is_some}
use Rattle.ldc.specs.Store.{Store, level, links, bytes_at, table, span_holds}
use Rattle.ldc.specs.Probe.{range_holds, asked_of, asked_on, asked, summary_at, has_bits, up_to, opened_of, opened, bits_in}
use Rattle.ldc.proofs.Basics.Cases.{cases}
use Rattle.ldc.proofs.Basics.Replaced.{member-reverse}
use Rattle.ldc.proofs.Serving.Alike.{Alike, links-alike, level-alike}
use Rattle.ldc.proofs.Serving.AlikeReads.{listed-bytes, linked-bytes}
use Rattle.ldc.proofs.Stores.Frame.{table_same, span_start-same, span_end-same}
use Rattle.ldc.proofs.Stores.Sound.{Sound}

-- ---- members

member-keep : {A : Type 0} (t : A → Bool) (xs : List A) (x : A) → Memᴰ x (keep t xs) → Memᴰ x xs
member-keep t [] x m = m
member-keep t (y ∷ xs) x m =
    cases (t y)
    (λ q. ⊎_elim (λ e. Memᴰ.head e) (λ n. Memᴰ.tail (member-keep t xs x n)) (Memᴰ.cases_cons (rw q at m)))
    (λ q. Memᴰ.tail (member-keep t xs x (rw q at m)))

member-map : {A : Type 0} (f : A → ℕ) (xs : List A) (y : ℕ) → Memᴰ y (map f xs) → (x : A) × Memᴰ x xs × (y ≡ f x)
member-map f [] y m = absurd (elim m [ ])
member-map f (x ∷ xs) y m =
    ⊎_elim (λ e. (x, Memᴰ.head refl, e))
    (λ n. let r = member-map f xs y n in (r.0, Memᴰ.tail r.1, r.2)) (Memᴰ.cases_cons m)

module _ (s s' : Store) (k : ℕ) where
  -- ---- what is opened of tables with the same bytes

  Same : List ℕ → Type 0
  Same ps = (p : ℕ) → Memᴰ p ps → bytes_at s' p ≡ bytes_at s p

  opened_of-same : (ps : List ℕ) → Same ps → opened_of s' k ps ≡ opened_of s k ps
  unfolding Same opened_of has_bits summary_at
  opened_of-same [] h = refl
  opened_of-same (p ∷ ps) h =
      let t : table s' p ≡ table s p = table_same s s' p (h p (Memᴰ.head refl)) in
      let r = opened_of-same ps (λ q m. h q (Memᴰ.tail m)) in
      rw t
      (cases (may_hold (summary_of (keys_of (table s p))) k)
      (λ q. rw (q, t) (ap (λ xs. p ∷ cond (is_some (find k (table s p))) [] xs) r))
      (λ q. rw q r))

  -- the tables opened are among those asked
  opened-member : (ps : List ℕ) (p : ℕ) → Memᴰ p (opened_of s k ps) → Memᴰ p ps
  unfolding opened_of
  opened-member ps p m = member-keep (has_bits s k) ps p (up_to-member (keep (has_bits s k) ps) m)
    where
      up_to-member : (xs : List ℕ) → Memᴰ p (up_to s k xs) → Memᴰ p xs
      up_to-member [] n = n
      up_to-member (x ∷ xs) n =
          ⊎_elim (λ e. Memᴰ.head e)
          (λ t. cases (is_some (find k (table s x)))
          (λ q. absurd (elim (rw q at t) [ ]))
          (λ q. Memᴰ.tail (up_to-member xs (rw q at t)))) (Memᴰ.cases_cons n)

  bits-same : (ps : List ℕ) → Same ps → bits_in s' ps ≡ bits_in s ps
  unfolding Same summary_at
  bits-same [] h = refl
  bits-same (p ∷ ps) h =
      rw (table_same s s' p (h p (Memᴰ.head refl)), bits-same ps (λ q m. h q (Memᴰ.tail m)))

module _ (s s' : Store) (S : Sound s) (a : Alike s s') (k : ℕ) where
  -- ---- the tables asked

  asked_of-alike : (p : ℕ) → asked_of s' k p ≡ asked_of s k p
  unfolding asked_of
  asked_of-alike p = rw (links-alike s s' a p)

  asked-listed : (n : ℕ) (ps : List ℕ) → ((p : ℕ) → Memᴰ p ps → Memᴰ p (level s n)) → asked_on s' k ps ≡ asked_on s k ps
  unfolding asked_on span_holds
  asked-listed n [] h = refl
  asked-listed n (p ∷ ps) h =
      let b = listed-bytes s s' S a n p (h p (Memᴰ.head refl)) in
      let r = asked-listed n ps (λ q m. h q (Memᴰ.tail m)) in
      rw (span_start-same s s' p (links-alike s s' a p) b, span_end-same s s' p (links-alike s s' a p) b)
      (cases (span_holds s p k)
      (λ q. unfold span_holds in rw (q, asked_of-alike p) (ap (λ xs. asked_of s k p ++ xs) r))
      (λ q. unfold span_holds in rw q r))

  asked-alike : asked s' k ≡ asked s k
  unfolding asked
  asked-alike =
      let on : (n : ℕ) → asked_on s' k (level s' n) ≡ asked_on s k (level s n) =
      λ n. ap (asked_on s' k) (level-alike s s' a n) ∙ asked-listed n (level s n) (λ p m. m) in
      rw (level-alike s s' a 0, on 1, on 2, on 3)

  -- ---- each of them has the same bytes

  of-same : (n p : ℕ) → Memᴰ p (level s n) → (q : ℕ) → Memᴰ q (asked_of s k p) → bytes_at s' q ≡ bytes_at s q
  unfolding asked_of
  of-same n p on q m =
      ⊎_elim
      (λ x. let r = member-map (λ l. l.place) (keep (range_holds k) (reverse (links s p))) q x in
      let l = member-reverse r.0 (links s p) (member-keep (range_holds k) (reverse (links s p)) r.0 r.1) in
      rw r.2 (linked-bytes s s' S a p r.0 l))
      (λ x. itself x)
      (Memᴰ.append_cases (map (λ l. l.place) (keep (range_holds k) (reverse (links s p)))) m)
    where
      none_left : Memᴰ q [] → bytes_at s' q ≡ bytes_at s q
      none_left y = absurd (elim y [ ])

      itself : Memᴰ q (p ∷ []) → bytes_at s' q ≡ bytes_at s q
      itself x = ⊎_elim (λ e. rw e (listed-bytes s s' S a n p on)) none_left (Memᴰ.cases_cons x)

  on_same : (n : ℕ) (ps : List ℕ) → ((p : ℕ) → Memᴰ p ps → Memᴰ p (level s n)) → (q : ℕ) → Memᴰ q (asked_on s k ps) → bytes_at s' q ≡ bytes_at s q
  unfolding asked_on
  on_same n [] h q m = absurd (elim m [ ])
  on_same n (p ∷ ps) h q m =
      let rest = on_same n ps (λ x y. h x (Memᴰ.tail y)) q in
      cases (span_holds s p k)
      (λ b. ⊎_elim (of-same n p (h p (Memᴰ.head refl)) q) rest (Memᴰ.append_cases (asked_of s k p) (rw b at m)))
      (λ b. rest (rw b at m))

  asked-same : (q : ℕ) → Memᴰ q (asked s k) → bytes_at s' q ≡ bytes_at s q
  unfolding asked
  asked-same q m =
      let on : (n : ℕ) → Memᴰ q (asked_on s k (level s n)) → bytes_at s' q ≡ bytes_at s q = λ n. on_same n (level s n) (λ p x. x) q in
      ⊎_elim (λ x. listed-bytes s s' S a 0 q (member-reverse q (level s 0) x))
      (λ x. ⊎_elim (on 1) (λ y. ⊎_elim (on 2) (on 3) (Memᴰ.append_cases (asked_on s k (level s 2)) y))
      (Memᴰ.append_cases (asked_on s k (level s 1)) x))
      (Memᴰ.append_cases (reverse (level s 0)) m)

  -- ---- what is opened

  pub opened-alike : opened s' k ≡ opened s k
  unfolding opened
  opened-alike =
      ap (λ es. cond (is_some (find k es)) [] (opened_of s' k (asked s' k))) a.same_memory
      ∙ ap (λ ps. cond (is_some (find k s.memory)) [] ps)
      (ap (opened_of s' k) asked-alike ∙ opened_of-same s s' k (asked s k) (unfold Same in asked-same))

  pub bits-alike : bits_in s' (opened s k) ≡ bits_in s (opened s k)
  unfolding opened
  bits-alike =
      cases (is_some (find k s.memory))
      (λ q. rw q)
      (λ q. rw q
      (bits-same s s' k (opened_of s k (asked s k)) (unfold Same in (λ p m. asked-same p (opened-member s s' k (asked s k) p m)))))
