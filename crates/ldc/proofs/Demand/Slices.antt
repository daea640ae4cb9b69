-- The slice list tracks the store: a table's links are the slices that hang on its place, oldest first, and a frozen place has the bytes that it held
-- when it was linked. Each step changes links and list alike.
use Prim.Native.Nat.{ℕ}
use mathlib.Core.Path.{◌≡◌, refl, sym, ◌∙◌, ap}
use mathlib.Core.List.Memᴰ
use mathlib.Core.List.{List, [], ◌∷◌, map, Memᴰ}
use mathlib.Core.Bool.{Bool, true, false}
use mathlib.Core.Logic.{⊎_elim}
use borrow.Author.Tests.{eqb-true, eq-eqb}
use lib.Dec.{eqb}
use Rattle.ldc.specs.Lists.{any, keep}
use Rattle.ldc.specs.Store.{Link, Store, card, links, is_free, is_frozen, bytes_at}
use Rattle.ldc.specs.Rules.{named}
use Rattle.ldc.specs.History.{Unmerged, hangs_on, link_of}
use Rattle.ldc.proofs.Basics.Cases.{cases}
use Rattle.ldc.proofs.Stores.CardFacts.{frozen-not-free}
use Rattle.ldc.proofs.Stores.Naming.{any-intro, any-elim, named-intro, named-elim, agree}
use Rattle.ldc.proofs.Stores.Sound.{Sound}
use Rattle.ldc.proofs.Steps.StepFacts.{keep-member}
use Rattle.ldc.proofs.Stores.Written.{map-member, member-map}

pub record Tracks (s : Store) (us : List Unmerged) : Type 0 where
  pub carried : (q : ℕ) → links s q ≡ map link_of (keep (hangs_on q) us)
  pub kept : (u : Unmerged) → Memᴰ u us → bytes_at s u.slice.place ≡ u.held

-- ---- frozen exactly while the list names the place

keep-intro : {A : Type 0} (t : A → Bool) (x : A) (xs : List A) → Memᴰ x xs → t x ≡ true → Memᴰ x (keep t xs)
keep-intro t x [] m h = absurd (elim m [ ])
keep-intro t x (y ∷ ys) m h =
    ⊎_elim
    (λ e. let ty : t y ≡ true = rw e at h in rw ty (Memᴰ.head e))
    (λ r. cases (t y) (λ q. rw q (Memᴰ.tail (keep-intro t x ys r h))) (λ q. rw q (keep-intro t x ys r h)))
    (Memᴰ.cases_cons m)

module _ (s : Store) (us : List Unmerged) (T : Tracks s us) where
  -- a slice of the list is a link of the table that it hangs on
  pub slice_link : (u : Unmerged) → Memᴰ u us → Memᴰ (link_of u) (links s u.slice.on)
  slice_link u m =
      rw (T.carried u.slice.on)
      (map-member link_of u (keep (hangs_on u.slice.on) us) (keep-intro (hangs_on u.slice.on) u us m (eq-eqb u.slice.on u.slice.on refl)))

  -- and a link is a slice of the list
  pub link-slice : (q : ℕ) (l : Link) → Memᴰ l (links s q) → (u : Unmerged) × (Memᴰ u us × (l ≡ link_of u))
  link-slice q l m =
      let w = member-map link_of l (keep (hangs_on q) us) (rw (T.carried q) at m) in
      (w.0, ((keep-member (hangs_on q) us w.0 w.1.0).0, w.1.1))

  pub list-names : (p : ℕ) → named s p ≡ any (λ u. eqb u.slice.place p) us
  list-names p =
      agree (named s p) (any (λ u. eqb u.slice.place p) us)
      (λ h. let w = named-elim s p h in
      let u = link-slice w.0 w.1.0 w.1.1.0 in
      any-intro (λ x. eqb x.slice.place p) us u.0 u.1.0
      (eq-eqb u.0.slice.place p (ap (λ (l : Link). l.place) (sym u.1.1) ∙ w.1.1.1)))
      (λ h. let w = any-elim (λ x. eqb x.slice.place p) us h in
      named-intro s p w.0.slice.on (link_of w.0) (slice_link w.0 w.1.0) (eqb-true w.0.slice.place p w.1.1))

  module _ (S : Sound s) where
    pub slice-frozen : (u : Unmerged) → Memᴰ u us → is_frozen (card s u.slice.place) ≡ true
    slice-frozen u m = S.naming u.slice.place ∙ named-intro s u.slice.place u.slice.on (link_of u) (slice_link u m) refl

    -- a change that leaves all links and all frozen bytes leaves what the list tracks
    pub same-tracks : (s' : Store) → ((q : ℕ) → links s' q ≡ links s q) → ((q : ℕ) → is_free (card s q) ≡ false → bytes_at s' q ≡ bytes_at s q) → Tracks s' us
    same-tracks s' a b = record {
      carried = λ q. a q ∙ T.carried q;
      kept = λ u m. b u.slice.place (frozen-not-free (card s u.slice.place) (slice-frozen u m)) ∙ T.kept u m;
    }
