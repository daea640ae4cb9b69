-- A store over more places than before, the added ones free, is the same store. Cards agree everywhere, since those beyond the last are free
-- either way; lists, marks and memory stay; the bytes of places that are not free are the same. All that is said of a store speaks of these.
use Prim.Native.Nat.{ℕ, zero, suc, ◌-◌, ◌≤◌, ◌<◌}
use mathlib.Core.Path.{◌≡◌, refl, sym, ◌∙◌, ap, ap₂}
use mathlib.Core.List.{List, [], ◌∷◌, ◌++◌, map, reverse, Memᴰ}
use mathlib.Core.Bool.{true, false}
use native.Mathlib.Omega.{arith}
use lib.ListN.{length, get_or, replicate, length-append, length-replicate}
use Rattle.table.specs.Entry.{Entry}
use Rattle.table.specs.Limits.{place_size}
use Rattle.ldc.specs.Store.{Link, Card, free, Store, size, card, links, is_free, bytes_at, table, level, mark, sources}
use Rattle.ldc.specs.Rules.{times_listed, link_good, hung_on}
use Rattle.ldc.specs.Layout.{most_places}
use Rattle.ldc.specs.Read.{read_order}
use Rattle.ldc.specs.History.{Unmerged}
use Rattle.ldc.proofs.Basics.Replaced.{member-reverse}
use Rattle.ldc.proofs.Stores.CardFacts.{live-not-free, frozen-not-free}
use Rattle.ldc.proofs.Stores.Facts.{cursor-sound, threshold-sound, rule_a-of, listed-live, link-frozen}
use Rattle.ldc.proofs.Stores.Fits.{Fits}
use Rattle.ldc.proofs.Stores.Frame.{map-cong, table_same, link_good-same, sources-same, spans_rise-same, hung_in-same}
use Rattle.ldc.proofs.Stores.Naming.{named-same}
use Rattle.ldc.proofs.Stores.Sound.{TablePlace, Sound, Whole}
use Rattle.ldc.proofs.Serving.Alike.{Alike}
use Rattle.ldc.proofs.Demand.Mirror.{Mirrors}
use Rattle.ldc.proofs.Demand.Slices.{Tracks, same-tracks}
use Rattle.saved_book.specs.Opened.{grown_over}

-- Places that a store may grow over: at least as many, and not-free ones with its bytes.
pub record Holding (places : List (List ℕ)) (s : Store) : Type 0 where
  pub enough : size s ≤ length places
  pub most : length places ≤ most_places
  pub bytes : (p : ℕ) → is_free (card s p) ≡ false → get_or places p [] ≡ bytes_at s p

-- Free cards behind the last change no card.
free-behind : (n p : ℕ) → get_or (replicate n free) p free ≡ free
free-behind zero p = refl
free-behind (suc n) zero = refl
free-behind (suc n) (suc p) = free-behind n p

card-behind : (cs : List Card) (n p : ℕ) → get_or (cs ++ replicate n free) p free ≡ get_or cs p free
card-behind [] n p = free-behind n p
card-behind (c ∷ cs) n zero = refl
card-behind (c ∷ cs) n (suc p) = card-behind cs n p

module _ (s : Store) (places : List (List ℕ)) where
  -- ---- what stands where

  pub grown-card : (p : ℕ) → card (grown_over places s) p ≡ card s p
  unfolding card grown_over
  grown-card p = card-behind s.cards (length places - size s) p

  pub grown-links : (p : ℕ) → links (grown_over places s) p ≡ links s p
  unfolding links
  grown-links p = rw (grown-card p)

  pub grown-level : (n : ℕ) → level (grown_over places s) n ≡ level s n
  unfolding level grown_over
  grown-level n = refl

  pub grown-mark : (n : ℕ) → mark (grown_over places s) n ≡ mark s n
  unfolding mark grown_over
  grown-mark zero = refl
  grown-mark (suc n) = refl

  pub grown-size : size s ≤ length places → size (grown_over places s) ≡ length places
  unfolding size grown_over
  grown-size h =
      length-append s.cards (replicate (length places - size s) free)
      ∙ omega (arith, length-replicate (length places - size s) free)

  pub grown-fits : Fits s → Fits (grown_over places s)
  grown-fits f = record {
    marks = unfold grown_over in f.marks;
    links = λ p l m. f.links p l (rw (grown-links p) at m);
  }

  module _ (S : Sound s) (h : Holding places s) where
    pub grown-bytes : (p : ℕ) → is_free (card s p) ≡ false → bytes_at (grown_over places s) p ≡ bytes_at s p
    unfolding bytes_at grown_over
    grown-bytes p f = h.bytes p f

    listed-bytes : (n p : ℕ) → Memᴰ p (level s n) → bytes_at (grown_over places s) p ≡ bytes_at s p
    listed-bytes n p m = grown-bytes p (live-not-free (card s p) (listed-live s S n p m))

    linked-free : (p : ℕ) (l : Link) → Memᴰ l (links s p) → is_free (card s l.place) ≡ false
    linked-free p l m = frozen-not-free (card s l.place) (link-frozen s S p l m)

    -- ---- sound

    grown-hung : (p : ℕ) (l : Link) → Memᴰ l (links (grown_over places s) p) → link_good (grown_over places s) l ≡ true
    grown-hung p l m =
        let m' : Memᴰ l (links s p) = rw (grown-links p) at m in
        link_good-same s (grown_over places s) l (grown-card l.place) (grown-bytes l.place (linked-free p l m')) ∙ S.hung p l m'

    grown-hung_on : (n : ℕ) → hung_on (grown_over places s) n ≡ hung_on s n
    unfolding hung_on
    grown-hung_on n = rw (grown-level n) (hung_in-same s (grown_over places s) n (level s n) (λ p _. grown-links p))

    grown-tables : (p : ℕ) → is_free (card (grown_over places s) p) ≡ false → TablePlace (bytes_at (grown_over places s) p)
    grown-tables p f =
        let f' : is_free (card s p) ≡ false = rw (grown-card p) at f in
        rw (grown-bytes p f') (S.tables p f')

    pub grown-sound : Sound (grown_over places s)
    grown-sound = record {
      fewest = omega (arith, S.fewest, h.enough, grown-size h.enough);
      most = rw (grown-size h.enough) h.most;
      placed = rw (grown-size h.enough) (unfold grown_over in refl);
      four = unfold grown_over in S.four;
      two = unfold grown_over in S.two;
      rule_a-kept = rule_a-of (grown_over places s)
          (unfold grown_over in threshold-sound s S.rule_a-kept)
          (rw (grown-size h.enough) (unfold grown_over in (omega (arith, cursor-sound s S.rule_a-kept, h.enough))));
      listed = λ p. rw (grown-card p) (unfold times_listed grown_over in S.listed p);
      tables = grown-tables;
      memory = unfold grown_over in S.memory;
      bare = λ p m. grown-links p ∙ S.bare p (rw (grown-level 0) at m);
      few = λ p. rw (grown-links p) (unfold grown_over in S.few p);
      hung = grown-hung;
      disjoint = rw (grown-hung_on 1, grown-hung_on 2, grown-hung_on 3) S.disjoint;
      naming = λ p. rw (grown-card p, named-same s (grown_over places s) p grown-links) (S.naming p);
      rising = λ n. rw (grown-level (suc n))
          (spans_rise-same s (grown_over places s) (level s (suc n)) (λ p m. (grown-links p, listed-bytes (suc n) p m)) ∙ S.rising n);
    }

    -- Places of 1,024 bytes each.
    pub grown-whole : ((p : ℕ) → p < length places → length (get_or places p []) ≡ place_size) → Whole (grown_over places s)
    unfolding bytes_at grown_over
    grown-whole w p b = w p (rw (grown-size h.enough) at b)

    -- ---- the same answers, and the same slices

    grown-newest : map (table (grown_over places s)) (reverse (level s 0)) ≡ map (table s) (reverse (level s 0))
    grown-newest =
        map-cong (table (grown_over places s)) (table s) (reverse (level s 0))
        (λ p m. table_same s (grown_over places s) p (listed-bytes 0 p (member-reverse p (level s 0) m)))

    grown-sources : (n : ℕ) → map (sources (grown_over places s)) (level s n) ≡ map (sources s) (level s n)
    grown-sources n =
        map-cong (sources (grown_over places s)) (sources s) (level s n)
        (λ p m. sources-same s (grown_over places s) p (grown-links p) (listed-bytes n p m) (λ l k. grown-bytes l.place (linked-free p l k)))

    pub grown-read_order : read_order (grown_over places s) ≡ read_order s
    unfolding read_order
    grown-read_order =
        rw (grown-level 0, grown-level 1, grown-level 2, grown-level 3, grown-newest, grown-sources 1, grown-sources 2, grown-sources 3)
        (unfold grown_over in refl)

    pub grown-mirrors : (m : List Entry) → Mirrors s m → Mirrors (grown_over places s) m
    grown-mirrors m M = record { values = λ k. rw grown-read_order (M.values k); keys = M.keys; held = M.held }

    pub grown-tracks : (us : List Unmerged) → Tracks s us → Tracks (grown_over places s) us
    grown-tracks us T = same-tracks s us T S (grown_over places s) grown-links grown-bytes

-- ---- stores that are alike

-- Over as many places each, both with the bytes of those that are not free.
module _ (s s' : Store) (places places' : List (List ℕ))
    (kept : (p : ℕ) → is_free (card s p) ≡ false → get_or places p [] ≡ bytes_at s p)
    (kept' : (p : ℕ) → is_free (card s p) ≡ false → get_or places' p [] ≡ bytes_at s p) where
  alike-bytes : (p : ℕ) → is_free (card s p) ≡ false → bytes_at (grown_over places' s') p ≡ bytes_at (grown_over places s) p
  unfolding bytes_at grown_over
  alike-bytes p f = kept' p f ∙ sym (kept p f)

  pub grown-alike : Alike s s' → length places' ≡ length places → Alike (grown_over places s) (grown_over places' s')
  grown-alike a many = record {
    same-threshold = unfold grown_over in a.same-threshold;
    same-cursor = unfold grown_over in a.same-cursor;
    same-marks = unfold grown_over in a.same-marks;
    same-levels = unfold grown_over in a.same-levels;
    same-cards = unfold grown_over size in ap₂ (λ cs n. cs ++ replicate n free) a.same-cards (ap₂ (λ m n. m - n) many (ap length a.same-cards));
    same_memory = unfold grown_over in a.same_memory;
    as_many = unfold grown_over in many;
    same_bytes = λ p f. alike-bytes p (rw (grown-card s places p) at f);
  }
