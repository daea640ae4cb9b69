-- A new store is sound: every card is free, so no place holds a table, no list an item and no card a link. Made over lent memory of
-- good sizes, its places are whole, being the parts of the area.
use Prim.Native.Nat.{ℕ, zero, suc, ◌≤◌, ◌<◌}
use mathlib.Core.Path.{◌≡◌, refl, sym}
use mathlib.Core.List.Memᴰ
use mathlib.Core.List.{List, [], ◌∷◌, map}
use mathlib.Core.Bool.{true, false}
use native.Mathlib.Omega.{arith}
use borrow.Author.Tests.{lt-ltb}
use lib.Dec.{eqb}
use lib.ListN.{length, length-map, get_or-map}
use Rattle.table.specs.Limits.{place_size}
use Rattle.ldc.specs.Lists.{any}
use Rattle.ldc.specs.Store.{free, new_store, size, card, links, links_of, bytes_at, level}
use Rattle.ldc.specs.Rules.{threshold_good, rule_a, times_listed, hung_on, named}
use Rattle.ldc.specs.Lent.{Lent, sizes_good, places_in, chop, lent_of}
use Rattle.ldc.specs.Run.{make}
use Rattle.ldc.specs.Layout.{most_places, fewest_places}
use Rattle.ldc.proofs.Basics.Cases.{clash}
use Rattle.ldc.proofs.Stores.Sound.{Sound, Whole}
use Rattle.ldc.proofs.Basics.ListLaws.{parts, length-parts, each_part}
use Rattle.ldc.proofs.Lent.Round.{chop-parts}
use Rattle.ldc.proofs.Lent.Shows.{sizes}

none_named : (places : List (List ℕ)) (p : ℕ) → any (λ c. any (λ l. eqb l.place p) (links_of c)) (map (λ _. free) places) ≡ false
none_named [] p = refl
none_named (b ∷ places) p = none_named places p

module _ (t : ℕ) (places : List (List ℕ)) where
  pub new-size : size (new_store t places) ≡ length places
  unfolding size new_store
  new-size = length-map places (λ _. free)

  pub new-card : (p : ℕ) → card (new_store t places) p ≡ free
  unfolding card new_store
  new-card p = get_or-map (λ _. free) places p []

  pub new-links : (p : ℕ) → links (new_store t places) p ≡ []
  unfolding links
  new-links p = rw (new-card p)

  pub new-level : (n : ℕ) → level (new_store t places) n ≡ []
  unfolding level new_store
  new-level zero = refl
  new-level (suc zero) = refl
  new-level (suc (suc zero)) = refl
  new-level (suc (suc (suc zero))) = refl
  new-level (suc (suc (suc (suc n)))) = refl

  pub new-sound : fewest_places ≤ length places → length places ≤ most_places → threshold_good t ≡ true → Sound (new_store t places)
  new-sound few many good = record {
    fewest = rw new-size few;
    most = rw new-size many;
    placed = rw new-size (unfold new_store in refl);
    four = unfold new_store in refl;
    two = unfold new_store in refl;
    rule_a-kept = unfold rule_a new_store in (rw (good, lt-ltb 0 (size (new_store t places)) (omega (arith, new-size))));
    listed = λ p. rw (new-card p) (unfold times_listed new_store in refl);
    tables = λ p h. clash refl (rw (new-card p) at h);
    memory = unfold new_store in (record { keys = omega arith; values = tt; few = omega arith });
    bare = λ p m. new-links p;
    few = λ p. rw (new-links p) (omega arith);
    hung = λ p l m. absurd (Memᴰ.not-nil (rw (new-links p) at m));
    disjoint = unfold hung_on level new_store in refl;
    naming = λ p. rw (new-card p) (sym (unfold named new_store in none_named places p));
    rising = λ n. rw (new-level (suc n));
  }

-- ---- made over lent memory

module _ (m : Lent) (t : ℕ) (z : sizes_good m ≡ true) where
  pub made : threshold_good t ≡ true → (make m t).lent ≡ lent_of (new_store t (chop (places_in m.area) m.area))
  unfolding make
  made good = rw (z, good)

  made-length : length (chop (places_in m.area) m.area) ≡ places_in m.area
  made-length = rw chop-parts (length-parts place_size (places_in m.area) m.area)

  pub made-sound : threshold_good t ≡ true → Sound (new_store t (chop (places_in m.area) m.area))
  made-sound good =
      new-sound t (chop (places_in m.area) m.area)
      (omega (arith, made-length, (sizes m z).fewest)) (omega (arith, made-length, (sizes m z).most)) good

  pub made-whole : Whole (new_store t (chop (places_in m.area) m.area))
  unfolding bytes_at new_store
  made-whole p h =
      let near : p < length (parts place_size (places_in m.area) m.area) =
      omega (arith, made-length, new-size t (chop (places_in m.area) m.area), length-parts place_size (places_in m.area) m.area) in
      rw chop-parts (each_part place_size (places_in m.area) m.area (sizes m z).area p near)
