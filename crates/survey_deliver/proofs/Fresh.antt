-- The program's new store: sound and whole, and what making a store leaves of memory that is all zero.
use Prim.Native.Nat.{ℕ, ◌*◌, ◌≤◌, ◌<◌}
use mathlib.Core.Path.{◌≡◌, refl, ◌∙◌, ap}
use mathlib.Core.Bool.{true}
use mathlib.Core.List.{List}
use native.Mathlib.Omega.{arith}
use lib.Dec.{lit≤}
use lib.ListN.{length}
use Rattle.table.specs.Limits.{place_size}
use Rattle.table.specs.Table.{zeros}
use Rattle.table.proofs.Zeros.{length-zeros}
use Rattle.ldc.specs.Store.{new_store, bytes_at}
use Rattle.ldc.specs.Rules.{threshold_good}
use Rattle.ldc.specs.Lent.{Lent, sizes_good, places_in, chop, lent_of}
use Rattle.ldc.specs.Run.{Made, make}
use Rattle.ldc.proofs.Stores.Sound.{Sound, Whole}
use Rattle.ldc.proofs.Stores.New.{new-size, new-sound}
use Rattle.ldc.proofs.Stores.New as New
use Rattle.ldc.proofs.Basics.ListLaws.{parts, length-parts, each_part}
use Rattle.ldc.proofs.Lent.Round.{chop-parts}
use Rattle.ldc.specs.Layout.{most_places, fewest_places}
use Rattle.book.specs.Made.{made}
use Rattle.survey_deliver.specs.Whole.{program_threshold, new_one}

module _ (t n : ℕ) (area : List ℕ) (l : length area ≡ n * place_size) where
  places : length (chop n area) ≡ n
  places = rw chop-parts (length-parts place_size n area)

  sound-new : fewest_places ≤ n → n ≤ most_places → threshold_good t ≡ true → Sound (new_store t (chop n area))
  sound-new few many good = new-sound t (chop n area) (omega (arith, places)) (omega (arith, places)) good

  whole-new : Whole (new_store t (chop n area))
  unfolding bytes_at new_store
  whole-new p h =
      let near : p < length (parts place_size n area) = omega (arith, places, new-size t (chop n area), length-parts place_size n area) in
      rw chop-parts (each_part place_size n area l p near)

four-good : threshold_good 4 ≡ true
unfolding threshold_good
four-good = refl

pub sound-one : Sound new_one
unfolding new_one
sound-one = sound-new 4 32 (zeros 32768) (length-zeros 32768) (lit≤ tt) (lit≤ tt) four-good

pub whole-one : Whole new_one
unfolding new_one
whole-one = whole-new 4 32 (zeros 32768) (length-zeros 32768)

-- ---- made

sized : (m : Lent) → length m.area ≡ 32768 → length m.cards ≡ 32 → length m.lists ≡ 128 → sizes_good m ≡ true
unfolding sizes_good places_in
sized m a c l = rw (a, c, l)

thirty_two : (area : List ℕ) → length area ≡ 32768 → places_in area ≡ 32
unfolding places_in
thirty_two area a = rw a

same_new : (t n k : ℕ) (x y : List ℕ) → n ≡ k → x ≡ y → lent_of (new_store t (chop n x)) ≡ lent_of (new_store t (chop k y))
same_new t n k x y e f = ap (λ (i : ℕ). lent_of (new_store t (chop i x))) e ∙ ap (λ (z : List ℕ). lent_of (new_store t (chop k z))) f

-- With the program's threshold the store made is the program's.
pub made_one : (m m' : Lent) (number t : ℕ) → made number m' ≡ make m t → t ≡ program_threshold
    → m.area ≡ zeros 32768 → length m.cards ≡ 32 → length m.lists ≡ 128 → m' ≡ lent_of new_one
unfolding new_one
made_one m m' number t e four a c l =
    let long : length m.area ≡ 32768 = ap length a ∙ length-zeros 32768 in
    ap (λ (x : Made). x.lent) (e ∙ ap (make m) four) ∙ New.made m 4 (sized m long c l) four-good
    ∙ same_new 4 (places_in m.area) 32 m.area (zeros 32768) (thirty_two m.area long) a
