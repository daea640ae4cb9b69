-- Saving the memory of a sound store and opening the bytes over other lent memory: both give 0, and what is lent then is the memory of the store
-- grown over the other places (`saved_book`). A grown store answers as before and carries the same slices, so it agrees with the start as
-- before, once the store of the start has as many free places more.
use Prim.Native.Nat.{ℕ, zero, suc, ◌-◌, ◌≤◌}
use mathlib.Core.Path.{◌≡◌, refl, sym, ◌∙◌, ap}
use mathlib.Core.List.{List, [], ◌∷◌, ◌++◌}
use mathlib.Core.Bool.{false}
use native.Mathlib.Omega.{arith}
use borrow.Author.Tests.{le-ltb}
use lib.ListN.{length, get_or, replicate, length-append, length-replicate}
use Rattle.coding.proofs.Sets.{part_same}
use Rattle.ldc.specs.Store.{Store, size, card, is_free, bytes_at}
use Rattle.ldc.specs.Lent.{Lent, places_in, store_of, lent_of}
use Rattle.ldc.specs.Run.{accepted}
use Rattle.ldc.specs.History.{Start}
use Rattle.ldc.proofs.Lent.Round.{places-lent_of, sizes-lent_of, store_of-lent_of}
use Rattle.ldc.proofs.Lent.Rules.{kept-lent_of}
use Rattle.ldc.proofs.Lent.Shows.{sizes}
use Rattle.ldc.proofs.Serving.Alike.{Alike, size-alike}
use Rattle.ldc.proofs.Stores.Sound.{Sound, Whole}
use Rattle.ldc.proofs.Demand.Starts.{Starts, Leads}
use Rattle.saved_book.specs.Saved.{saved_bytes}
use Rattle.saved_book.specs.Opened.{grown_over}
use Rattle.saved_book.specs.Calls.{save_book, accepted_save, opening, open_book}
use Rattle.saved_book.proofs.Grows.{Holding, grown-fits, grown-mirrors, grown-tracks, grown-alike}
use Rattle.saved_book.proofs.Opens.{places_of, bytes-shown, length-places, opened-sound, opened-whole, opens}
use Rattle.saved_history.specs.History.{reopened, saved_in, after_act, with_free, start_past, Carried, Opened}

-- ---- saving

module _ (s : Store) (S : Sound s) (W : Whole s) (buffer : List ℕ) (room : length (saved_bytes s) ≤ length buffer) where
  saves : save_book (lent_of s) buffer ≡ accepted_save (saved_bytes s) buffer
  unfolding save_book
  saves = rw (sizes-lent_of s S W, kept-lent_of s S W, store_of-lent_of s S W, le-ltb (length buffer) (length (saved_bytes s)) room)

  saved-there : saved_in (lent_of s) buffer ≡ saved_bytes s
  unfolding saved_in
  saved-there = rw saves (part_same buffer 0 (saved_bytes s) (omega arith))

-- ---- the start

-- Places with no bytes behind the last change no place.
none-behind : (n p : ℕ) → get_or {A = List ℕ} (replicate n []) p [] ≡ []
none-behind zero p = refl
none-behind (suc n) zero = refl
none-behind (suc n) (suc p) = none-behind n p

place-behind : (xs : List (List ℕ)) (n p : ℕ) → get_or (xs ++ replicate n []) p [] ≡ get_or xs p []
place-behind [] n p = none-behind n p
place-behind (x ∷ xs) n zero = refl
place-behind (x ∷ xs) n (suc p) = place-behind xs n p

-- A store with free places added, beside one over other places, as many.
module _ (s s' : Store) (S : Sound s) (a : Alike s s') (places : List (List ℕ)) (h : Holding places s) where
  added-length : length (s'.places ++ replicate (length places - size s') []) ≡ length places
  added-length =
      length-append s'.places (replicate (length places - size s') [])
      ∙ omega (arith, length-replicate {A = List ℕ} (length places - size s') [], a.as_many, S.placed, size-alike s s' a, h.enough)

  added-bytes : (p : ℕ) → is_free (card s p) ≡ false → get_or (s'.places ++ replicate (length places - size s') []) p [] ≡ bytes_at s p
  added-bytes p f = place-behind s'.places (length places - size s') p ∙ (unfold bytes_at in a.same_bytes p f)

  alike-free : (n : ℕ) → n ≡ length places → Alike (grown_over places s) (with_free n s')
  unfolding with_free
  alike-free n e = rw e (grown-alike s s' places (s'.places ++ replicate (length places - size s') []) h.bytes added-bytes a added-length)

module _ (x : Start) (m : Lent) (k : Starts x m) (buffer : List ℕ) (onto : Lent) (c : Carried m buffer onto) where
  abbrev s : Store
  s = k.shown

  abbrev places : List (List ℕ)
  places = places_of onto

  same_store : store_of m ≡ s
  same_store = ap store_of k.lent ∙ store_of-lent_of s k.sound k.whole

  room : length (saved_bytes s) ≤ length buffer
  room = rw same_store at c.room

  held : (p : ℕ) → is_free (card s p) ≡ false → get_or places p [] ≡ bytes_at s p
  held p f =
      let given : is_free (card s p) ≡ false → bytes_at (store_of onto) p ≡ bytes_at s p = rw same_store at (c.held p) in
      sym (bytes-shown onto p) ∙ given f

  holding : Holding places s
  holding = record {
    enough = omega (arith, c.more, ap (λ (n : Lent). places_in n.area) k.lent, places-lent_of s k.sound k.whole, length-places onto);
    most = omega (arith, length-places onto, (sizes onto c.sizes).most);
    bytes = held;
  }

  saving : save_book m buffer ≡ accepted_save (saved_bytes s) buffer
  saving = ap (λ (n : Lent). save_book n buffer) k.lent ∙ saves s k.sound k.whole buffer room

  opened : open_book onto (saved_in m buffer) ≡ opening accepted (lent_of (grown_over places s))
  opened =
      ap (λ (n : Lent). open_book onto (saved_in n buffer)) k.lent
      ∙ ap (open_book onto) (saved-there s k.sound k.whole buffer room)
      ∙ opens s k.sound k.fits onto c.sizes holding

  pub both-accepted : Opened m (reopened buffer onto)
  both-accepted = (ap (λ o. o.number) saving, ap (λ o. o.number) opened)

  reopened-starts : Starts (start_past x m (reopened buffer onto)) (after_act m (reopened buffer onto))
  unfolding start_past
  reopened-starts = record {
    shown = grown_over places s;
    lent = ap (λ o. o.lent) opened;
    sound = opened-sound s k.sound k.fits onto c.sizes holding;
    whole = opened-whole s k.sound k.fits onto c.sizes holding;
    fits = grown-fits s places k.fits;
    mirrors = grown-mirrors s places k.sound holding x.values k.mirrors;
    tracks = grown-tracks s places k.sound holding x.slices k.tracks;
    alike = alike-free s x.store k.sound k.alike places holding (places_in onto.area) (sym (length-places onto));
  }

  pub reopened-leads : Leads x [] (start_past x m (reopened buffer onto)) (after_act m (reopened buffer onto))
  reopened-leads = record {
    answered = tt;
    starts = reopened-starts;
    values = unfold start_past in refl;
    threshold = unfold start_past with_free grown_over in refl;
  }
