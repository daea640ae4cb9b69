-- Demand 3 of what is there at the end. What `demand3-new` takes for granted is had: sizes and threshold from the number of making the store, the
-- bytes of the lists from the bytes of the input.
use Prim.Native.Nat.{ℕ, zero, suc, ◌-◌}
use mathlib.Core.Path.{◌≡◌, refl, sym, ◌∙◌, ap}
use mathlib.Core.Bool.{true}
use mathlib.Core.List.Memᴰ
use mathlib.Core.List.{List, [], Memᴰ}
use mathlib.Core.Logic.{⊎_elim}
use native.Mathlib.Omega.{arith}
use lib.ListN.{length, get_or, drop, replicate, length-replicate}
use Rattle.coding.specs.Number.{Bytes}
use Rattle.coding.proofs.NumberLaws.{bytes_take, bytes_drop}
use Rattle.ldc.specs.Rules.{threshold_good}
use Rattle.ldc.specs.Lent.{Lent, places_in, sizes_good}
use Rattle.ldc.specs.Run.{Made, make}
use Rattle.ldc.specs.History.{Call, Event, events, lent_after, Start, new_start, start_after, Holds, Demand3}
use Rattle.ldc.proofs.Basics.Cases.{cases}
use Rattle.ldc.proofs.Demand.Demand3.{demand3-new}
use Rattle.book.specs.Made.{made}
use Rattle.history_lists.specs.Pieces.{Pieces, start_of, piece, Runs, call_at, calls_in, events_in}
use Rattle.history_lists.specs.Performs.{Ran, Joined, Performs}

-- ---- bytes

piece_bytes : (bytes ends : List ℕ) (k : ℕ) → Bytes bytes → Bytes (piece bytes ends k)
unfolding piece
piece_bytes bytes ends k b = bytes_take (get_or ends k 0 - start_of ends k) (drop (start_of ends k) bytes) (bytes_drop (start_of ends k) bytes b)

call-bytes : (p : Pieces) (k : ℕ) → Bytes p.input → Bytes (call_at p k).list
unfolding call_at
call-bytes p k b = piece_bytes p.input p.ends k b

pub calls-bytes : (p : Pieces) (n : ℕ) → Bytes p.input → (c : Call) → Memᴰ c (calls_in p n) → Bytes c.list
calls-bytes p zero b c i = absurd (Memᴰ.not-nil i)
calls-bytes p (suc k) b c i =
    ⊎_elim (λ l. calls-bytes p k b c l) (λ r. let e : c ≡ call_at p k = Memᴰ.eq_of_singleton r in λ j. rw e (call-bytes p k b j))
    (Memᴰ.append_cases (calls_in p k) i)

-- ---- what the number of making a store says

module _ (m : Lent) (t : ℕ) where
  made-sizes : (make m t).number ≡ 0 → sizes_good m ≡ true
  unfolding make
  made-sizes h = cases (sizes_good m) (λ z. z) (λ z. let h' = rw z at h in absurd (omega arith))

  made-threshold : (make m t).number ≡ 0 → threshold_good t ≡ true
  unfolding make
  made-threshold h =
      let z = made-sizes h in
      cases (threshold_good t) (λ g. g) (λ g. let h' = rw (z, g) at h in absurd (omega arith))

  made-refused : ((make m t).number ≡ 0 → ⊥) → (make m t).lent ≡ m
  unfolding make
  made-refused h =
      cases (sizes_good m)
      (λ z. cases (threshold_good t) (λ g. absurd (h (rw (z, g)))) (λ g. rw (z, g)))
      (λ z. rw z)

-- ---- demand 3

-- Over other names for what is lent at the end, the events and the numbers.
held : (x : Start) (m : Lent) (calls : List Call) → Demand3 x m calls
    → (m' : Lent) → m' ≡ lent_after m calls → (es : List Event) → es ≡ events m calls
    → Holds x es (start_after x es).slices m'
held x m calls d m' l es e = rw (l, e) d.holds

module _ (m : Lent) (t : ℕ) (p : Pieces) (n : ℕ) (m' : Lent) (p' : Pieces) (number : ℕ) (m₁ : Lent) (e : made number m₁ ≡ make m t) where
  number_same : number ≡ (make m t).number
  number_same = ap (λ (x : Made). x.number) e

  lent_same : m₁ ≡ (make m t).lent
  lent_same = ap (λ (x : Made). x.lent) e

  joined : number ≡ 0 → Bytes p.input → Runs (length p.input) p.ends (length p.answers) p.stops (length p.served) n → Ran m₁ p 0 n m' p' → Joined m t p n m' p'
  joined h b rs r =
      let zero_number : (make m t).number ≡ 0 = sym number_same ∙ h in
      let r' : Ran (make m t).lent p 0 n m' p' = rw (← lent_same) r in
      let d : (places : List (List ℕ)) → length places ≡ places_in m.area → Demand3 (new_start t places) (make m t).lent (calls_in p n) =
      λ places k. demand3-new m t (calls_in p n) places (made-sizes m t zero_number) (made-threshold m t zero_number) (calls-bytes p n b) k in
      let some-places : List (List ℕ) = replicate (places_in m.area) [] in
      record {
        runs = rs;
        ran = r';
        complete = ap length r'.read ∙ (d some-places (length-replicate (places_in m.area) [])).complete ∙ omega (arith, r'.counted);
        holds = λ places k. held (new_start t places) (make m t).lent (calls_in p n) (d places k) m' r'.left (events_in p' n) r'.read;
      }

  pub performed : number ≡ 0 → Bytes p.input → Runs (length p.input) p.ends (length p.answers) p.stops (length p.served) n → Ran m₁ p 0 n m' p' → Performs m t p number n m' p'
  performed h b rs r = record { number_is = number_same; refused = λ q. absurd (q h); done = λ _. joined h b rs r }

-- Refused, nothing is run.
pub refused : (m : Lent) (t : ℕ) (p : Pieces) (number : ℕ) (m₁ : Lent) → made number m₁ ≡ make m t → (number ≡ 0 → ⊥) → Performs m t p number 0 m₁ p
refused m t p number m₁ e h =
    let number_is : number ≡ (make m t).number = ap (λ (x : Made). x.number) e in
    record {
      number_is = number_is;
      refused = λ _. (refl, (ap (λ (x : Made). x.lent) e ∙ made-refused m t (λ q. h (number_is ∙ q)), refl));
      done = λ q. absurd (h q);
    }
