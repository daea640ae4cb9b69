-- Bytes written one behind the other are one run. `Put` says what a call wrote; `Left` says, in the midst of several, what is left to write.
use Prim.Native.Nat.{ℕ, ◌+◌, ◌≤◌}
use mathlib.Core.Path.{◌≡◌, refl, sym, ◌∙◌, ap}
use mathlib.Core.List.{List, [], ◌++◌}
use native.Mathlib.Omega.{arith}
use lib.ListN.{length, length-append}
use lib.Seq.{sets, length-sets}
use Rattle.coding.proofs.Sets.{sets-append}
use Rattle.saved_write.specs.Put.{Put}

-- ---- one call after another

module _ {s : List ℕ} {at : ℕ} {u t : List ℕ} {i : ℕ} (p : Put s at u t i) where
  -- The buffer is as long as it was.
  pub put-long : length t ≡ length s
  put-long = ap length p.written ∙ length-sets s at u

  pub put_then : {v r : List ℕ} {j : ℕ} → Put t i v r j → Put s at (u ++ v) r j
  put_then {v} {r} {j} q =
      record {
        written = q.written ∙ rw (p.written, p.behind) (sym (sets-append s at u v));
        behind = omega (arith, p.behind, q.behind, length-append u v);
      }

  -- The same bytes under another name.
  pub put_as : {v : List ℕ} → u ≡ v → Put s at v t i
  put_as e = rw (← e) p

  -- Room for both is room for the second behind the first.
  pub put-room : (v : List ℕ) → at + length (u ++ v) ≤ length s → i + length v ≤ length t
  put-room v h = omega (arith, p.behind, put-long, length-append u v)

-- ---- what is left

-- Writing all from a position on is writing the rest, from another on, into what is there by now.
pub record Left (s : List ℕ) (at : ℕ) (whole now : List ℕ) (to : ℕ) (rest : List ℕ) : Type 0 where
  pub long : length now ≡ length s
  pub same : sets s at whole ≡ sets now to rest
  pub ends : at + length whole ≡ to + length rest

pub left-all : (s : List ℕ) (at : ℕ) (whole : List ℕ) → Left s at whole s at whole
left-all s at whole = record { long = refl; same = refl; ends = refl }

module _ {s : List ℕ} {at : ℕ} {whole now : List ℕ} {to : ℕ} {rest : List ℕ} (l : Left s at whole now to rest) where
  pub left-then : (u v : List ℕ) {t : List ℕ} {i : ℕ} → rest ≡ u ++ v → Put now to u t i → Left s at whole t i v
  left-then u v {t} {i} e p =
      record {
        long = put-long p ∙ l.long;
        same = l.same ∙ rw (e, p.written, p.behind) (sets-append now to u v);
        ends = omega (arith, l.ends, ap length e, length-append u v, p.behind);
      }

  pub left-room : (u v : List ℕ) → rest ≡ u ++ v → at + length whole ≤ length s → to + length u ≤ length now
  left-room u v e h = omega (arith, l.ends, l.long, ap length e, length-append u v)

  pub left-none : rest ≡ [] → Put s at whole now to
  left-none e =
      record { written = sym (l.same ∙ rw e); behind = omega (arith, l.ends, ap length e) }
