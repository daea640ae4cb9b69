-- Whether a span of a level holds a key: spans rise, so those in front of the rank end below it, and those behind the table there start above
-- it. What is left is whether that one starts by it.
use Prim.Native.Nat.{ℕ, suc, ◌≤◌, ◌<◌}
use mathlib.Core.Path.{◌≡◌, refl}
use mathlib.Core.List.{List, [], ◌∷◌}
use mathlib.Core.Bool.{false}
use native.Mathlib.Omega.{arith}
use borrow.Author.Tests.{ltb-true, ltb-false, le-leb, lt-leb}
use lib.Dec.{leb, ltb}
use lib.ListN.{length, get_or}
use Rattle.table.proofs.Tests.{cases}
use Rattle.ldc.specs.Lists.{any}
use Rattle.ldc.specs.Store.{Store, span_start, span_end, span_holds}
use Rattle.ldc.specs.Facts.{Spans}
use Rattle.read.specs.Level.{rank}

above : (s : Store) (low k : ℕ) (ps : List ℕ) → Spans s low ps → k < low → any (λ p. span_holds s p k) ps ≡ false
unfolding span_holds
above s low k [] h b = refl
above s low k (p ∷ ps) h b =
    rw (lt-leb (span_start s p) k (omega (arith, h.0))) (above s (suc (span_end s p)) k ps h.2 (omega (arith, h.0, h.1)))

-- Passed by all, none holds it.
pub holds-none : (s : Store) (k : ℕ) (ps : List ℕ) → length ps ≤ rank s k ps → any (λ p. span_holds s p k) ps ≡ false
unfolding rank span_holds
holds-none s k [] = λ b. refl
holds-none s k (p ∷ ps) =
    cases (ltb (span_end s p) k)
    (λ q. rw (q, lt-leb k (span_end s p) (ltb-true _ _ q)) (λ b. cases (leb (span_start s p) k)
    (λ r. rw r (holds-none s k ps (omega arith)))
    (λ r. rw r (holds-none s k ps (omega arith)))))
    (λ q. rw q (λ b. absurd (omega arith)))

pub holds_at : (s : Store) (low k : ℕ) (ps : List ℕ) → Spans s low ps → rank s k ps < length ps
    → any (λ p. span_holds s p k) ps ≡ leb (span_start s (get_or ps (rank s k ps) 0)) k
unfolding rank span_holds
holds_at s low k [] h = λ b. absurd (omega arith)
holds_at s low k (p ∷ ps) h =
    cases (ltb (span_end s p) k)
    (λ q. rw (q, lt-leb k (span_end s p) (ltb-true _ _ q)) (λ b. cases (leb (span_start s p) k)
    (λ r. rw r (holds_at s (suc (span_end s p)) k ps h.2 (omega arith)))
    (λ r. rw r (holds_at s (suc (span_end s p)) k ps h.2 (omega arith)))))
    (λ q. let reaches : k ≤ span_end s p = ltb-false _ _ q in
    rw (q, le-leb k (span_end s p) reaches) (λ b. rw (above s (suc (span_end s p)) k ps h.2 (omega arith))
    (cases (leb (span_start s p) k) (λ r. rw r) (λ r. rw r))))
