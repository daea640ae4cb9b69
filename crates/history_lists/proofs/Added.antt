-- A history with one call more: memory, events and numbers.
use Prim.Native.Nat.{ℕ, ◌+◌}
use mathlib.Core.Path.{◌≡◌, refl, sym, ◌∙◌, ap}
use mathlib.Core.List.{List, [], ◌∷◌, ◌++◌, append-nil, append_assoc}
use mathlib.Core.Option.{Option, some, none}
use native.Mathlib.Omega.{arith}
use lib.Dec.{ltb}
use lib.ListN.{length}
use lib.Seq.{length-sets}
use Rattle.ldc.specs.Lists.{is_empty}
use Rattle.ldc.specs.Lent.{Lent, sizes_good, store_of, broken}
use Rattle.ldc.specs.Request.{Request}
use Rattle.ldc.specs.Run.{room_limit, split, serve_all, run_split, run}
use Rattle.ldc.specs.History.{Call, Event, events_of, events, lent_after, served_in}
use Rattle.ldc.proofs.Basics.Cases.{cases}

pub lent-added : (m : Lent) (cs : List Call) (c : Call) → lent_after m (cs ++ (c ∷ [])) ≡ (run (lent_after m cs) c.list c.answer).lent
lent-added m [] c = refl
lent-added m (x ∷ cs) c = lent-added (run m x.list x.answer).lent cs c

pub events-added : (m : Lent) (cs : List Call) (c : Call)
    → events m (cs ++ (c ∷ [])) ≡ events m cs ++ events_of c.list (run (lent_after m cs) c.list c.answer)
events-added m [] c = append-nil (events_of c.list (run m c.list c.answer))
events-added m (x ∷ cs) c =
    let m' : Lent = (run m x.list x.answer).lent in
    let es : List Event = events_of x.list (run m x.list x.answer) in
    let more : List Event = events_of c.list (run (lent_after m' cs) c.list c.answer) in
    ap (λ (r : List Event). es ++ r) (events-added m' cs c) ∙ sym (append_assoc es (events m' cs) more)

pub served-added : (m : Lent) (cs : List Call) (c : Call)
    → served_in m (cs ++ (c ∷ [])) ≡ served_in m cs + (run (lent_after m cs) c.list c.answer).served
served-added m [] c = omega arith
served-added m (x ∷ cs) c = omega (arith, served-added (run m x.list x.answer).lent cs c)

-- ---- a run leaves its answer buffer as long as it was

split-length : (m : Lent) (o : Option (List Request)) (answer : List ℕ) → length (run_split m o answer).answer ≡ length answer
split-length m none answer = refl
split-length m (some rs) answer =
    cases (is_empty (broken m)) (λ q. rw q (length-sets answer 0 (serve_all (length answer) (store_of m) rs).bytes))
    (λ q. rw q)

pub answer-length : (m : Lent) (list answer : List ℕ) → length (run m list answer).answer ≡ length answer
unfolding run
answer-length m list answer =
    cases (sizes_good m)
    (λ z. cases (ltb (length answer) room_limit) (λ q. rw (z, q)) (λ q. rw (z, q) (split-length m (split list) answer)))
    (λ z. rw z)
