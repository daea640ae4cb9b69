-- A move keeps a store sound and changes no answer: the chosen table has no links, and the level that it joins is empty.
-- Within its old level no other table holds its keys, so that reading it one level later is the same.
use Prim.Native.Nat.{ℕ, zero, suc, ◌≤◌}
use mathlib.Core.Path.{◌≡◌, refl, sym, ◌∙◌, ap}
use mathlib.Core.List.Memᴰ
use mathlib.Core.List.{List, [], ◌∷◌, ◌++◌, map, append-nil, Memᴰ}
use mathlib.Core.Bool.{true}
use mathlib.Core.Option.{Option}
use mathlib.Core.Logic.{⊎_elim}
use native.Mathlib.Omega.{arith}
use borrow.Author.Tests.{eqb-true, eqb-false}
use lib.Dec.{eqb}
use lib.ListN.{length, get_or, set, length-set}
use lib.Seq.{get_or-set_same, get_or-set_other}
use Rattle.table.specs.Entry.{Entry}
use Rattle.table.specs.Search.{find}
use Rattle.ldc.specs.Lists.{how_many}
use Rattle.ldc.specs.Store.{Store, size, card, links, is_live, bytes_at, table, level, slice, sources}
use Rattle.ldc.specs.Rules.{rule_a, times_listed, link_good, hung_on, named, spans_rise}
use Rattle.ldc.specs.Steps.{replaced, marks_after, leaves, do_move}
use Rattle.ldc.proofs.Basics.Cases.{cases}
use Rattle.ldc.proofs.Basics.Counts.{one, total-set, how_many-flat}
use Rattle.ldc.proofs.Stores.Facts.{listed-total, level-spans}
use Rattle.ldc.proofs.Entries.Finds.{or_else}
use Rattle.ldc.proofs.Stores.Frame.{hung_in, hung_in-same, spans_rise-same, reads_same}
use Rattle.ldc.proofs.Stores.Order.{newest, view, given, view-two, bare-sources}
use Rattle.ldc.proofs.Basics.Replaced.{Split, split, replaced-counted}
use Rattle.ldc.proofs.Stores.Sound.{Sound}
use Rattle.ldc.proofs.Stores.TakenOut.{given_but, taken_out}
use Rattle.ldc.proofs.Stores.Spans.{reads, spans-rise, spans-without}
use Rattle.ldc.specs.Facts.{Oldest, Spans}

-- A member of what is left was a member.
pub replaced-member : (q p : ℕ) (ps : List ℕ) → Memᴰ p ps → Memᴰ q (replaced p [] ps) → Memᴰ q ps
replaced-member q p ps m h =
    let r = split p ps m in
    rw r.whole
    (⊎_elim (λ a. Memᴰ.append_left (p ∷ r.back) a) (λ b. Memᴰ.append_right r.front (Memᴰ.tail b))
    (Memᴰ.append_cases r.front (rw (r.other []) at h)))

pub length-marks_after : (n p : ℕ) (s : Store) → length (marks_after n p s) ≡ length s.marks
length-marks_after zero p s = refl
length-marks_after (suc n) p s = length-set s.marks n _

-- By which level it is: this one, the next, or another.
pub at_level : {P : Type 0} (n i : ℕ) → (i ≡ n → P) → (i ≡ suc n → P) → ((i ≡ n → ⊥) → (i ≡ suc n → ⊥) → P) → P
at_level n i a b c =
    cases (eqb i n)
    (λ q. a (eqb-true i n q))
    (λ q. cases (eqb i (suc n))
    (λ t. b (eqb-true i (suc n) t))
    (λ t. c (eqb-false i n q) (eqb-false i (suc n) t)))

-- A table without links adds nothing to what hangs on a level.
pub hung_in-bare : (s : Store) (n p : ℕ) (xs ys : List ℕ) → links s p ≡ [] → hung_in s n (xs ++ (p ∷ ys)) ≡ hung_in s n (xs ++ ys)
hung_in-bare s n p [] ys e = rw e
hung_in-bare s n p (x ∷ xs) ys e = ap (λ hs. map (λ l. record { on = n; link = l }) (links s x) ++ hs) (hung_in-bare s n p xs ys e)

module _ (s : Store) (S : Sound s) (n p : ℕ) (below : n ≤ 2) (m : Memᴰ p (level s n)) (bare : links s p ≡ []) (empty : level s (suc n) ≡ []) where
  r : Split p (level s n)
  r = split p (level s n) m

  -- ---- the levels after

  move-from : level (do_move n p s) n ≡ replaced p [] (level s n)
  unfolding do_move leaves level
  move-from =
      get_or-set_other (set s.levels n (replaced p [] (level s n))) (suc n) n (p ∷ []) [] (λ e. omega arith)
      ∙ get_or-set_same s.levels n (replaced p [] (level s n)) [] (omega (arith, S.four))

  move-to : level (do_move n p s) (suc n) ≡ p ∷ []
  unfolding do_move leaves level
  move-to =
      get_or-set_same (set s.levels n (replaced p [] (level s n))) (suc n) (p ∷ []) []
      (simp length-set (omega (arith, S.four)))

  move-other : (i : ℕ) → (i ≡ n → ⊥) → (i ≡ suc n → ⊥) → level (do_move n p s) i ≡ level s i
  unfolding do_move leaves level
  move-other i a b =
      get_or-set_other (set s.levels n (replaced p [] (level s n))) (suc n) i (p ∷ []) [] b
      ∙ get_or-set_other s.levels n i (replaced p [] (level s n)) [] a

  -- ---- sound

  move-listed : (q : ℕ) → times_listed (do_move n p s) q ≡ one (is_live (card (do_move n p s) q))
  unfolding do_move leaves times_listed card level
  move-listed q =
      let l = replaced p [] (level s n) in
      let a = total-set (how_many (eqb q)) s.levels n l [] (omega (arith, S.four)) in
      let b = total-set (how_many (eqb q)) (set s.levels n l) (suc n) (p ∷ []) [] (simp length-set (omega (arith, S.four))) in
      let e : get_or (set s.levels n l) (suc n) [] ≡ [] =
      get_or-set_other s.levels n (suc n) l [] (λ x. omega arith) ∙ empty in
      let b' = rw e at b in
      let c = replaced-counted q p [] (level s n) m in
      let t = listed-total s S q in
      how_many-flat (eqb q) (set (set s.levels n l) (suc n) (p ∷ [])) ∙ omega arith

  -- cards and bytes are untouched
  pub move-links : (q : ℕ) → links (do_move n p s) q ≡ links s q
  unfolding do_move leaves links card
  move-links q = refl

  pub move-bytes : (q : ℕ) → bytes_at (do_move n p s) q ≡ bytes_at s q
  unfolding do_move leaves bytes_at
  move-bytes q = refl

  hung_in-move : (i : ℕ) (ps : List ℕ) → hung_in (do_move n p s) i ps ≡ hung_in s i ps
  hung_in-move i ps = hung_in-same s (do_move n p s) i ps (λ q _. move-links q)

  move-hung : (i : ℕ) → hung_on (do_move n p s) i ≡ hung_on s i
  unfolding hung_on
  move-hung i =
      hung_in-move i (level (do_move n p s) i)
      ∙ at_level n i
      (λ e. rw (e, move-from, r.other []) (sym (hung_in-bare s n p r.front r.back bare) ∙ ap (hung_in s n) (sym r.whole)))
      (λ e. rw (e, move-to, empty) (rw bare))
      (λ a b. rw (move-other i a b))

  move-bare : (q : ℕ) → Memᴰ q (level (do_move n p s) 0) → links (do_move n p s) q ≡ []
  move-bare q h =
      move-links q
      ∙ at_level n 0
      (λ e. S.bare q (rw e (replaced-member q p (level s n) m (rw move-from at (rw e at h)))))
      (λ e. absurd (omega arith))
      (λ a b. S.bare q (rw (move-other 0 a b) at h))

  move-rise : (ps : List ℕ) → spans_rise (do_move n p s) ps ≡ spans_rise s ps
  move-rise ps = spans_rise-same s (do_move n p s) ps (λ q _. (move-links q, move-bytes q))

  move-rising : (i : ℕ) → spans_rise (do_move n p s) (level (do_move n p s) (suc i)) ≡ true
  move-rising i =
      move-rise (level (do_move n p s) (suc i))
      ∙ at_level n (suc i)
      (λ e. let sp : Spans s 0 (r.front ++ (p ∷ r.back)) = rw r.whole at (rw e at (level-spans s S i)) in
      rw (e, move-from, r.other []) (spans-rise s 0 (r.front ++ r.back) (spans-without s 0 r.front p r.back sp)))
      (λ e. rw (e, move-to))
      (λ a b. rw (move-other (suc i) a b) (S.rising i))

  pub sound-move : Sound (do_move n p s)
  unfolding do_move leaves size card links bytes_at table slice rule_a link_good named
  sound-move = record {
    fewest = S.fewest;
    most = S.most;
    placed = S.placed;
    four = simp length-set S.four;
    two = length-marks_after n p s ∙ S.two;
    rule_a-kept = S.rule_a-kept;
    listed = move-listed;
    tables = S.tables;
    memory = S.memory;
    bare = move-bare;
    few = S.few;
    hung = S.hung;
    disjoint = rw (move-hung 1, move-hung 2, move-hung 3) S.disjoint;
    naming = S.naming;
    rising = move-rising;
  }

  -- ---- no answer changes

  move-sources : (q : ℕ) → sources (do_move n p s) q ≡ sources s q
  unfolding do_move leaves sources slice table links card bytes_at
  move-sources q = refl

  move-reads : (ps : List ℕ) → reads (do_move n p s) ps ≡ reads s ps
  move-reads ps = reads_same s (do_move n p s) ps (λ q _. move-sources q)

  move-newest : (ps : List ℕ) → newest (do_move n p s) ps ≡ newest s ps
  unfolding do_move leaves table bytes_at
  move-newest ps = refl

  move-given : (k i : ℕ) → (i ≡ n → ⊥) → (i ≡ suc n → ⊥) → given (do_move n p s) i k ≡ given s i k
  move-given k zero a b = ap (find k) (move-newest (level (do_move n p s) 0) ∙ ap (newest s) (move-other 0 a b))
  move-given k (suc i) a b = ap (find k) (move-reads (level (do_move n p s) (suc i)) ∙ ap (reads s) (move-other (suc i) a b))

  -- what the level below gives
  move-lower : (k : ℕ) (rest : Option Entry) → or_else (given (do_move n p s) (suc n) k) rest ≡ or_else (find k (table s p)) rest
  move-lower k rest = rw (move-to, move-reads (p ∷ []), bare-sources s p bare, append-nil (table s p))

  -- what is left of the level above
  move-left : (i : ℕ) → i ≡ n → level (do_move n p s) i ≡ replaced p [] (level s i)
  move-left i e = rw e move-from

  move-upper : (k i : ℕ) → i ≡ n → given (do_move n p s) i k ≡ given_but s i p k
  move-upper k zero e = ap (find k) (move-newest (level (do_move n p s) 0) ∙ ap (newest s) (move-left 0 e))
  move-upper k (suc i) e = ap (find k) (move-reads (level (do_move n p s) (suc i)) ∙ ap (reads s) (move-left (suc i) e))

  move-two : (k : ℕ) → Oldest s n p → (rest : Option Entry)
      → or_else (given (do_move n p s) n k) (or_else (given (do_move n p s) (suc n) k) rest) ≡ or_else (given s n k) (or_else (given s (suc n) k) rest)
  unfolding find
  move-two k oldest rest =
      rw (move-upper k n refl, move-lower k rest, empty) (sym (taken_out s S n p m bare oldest k rest))

  pub view-move : (k : ℕ) → Oldest s n p → view (do_move n p s) k ≡ view s k
  unfolding do_move leaves
  view-move k oldest = view-two s (do_move n p s) k n below refl (λ i a b. move-given k i a b) (λ rest. move-two k oldest rest)
