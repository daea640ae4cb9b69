-- `next_values` meets its contract. The loop's invariant: the values kept are the first of the range, and those from `low` on are left.
use Prim.Native.Nat.{suc, ◌-◌, ◌≤◌, ◌<◌}
use mathlib.Core.Path.{◌≡◌, refl, sym, ◌∙◌}
use mathlib.Core.List.{◌++◌}
use native.Mathlib.Omega.{arith}
use native.Mathlib.Numerals.{add-one}
use lib.ListN.{length, take}
use Rattle.ldc.specs.Lent.{Lent, store_of}
use Rattle.ldc.proofs.Stores.Sound.{Sound}
use Rattle.book.specs.Head.{head_words}
use Rattle.book.specs.Pieces.{lent}
use Rattle.read.proofs.Levels.{sound-kept}
use Rattle.read_gather.specs.Gathered.{AllSeated}
use Rattle.read_gather.specs.Order.{up_to}
use Rattle.read_iterator.proofs.Places.{whole-kept}
use Rattle.read_iterator.proofs.Paging.{Page, page-none, page-in-use, page-full, page-all, page-taken, page-grows, page-within, page-turn}
use Rattle.read_iterator.proofs.next_values.Statement.{statement}
use Rattle.read_iterator.proofs.next_values.Tie as tie

abbrev invariant-loop : tie.invariant-loop-low
invariant-loop area cards lists head memory high keys₀ spots₀ kept₀ low₀ last keys spots kept low =
    (last ≡ high.value) × (length keys ≡ length keys₀) × (length spots ≡ length spots₀) × (kept < length keys₀)
    × Page (store_of (lent area cards lists (head_words head) memory)) low₀ high.value (area ++ memory) keys spots kept low

abbrev decreases-loop : tie.decreases-loop-low
decreases-loop area cards lists head memory high keys₀ spots₀ kept₀ low₀ last keys spots kept low = suc last - low

-- The pieces that are lent.
abbrev pieces : tie.After-shared_slice_known-3-1 invariant-loop decreases-loop → Lent
pieces c = let a = c.args in lent a.area.now a.cards.now a.lists.now (head_words a.head) a.memory.now

sound : (c : tie.After-shared_slice_known-3-1 invariant-loop decreases-loop) → Sound (store_of (pieces c))
sound c =
    let p = c.requires.0 in
    sound-kept (pieces c) p.kept p.memory (λ i. omega (arith, c.shared_slice_known-3-1.given i)) (λ i. omega (arith, c.shared_slice_known-1.given i))

loop-holds : tie.Need-loop-low-init invariant-loop decreases-loop
loop-holds c =
    let k = c in
    let b = k in
    let a = b.args in
    (refl, refl, refl, b.requires.1.0, page-none (store_of (pieces k.before.before)) a.from.value a.high.value _ a.keys.now a.spots.now)

abbrev entered : tie.In-loop-low invariant-loop decreases-loop → tie.After-shared_slice_known-3-1 invariant-loop decreases-loop
entered c = c.before.before.before.before

in-store-requires : tie.Need-in_store-used-requires invariant-loop decreases-loop
in-store-requires c κs =
    let d = c in
    let k = entered d.before.before in
    let b = k in
    let a = b.args in
    let l = d.loop-low in (
      b.requires.0,
      (
        omega (arith, l.invariant.1, b.requires.1.0),
        page-in-use (store_of (pieces k)) a.from.value a.high.value _ l.keys l.spots l.kept l.low l.invariant.4 (l.invariant.2 ∙ b.requires.1.1 ∙ sym l.invariant.1),
      ),
    )

-- What a round takes in: entries that stand whole, no fewer than before, up to a key of the range.
abbrev turn : tie.After-in_store-used invariant-loop decreases-loop → tie.In-loop-low invariant-loop decreases-loop
turn c = c.before.before.before

seated : (c : tie.After-in_store-used invariant-loop decreases-loop)
    → let t = c.in_store-used in
    let a = (entered (turn c)).before.before.before.args in
    AllSeated (a.area.now ++ a.memory.now) (take t.result t.new.spots)
seated c =
    let t = c.in_store-used in
    let d = turn c in
    let k = entered d in
    let a = k.args in
    let l = d.loop-low in
    (page-taken (store_of (pieces k)) a.from.value a.high.value _ l.keys l.spots l.kept l.low l.invariant.4 (sound k) (omega (arith, l.invariant.0, d.loop-low-test.true))
    (omega (arith, l.invariant.1, l.invariant.3)) t.new.keys t.new.spots t.result t.auto.keys t.ensures).seated

grows : (c : tie.After-in_store-used invariant-loop decreases-loop) → (turn c).loop-low.kept ≤ c.in_store-used.result
grows c =
    let t = c.in_store-used in
    let d = turn c in
    let k = entered d in
    let a = k.args in
    let l = d.loop-low in
    page-grows (store_of (pieces k)) a.from.value a.high.value _ l.keys l.spots l.kept l.low l.invariant.4 (sound k) (omega (arith, l.invariant.0, d.loop-low-test.true))
    (omega (arith, l.invariant.1, l.invariant.3)) t.new.keys t.new.spots t.result t.auto.keys t.ensures

ranged : (c : tie.After-in_store-used invariant-loop decreases-loop)
    → let t = c.in_store-used in
    let l = (turn c).loop-low in
    let high = (entered (turn c)).before.before.before.args.high.value in
    let at = up_to t.new.keys t.result high in
    (l.low ≤ at) × (at ≤ high)
ranged c =
    let t = c.in_store-used in
    let d = turn c in
    let k = entered d in
    let a = k.args in
    let l = d.loop-low in
    page-within (store_of (pieces k)) a.from.value a.high.value _ l.keys l.spots l.kept l.low l.invariant.4 (sound k) (omega (arith, l.invariant.0, d.loop-low-test.true))
    (omega (arith, l.invariant.1, l.invariant.3)) t.new.keys t.new.spots t.result t.auto.keys t.ensures

up-to-requires : tie.Need-up_to-end-requires invariant-loop decreases-loop
up-to-requires c κs =
    let x = c in
    let t = x.in_store-used in
    let k = t.auto.keys in
    let l = (turn x.before.before.before.before).loop-low in
    (rw k t.ensures.inside, omega (arith, k, l.invariant.1, l.invariant.3))

keep-values-requires : tie.Need-keep_values-kept-requires invariant-loop decreases-loop
keep-values-requires c κs =
    let x = c in
    let t = x.in_store-used in
    let k = t.auto.keys in
    let b = (entered (turn x.before.before.before.before.before.before.before)).before.before.before in
    let l = (turn x.before.before.before.before.before.before.before).loop-low in
    (whole-kept (pieces (entered (turn x.before.before.before.before.before.before.before))) b.requires.0.kept b.requires.0.memory, (grows x.before.before.before.before.before.before.before, (rw k t.ensures.inside, (t.auto.spots ∙ l.invariant.2 ∙ b.requires.1.1 ∙ sym l.invariant.1 ∙ sym k, seated x.before.before.before.before.before.before.before))))

-- What is left after it.
abbrev round : tie.After-keep_values-kept invariant-loop decreases-loop → tie.After-in_store-used invariant-loop decreases-loop
round c = c.before.before.before.before.before.before.before.before

keys-long : (c : tie.After-keep_values-kept invariant-loop decreases-loop) → length c.keep_values-kept.new.keys ≡ length (entered (turn (round c))).before.before.before.args.keys.now
keys-long c =
    c.keep_values-kept.auto.keys ∙ (round c).in_store-used.auto.keys ∙ (turn (round c)).loop-low.invariant.1

spots-long : (c : tie.After-keep_values-kept invariant-loop decreases-loop) → length c.keep_values-kept.new.spots ≡ length (entered (turn (round c))).before.before.before.args.spots.now
spots-long c =
    c.keep_values-kept.auto.spots ∙ (round c).in_store-used.auto.spots ∙ (turn (round c)).loop-low.invariant.2

turned : (c : tie.After-keep_values-kept invariant-loop decreases-loop)
    → let k = entered (turn (round c)) in
    let a = k.args in
    Page (store_of (pieces k)) a.from.value a.high.value (a.area.now ++ a.memory.now) c.keep_values-kept.new.keys c.keep_values-kept.new.spots c.keep_values-kept.result
    (suc c.up_to-end.result.value)
turned e =
    let c = round e in
    let t = c.in_store-used in
    let d = turn c in
    let k = entered d in
    let a = k.args in
    let l = d.loop-low in
    page-turn (store_of (pieces k)) a.from.value a.high.value _ l.keys l.spots l.kept l.low l.invariant.4 (sound k) (omega (arith, l.invariant.0, d.loop-low-test.true))
    (omega (arith, l.invariant.1, l.invariant.3)) t.new.keys t.new.spots t.result t.auto.keys t.ensures
    e.keep_values-kept.new.keys e.keep_values-kept.new.spots e.keep_values-kept.result e.up_to-end.result.value e.keep_values-kept.ensures e.up_to-end.ensures

same_length : tie.Need-shape_of-keys-then-keys-kept invariant-loop decreases-loop
same_length c = keys-long c.before.before.before.before.before

same-length-2 : tie.Need-shape_of-spots-then-keys-kept invariant-loop decreases-loop
same-length-2 c = spots-long c.before.before.before.before.before

returns : tie.Need-returns-then-keys-kept invariant-loop decreases-loop
returns c =
    let e = c in
    let k = entered (turn (round e.before.before.before.before.before)) in
    let a = k.before.before.before.args in
    rw (← (keys-long e.before.before.before.before.before)) (page-full (store_of (pieces k)) a.from.value a.high.value _ e.keep_values-kept.new.keys e.keep_values-kept.new.spots e.keep_values-kept.result _ (turned e.before.before.before.before.before)
    c.if-keys-kept.true)

same-length-3 : tie.Need-shape_of-keys-then-last-at invariant-loop decreases-loop
same-length-3 c = keys-long c.before.before.before.before.before.before

same-length-4 : tie.Need-shape_of-spots-then-last-at invariant-loop decreases-loop
same-length-4 c = spots-long c.before.before.before.before.before.before

returns-2 : tie.Need-returns-then-last-at invariant-loop decreases-loop
returns-2 c =
    let e = c in
    let k = entered (turn (round e.before.before.before.before.before.before)) in
    let a = k.before.before.before.args in
    rw (← (keys-long e.before.before.before.before.before.before)) (page-all (store_of (pieces k)) a.from.value a.high.value _ e.keep_values-kept.new.keys e.keep_values-kept.new.spots e.keep_values-kept.result _ (turned e.before.before.before.before.before.before)
    (omega (arith, c.if-last-at.true, (turn (round e.before.before.before.before.before.before)).loop-low.invariant.0)))

add_low : tie.Need-overflow_add-low invariant-loop decreases-loop
add_low c =
    let e = c in
    omega (arith, c.if-last-at.false, (turn (round e.before.before.before.before.before.before)).loop-low.invariant.0, (entered (turn (round e.before.before.before.before.before.before))).well_formed)

loop-less : tie.Need-loop-low-smaller invariant-loop decreases-loop
loop-less c =
    let e = c in
    omega (arith, c.if-last-at.false, (turn (round e.before.before.before.before.before.before)).loop-low-test.true, e.up_to-end.ensures, (ranged (round e.before.before.before.before.before.before)).0)

loop-again : tie.Need-loop-low-preserved invariant-loop decreases-loop
loop-again c =
    let e = c in
    ((turn (round e.before.before.before.before.before.before)).loop-low.invariant.0, keys-long e.before.before.before.before.before.before, spots-long e.before.before.before.before.before.before, omega (arith, c.if-keys-kept.false, keys-long e.before.before.before.before.before.before), rw (add-one e.up_to-end.result.value) (turned e.before.before.before.before.before.before))

same-length-5 : tie.Need-shape_of-keys invariant-loop decreases-loop
same-length-5 c = c.loop-low.invariant.1

same-length-6 : tie.Need-shape_of-spots invariant-loop decreases-loop
same-length-6 c = c.loop-low.invariant.2

returns-3 : tie.Need-returns invariant-loop decreases-loop
returns-3 c =
    let l = c.loop-low in
    let k = c in
    let a = k.args in
    rw (← l.invariant.1) (page-all (store_of (pieces k.before.before.before.before)) a.from.value a.high.value _ l.keys l.spots l.kept l.low l.invariant.4 (omega (arith, l.invariant.0, c.loop-low-test.false)))

pub next_values_spec : {M : Type 1} → statement M
next_values_spec =
    tie.close (tie.spec invariant-loop decreases-loop loop-holds in-store-requires up-to-requires keep-values-requires same_length same-length-2 returns same-length-3 same-length-4 returns-2 add_low loop-less loop-again same-length-5 same-length-6 returns-3)
