-- `is_list` meets its contract: a whole request is passed, and one that is not whole is no list.
use Rattle.std.proofs.Common.{ℕ, ◌≡◌, ◌+◌, ◌≤◌, List, true, sym, ap, ◌∙◌, length, arith}
use Rattle.table.specs.Entry.{length_at}
use Rattle.ldc.specs.Lists.{is_some}
use Rattle.ldc.specs.Run.{request_at, whole_at}
use Rattle.wire.specs.Rest.{rest}
use Rattle.wire.proofs.Splits.{whole-fits, rest_all, rest-long, rest_end, rest-turn, rest-broken, some-map}
use Rattle.wire.proofs.list.is_list.Goals as goal

-- What the test of one request said of its length.
fits : (list : List ℕ) (at n : ℕ) → whole_at list at ≡ true → n ≡ length_at list at → (at + 4 ≤ length list) × (4 ≤ n) × (at + n ≤ length list)
fits list at n w e = let f = whole-fits list at w in (f.0, omega (arith, f.1.0), omega (arith, f.1.1))

pub returns-then-list-gt-LIST_LIMIT : goal.returns-then-list-gt-LIST_LIMIT
returns-then-list-gt-LIST_LIMIT c = rw (rest-long c.args.list.now c.if-list-gt-LIST_LIMIT.true)

pub loop-at-init : goal.loop-at-init
loop-at-init c = record { within = omega arith; listed = ap is_some (rest_all c.args.list.now c.if-list-gt-LIST_LIMIT.false) }

pub returns-then-not-is_whole : goal.returns-then-not-is_whole
returns-then-not-is_whole c =
    let l = c.loop-at in
    sym (l.invariant.listed ∙ ap is_some (rest-broken c.args.list.now l.at c.loop-at-test.true (sym c.is_whole.ensures ∙ c.if-not-is_whole.true)))

pub length_at-requires : goal.length_at-requires
length_at-requires c = omega (arith, (whole-fits c.args.list.now c.loop-at.at (sym c.is_whole.ensures ∙ c.if-not-is_whole.false)).0)

pub loop-at-smaller : goal.loop-at-smaller
loop-at-smaller c =
    let whole = sym c.is_whole.ensures ∙ c.if-not-is_whole.false in
    omega (arith, fits c.args.list.now c.loop-at.at c.from-at.result whole (c.from-at.ensures ∙ c.length_at.ensures))

pub loop-at-preserved : goal.loop-at-preserved
loop-at-preserved c =
    let l = c.loop-at in
    let list = c.args.list.now in
    let whole : whole_at list l.at ≡ true = sym c.is_whole.ensures ∙ c.if-not-is_whole.false in
    let long : c.from-at.result ≡ length_at list l.at = c.from-at.ensures ∙ c.length_at.ensures in
    record {
      within = (fits list l.at c.from-at.result whole long).2;
      listed = l.invariant.listed ∙ ap is_some (rest-turn list l.at c.loop-at-test.true whole)
          ∙ some-map (request_at list l.at) (rest list (l.at + length_at list l.at))
          ∙ ap (λ (n : ℕ). is_some (rest list (l.at + n))) (sym long);
    }

pub returns : goal.returns
returns c =
    let l = c.loop-at in
    sym (l.invariant.listed ∙ ap is_some (rest_end c.args.list.now l.at c.loop-at-test.false l.invariant.within))
