-- `check` meets its contract: the number and the letter by the first broken rule of what is lent, `m`.
use mathlib.Core.Path.{◌≡◌, refl, sym, ◌∙◌}
use Rattle.ldc.specs.Lent.{Lent, sizes_good}
use Rattle.wire.specs.Refusal.{rule_letter}
use Rattle.check_store.proofs.LetterLaws.{answer-1, answer-0, answer-5, has_letter}
use Rattle.check_store.proofs.check.Goals as goal

pub returns-then-not-sizes : goal.returns-then-not-sizes
returns-then-not-sizes c =
    let a = c.args in
    let m : Lent = record { area = a.area.now; cards = a.cards.now; lists = a.lists.now; head = a.head.now; memory = a.memory.now } in
    let judged : sizes_good m ≡ c.sizes.result = sym (c.sizes.ensures m refl refl refl) in
    answer-1 m (judged ∙ c.if-not-sizes.true)

pub first_of_all-requires : goal.first_of_all-requires
first_of_all-requires c =
    let a = c.args in
    let m : Lent = record { area = a.area.now; cards = a.cards.now; lists = a.lists.now; head = a.head.now; memory = a.memory.now } in
    let judged : sizes_good m ≡ c.sizes.result = sym (c.sizes.ensures m refl refl refl) in
    judged ∙ c.if-not-sizes.false

pub returns-in-Ok : goal.returns-in-Ok
returns-in-Ok c =
    let a = c.args in
    let m : Lent = record { area = a.area.now; cards = a.cards.now; lists = a.lists.now; head = a.head.now; memory = a.memory.now } in
    let judged : sizes_good m ≡ c.sizes.result = sym (c.sizes.ensures m refl refl refl) in
    answer-0 m (judged ∙ c.if-not-sizes.false) c.in-Ok.ensures

pub returns-in-Err : goal.returns-in-Err
returns-in-Err c =
    let a = c.args in
    let m : Lent = record { area = a.area.now; cards = a.cards.now; lists = a.lists.now; head = a.head.now; memory = a.memory.now } in
    let judged : sizes_good m ≡ c.sizes.result = sym (c.sizes.ensures m refl refl refl) in
    answer-5 m (judged ∙ c.if-not-sizes.false) (rule_letter c.in-Err.rule) c.in-Err.ensures (has_letter c.in-Err.rule)
