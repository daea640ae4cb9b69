-- `first_broken` meets its contract: rule after rule, each as it is walked being the definition's; the last three together.
use mathlib.Core.Path.{◌≡◌, sym, ◌∙◌}
use mathlib.Core.Bool.{true}
use borrow.Author.Rules.{rules}
use Rattle.ldc.specs.Rules.{rule_a}
use Rattle.ldc.specs.Lent.{Lent, store_of, kept_b, kept_c}
use Rattle.check_places.proofs.RuleLaws.{sized, long-lists, rule-A, rule-B, rule-C, found, kept-C}
use Rattle.check_store.proofs.LetterLaws.{letter-A, letter-B, letter-C, letter-D, rest-letters}
use Rattle.check_store.proofs.first_broken.Statement.{statement}
use Rattle.check_store.proofs.first_broken.Tie as tie

-- What is lent.
abbrev lent : tie.Start → Lent
lent c = record { area = c.args.area.now; cards = c.args.cards.now; lists = c.args.lists.now; head = c.args.head.now; memory = c.args.memory.now }

-- Where the function began, behind each rule that was found kept; and which rule that is, by the definition.
abbrev start-A : tie.Else-not-kept → tie.Start
start-A c = c.before.before.before.before.before.before

abbrev behind-A : tie.Else-not-kept-2 → tie.Else-not-kept
behind-A c = c.before.before.before.before.before

abbrev start-B : tie.Else-not-kept-2 → tie.Start
start-B c = start-A (behind-A c)

abbrev behind-B : tie.Else-not-kept-3 → tie.Else-not-kept-2
behind-B c = c.before.before.before.before.before

abbrev start-C : tie.Else-not-kept-3 → tie.Start
start-C c = start-B (behind-B c)

a-kept : (c : tie.Else-not-kept) → rule_a (store_of (lent (start-A c))) ≡ true
a-kept c = rule-A (lent (start-A c)) (start-A c).requires.0 ∙ sym c.kept.ensures ∙ c.if-not-kept.false

b-kept : (c : tie.Else-not-kept-2) → kept_b (lent (start-B c)) ≡ true
b-kept c = rule-B (lent (start-B c)) (start-B c).requires.0 ∙ sym c.kept-2.ensures ∙ c.if-not-kept-2.false

c-kept : (c : tie.Else-not-kept-3) → kept_c (lent (start-C c)) ≡ true
c-kept c = rule-C (lent (start-C c)) (start-C c).requires.0 ∙ sym c.kept-3.ensures.0 ∙ c.if-not-kept-3.false

kept-requires : tie.Need-kept-requires
kept-requires c κs = search rules

returns : tie.Need-returns-then-not-kept
returns c =
    let s = c in
    letter-A (lent s.before.before.before.before.before.before) (rule-A (lent s.before.before.before.before.before.before) s.requires.0
    ∙ sym c.kept.ensures ∙ c.if-not-kept.true)

kept-requires-2 : tie.Need-kept-requires-2
kept-requires-2 c κs = let s = start-A c.before in (s.requires.1.1, long-lists (lent s) s.requires.0)

same_length : tie.Need-shape_of-marks-then-not-kept-2
same_length c = search rules

returns-2 : tie.Need-returns-then-not-kept-2
returns-2 c =
    let a = c in
    let s = start-A a.before.before.before.before.before in
    letter-B (lent s) (a-kept a.before.before.before.before.before) (rule-B (lent s) s.requires.0 ∙ sym c.kept-2.ensures ∙ c.if-not-kept-2.true)

kept-requires-3 : tie.Need-kept-requires-3
kept-requires-3 c κs = let s = start-B c.before in (sized (lent s) s.requires.0, s.requires.1.0)

same-length-2 : tie.Need-shape_of-ends-then-not-kept-3
same-length-2 c = search rules

same-length-3 : tie.Need-shape_of-marks-then-not-kept-3
same-length-3 c = search rules

returns-3 : tie.Need-returns-then-not-kept-3
returns-3 c =
    let b = c in
    let s = start-B b.before.before.before.before.before in
    letter-C (lent s) (a-kept (behind-A b.before.before.before.before.before)) (b-kept b.before.before.before.before.before)
    (rule-C (lent s) s.requires.0 ∙ sym c.kept-3.ensures.0 ∙ c.if-not-kept-3.true)

is-memory-requires : tie.Need-is_memory-requires
is-memory-requires c κs = c.is_memory-arg-1.given

same-length-4 : tie.Need-shape_of-ends-then-not-is_memory
same-length-4 c = search rules

same-length-5 : tie.Need-shape_of-marks-then-not-is_memory
same-length-5 c = search rules

returns-4 : tie.Need-returns-then-not-is_memory
returns-4 c =
    let k = c in
    letter-D (lent (start-C k.before.before.before)) (a-kept (behind-A (behind-B k.before.before.before))) (b-kept
    (behind-B k.before.before.before)) (c-kept k.before.before.before)
    (sym c.is_memory.ensures ∙ c.if-not-is_memory.true)

rest-letter-requires : tie.Need-first_of_rest-requires
rest-letter-requires c κs =
    let k = c in
    let b = behind-B k.before.before.before.before in
    let s = start-C k.before.before.before.before in
    let noted = k.kept-3.ensures.1 (k.if-not-kept-3.false) in (
      (
        found (lent s) s.requires.0 (b-kept b) (c-kept k.before.before.before.before) _ noted,
        kept-C (lent s) s.requires.0 (b-kept b)
            (c-kept k.before.before.before.before),
      ),
      b.marks-1.given ∙ s.requires.1.1,
    )

same-length-6 : tie.Need-shape_of-ends
same-length-6 c = search rules

same-length-7 : tie.Need-shape_of-marks
same-length-7 c = search rules

returns-5 : tie.Need-returns
returns-5 c =
    let r = c in
    let d = r in
    let k = d in
    let s = start-C k.before.before.before.before.before.before.before in
    let memory = sym d.is_memory.ensures ∙ d.if-not-is_memory.false in
    r.first_of_rest.ensures ∙ rest-letters (lent s) s.requires.0 (a-kept (behind-A (behind-B k.before.before.before.before.before.before.before)))
    (b-kept (behind-B k.before.before.before.before.before.before.before)) (c-kept k.before.before.before.before.before.before.before) memory

pub first_broken_spec : {M : Type 1} → statement M
first_broken_spec =
    tie.close (tie.spec kept-requires returns kept-requires-2 same_length returns-2 kept-requires-3 same-length-2 same-length-3 returns-3
    is-memory-requires same-length-4 same-length-5 returns-4 rest-letter-requires same-length-6 same-length-7 returns-5)
