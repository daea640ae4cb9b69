-- `kept` of rule E meets its contract, part after part.
use mathlib.Core.Path.{◌≡◌, sym, ◌∙◌, ap}
use native.Mathlib.Omega.{arith}
use borrow.Author.Rules.{rules}
use lib.ListN.{length, take}
use Rattle.ldc.specs.Layout.{items_in, part_in}
use Rattle.check_places.specs.Links.{walk_e}
use Rattle.check_links.proofs.rule_e.kept.Statement.{statement}
use Rattle.check_links.proofs.rule_e.kept.Tie as tie

element-copy-out-cards-hang : tie.Need-bounds-head-0
element-copy-out-cards-hang c = search rules

cards-hang-requires : tie.Need-cards_hang-requires
cards-hang-requires c κs = let p = c.requires.0 in (p.0.sized, p.1)

returns : tie.Need-returns-then-not-cards_hang
unfolding walk_e
returns c = sym (rw (sym c.cards_hang.ensures ∙ c.if-not-cards_hang.true))

length-requires : tie.Need-length-len-requires
length-requires c κs = search rules

-- Where the function began.
abbrev start : tie.Else-not-cards_hang → tie.Start
start c = c.before.before.before.before.before.before.before.before

items-requires : tie.Need-items-requires
items-requires c κs =
    let f = (start c.before).requires.0.0 in
    (f.long, (rw c.length-len.ensures (f.fits 0 (omega arith)), omega arith))

-- The items at hand are those of level 0.
here : (c : tie.After-items) → let a = (start c.before.before).args in
    c.items.result.now ≡ items_in (length a.cards.now) a.lists.now a.head.now 0
here c =
    let a = (start c.before.before).args in
    c.items.ensures ∙ ap (λ k. take k (part_in (length a.cards.now) a.lists.now 0)) c.length-len.ensures

all-bare-requires : tie.Need-all_bare-requires
all-bare-requires c κs = rw (here c) ((start c.before.before).requires.0.0.reads 0 (omega arith)).names

returns-2 : tie.Need-returns-then-not-all_bare
unfolding walk_e
returns-2 c =
    let i = c in
    let h = i in
    sym (rw (sym h.cards_hang.ensures ∙ h.if-not-cards_hang.false, ← here i.before.before, sym c.all_bare.ensures ∙ c.if-not-all_bare.true))

levels-apart-requires : tie.Need-levels_apart-requires
levels-apart-requires c κs = let p = (start c.before.before.before.before.before).requires in (p.0.0, p.1)

same_length : tie.Need-shape_of-marks
same_length c = search rules

returns-3 : tie.Need-returns
unfolding walk_e
returns-3 c =
    let l = c in
    let b = l in
    let i = b in
    let h = i in
    l.levels_apart.ensures
    ∙ sym (rw (
      sym h.cards_hang.ensures ∙ h.if-not-cards_hang.false,
      ← here i.before.before.before.before.before.before,
      sym b.all_bare.ensures ∙ b.if-not-all_bare.false,
    ))

pub kept_spec : {M : Type 1} → statement M
kept_spec =
    tie.close (tie.spec element-copy-out-cards-hang cards-hang-requires returns length-requires items-requires
    all-bare-requires returns-2 levels-apart-requires same_length returns-3)
