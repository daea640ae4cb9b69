-- `make` meets its contract: refused as the definition refuses, or piece by piece the memory of a new store.
use Rattle.std.proofs.Common.{◌≡◌, true, refl, sym, ap, ◌∙◌, length}
use Rattle.table.specs.Table.{zeros}
use Rattle.ldc.specs.Rules.{threshold_good}
use Rattle.ldc.specs.Lent.{Lent, sizes_good}
use Rattle.book.specs.Made.{made}
use Rattle.book.specs.Pieces.{lent}
use Rattle.book.proofs.Made.{refused-1, refused-2, new-made, lent_same, blank}
use Rattle.store_make.proofs.make.Goals as goal

pub returns-then-not-sizes : goal.returns-then-not-sizes
returns-then-not-sizes c =
    let a = c.args in
    let m : Lent = lent a.area.now a.cards.now a.lists.now a.head.now a.memory.now in
    refused-1 m a.threshold (sym (c.sizes.ensures m refl refl refl) ∙ c.if-not-sizes.true)

pub returns-then-not-threshold : goal.returns-then-not-threshold
unfolding threshold_good
returns-then-not-threshold c =
    let a = c.args in
    let m : Lent = lent a.area.now a.cards.now a.lists.now a.head.now a.memory.now in
    let good : sizes_good m ≡ true = sym (c.sizes.ensures m refl refl refl) ∙ c.if-not-sizes.false in
    refused-2 m a.threshold good c.if-not-threshold.true

pub returns : goal.returns
unfolding threshold_good zeros
returns c =
    let a = c.args in
    let m : Lent = lent a.area.now a.cards.now a.lists.now a.head.now a.memory.now in
    let good : sizes_good m ≡ true = sym (c.sizes.ensures m refl refl refl) ∙ c.if-not-sizes.false in
    let emptied = c.fill.ensures.after (λ y e. e) ∙ blank (length a.lists.now) in
    ap (made 0) (lent_same a.area.now c.free_all.ensures emptied refl c.clear.ensures) ∙ new-made m a.threshold good c.if-not-threshold.false
