-- `form_of` meets its contract: head, cards, lists and memory entries in turn, and the end of the last is the end of the bytes.
use Rattle.std.proofs.Common.{sym, ◌∙◌, arith}
use Rattle.saved_form.proofs.Whole.{head-within, cards-within, lists-within, no-head, no-cards, no-lists, no-memory, too_many, a-book}
use Rattle.saved_form.proofs.form.form_of.Goals as goal

pub returns-then-not-head_form : goal.returns-then-not-head_form
returns-then-not-head_form c = no-head _ (cc)

pub cards_to-requires : goal.cards_to-requires
cards_to-requires c = head-within _ (cc)

pub returns-in_err-lists : goal.returns-in_err-lists
returns-in_err-lists c = c.from_residual.ensures ∙ no-cards _ (cc) (sym c.in_err-lists.ensures)

pub lists_to-requires : goal.lists_to-requires
lists_to-requires c =
    let h = head-within c.args.s.now (cc) in
    (h, cards-within _ _ h (sym c.in_ok-lists.ensures))

pub returns-in_err-memory : goal.returns-in_err-memory
returns-in_err-memory c =
    c.from_residual-in_err-memory.ensures ∙ no-lists _ (cc) _ (sym c.in_ok-lists.ensures) (sym c.in_err-memory.ensures)

pub memory_to-requires : goal.memory_to-requires
memory_to-requires c =
    let h = head-within c.args.s.now (cc) in
    lists-within _ _ _ (cards-within _ _ h (sym c.in_ok-lists.ensures)) (sym c.in_ok-memory.ensures)

pub returns-in_err-end : goal.returns-in_err-end
returns-in_err-end c =
    c.from_residual-in_err-end.ensures ∙ no-memory _ (cc) _ (sym c.in_ok-lists.ensures) _ (sym c.in_ok-memory.ensures) (sym c.in_err-end.ensures)

pub returns-then-end-s : goal.returns-then-end-s
returns-then-end-s c =
    too_many _ (cc) _ (sym c.in_ok-lists.ensures) _ (sym c.in_ok-memory.ensures) _ (sym c.in_ok-end.ensures) c.if-end-s.true

pub get_u16-requires : goal.get_u16-requires
get_u16-requires c = let h = head-within c.args.s.now (cc) in omega arith

pub returns : goal.returns
returns c =
    a-book _ (cc) _ (sym c.in_ok-lists.ensures) _ (sym c.in_ok-memory.ensures) _ (sym c.in_ok-end.ensures) _
    (c.from-places.ensures ∙ c.get_u16.ensures) c.if-end-s.false
