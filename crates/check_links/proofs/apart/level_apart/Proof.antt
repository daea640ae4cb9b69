-- `level_apart` meets its contract: where the spans rise the links of each table decide, else all tables are compared.
use mathlib.Core.Path.{sym, ◌∙◌}
use borrow.Author.Rules.{rules}
use Rattle.check_walk.proofs.ApartLaws.{level-parts, level-rising}
use Rattle.check_links.proofs.apart.level_apart.Statement.{statement}
use Rattle.check_links.proofs.apart.level_apart.Tie as tie

owns-apart-requires : tie.Need-owns_apart-requires
owns-apart-requires c κs = c.requires.names

returns : tie.Need-returns-then-not-owns_apart
returns c = sym (level-parts c.args.cards.now c.args.items.now ∙ rw (sym c.owns_apart.ensures ∙ c.if-not-owns_apart.true))

rise-requires : tie.Need-rise-requires
rise-requires c κs = search rules

returns-2 : tie.Need-returns-then-rise
returns-2 c =
    sym (level-rising c.args.area.now c.args.cards.now c.requires.sized c.args.items.now c.requires.names c.requires.tables
    (sym c.rise.ensures ∙ c.if-rise.true)
    ∙ sym c.owns_apart.ensures ∙ c.if-not-owns_apart.false)

tables-apart-requires : tie.Need-tables_apart-requires
tables-apart-requires c κs = c.requires.names

returns-3 : tie.Need-returns
returns-3 c = c.tables_apart.ensures ∙ sym (level-parts c.args.cards.now c.args.items.now ∙ rw (sym c.owns_apart.ensures ∙ c.if-not-owns_apart.false))

pub level_apart_spec : {M : Type 1} → statement M
level_apart_spec =
    tie.close (tie.spec owns-apart-requires returns rise-requires returns-2 tables-apart-requires returns-3)
