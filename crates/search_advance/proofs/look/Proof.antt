-- A closed arc is none to look at; an open one is `better`'s.
use mathlib.Core.Path.{sym, ◌∙◌}
use borrow.Author.Rules.{rules}
use borrow.Author.Tests.{not-true, not-false}
use Rattle.labels.specs.Chain.{chain_at, chains_in}
use Rattle.search_ask.specs.Earlier.{earlier_of}
use Rattle.search_advance.specs.Own.{arc_in, own_last}
use Rattle.search_advance.proofs.OwnLaws.{look-closed, leaves-open}
use Rattle.search_advance.proofs.look.Statement.{statement}
use Rattle.search_advance.proofs.look.Tie as tie

abbrev start : tie.After-is_closed → tie.Start
start c = c.before.before.before.before.before.before.before

returns : tie.Need-returns-then-is_closed
returns c =
    let s = start c.before in
    let chain = chain_at s.args.labels.now s.args.x.label in
    look-closed s.args.ask s.args.table.now s.args.closed.now s.args.labels.now (earlier_of s.args.ask s.args.area.now s.args.lens.now) (chains_in s.args.labels.now s.args.x.n)
    (own_last chain s.args.x.from) chain s.args.arc (arc_in s.args.best) (not-true _ (sym c.is_closed.ensures ∙ c.if-is_closed.true)) s.requires.4

better-requires : tie.Need-better-requires
better-requires c κs =
    let s = start c.before in
    (s.requires.0, s.requires.1, s.requires.2, leaves-open s.args.ask s.args.table.now s.args.closed.now _ s.args.arc (not-false _ (sym c.is_closed.ensures ∙ c.if-is_closed.false)) s.requires.3, s.requires.4)

pub look_spec : {M : Type 1} → statement M
look_spec = tie.close (tie.spec (λ c κs. search rules) returns better-requires (λ c. c.better.ensures))
