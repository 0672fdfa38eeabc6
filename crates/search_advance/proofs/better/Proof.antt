-- Each way out is a law of one look: the arc is passed over, it is dropped, or it is the best so far.
use mathlib.Core.Path.{sym, ◌∙◌}
use mathlib.Core.List.{List, []}
use mathlib.Core.Logic.{◌≢◌}
use Prim.Native.Nat.{ℕ, ◌<◌}
use native.Mathlib.Omega.{arith}
use borrow.Author.Tests.{not-true}
use Rattle.net.specs.Route.{length_of}
use Rattle.net.specs.Round.{Query}
use Rattle.net.proofs.Chains.{leaves-e}
use Rattle.table.specs.Table.{records, arcs_of}
use Rattle.table.proofs.NetLaws.{arcs-length}
use Rattle.labels.specs.Field.{no_number}
use Rattle.labels.specs.Chain.{chain_at, chains_in}
use Rattle.search_ask.specs.Ask.{net_for, query_for}
use Rattle.search_ask.specs.Earlier.{earlier_of}
use Rattle.search_ask.proofs.AskLaws.{few-records}
use Rattle.search_advance.specs.Own.{own_last}
use Rattle.search_advance.proofs.OwnLaws.{passes-open, look-past, look-drop, look-new, cursor-below}
use Rattle.search_advance.proofs.better.Statement.{statement}
use Rattle.search_advance.proofs.better.Tie as tie

abbrev start : tie.After-wanted → tie.Start
start c = c.before.before.before.before.before.before.before

abbrev query : tie.Start → Query
query s = query_for s.args.ask s.args.table.now s.args.closed.now s.args.labels.now

abbrev earlier : tie.Start → List (List ℕ)
earlier s = earlier_of s.args.ask s.args.area.now s.args.lens.now

abbrev taken : tie.Start → List (List ℕ)
taken s = chains_in s.args.labels.now s.args.x.n

abbrev chain : tie.Start → List ℕ
chain s = chain_at s.args.labels.now s.args.x.label

below : (s : tie.Start) → s.args.arc < records s.args.table.now
below s = omega (arith, (leaves-e (net_for s.args.ask s.args.table.now s.args.closed.now) _ s.args.arc s.requires.3).is-arc, arcs-length s.args.table.now)

best-below : (s : tie.Start) → s.args.best ≢ no_number → s.args.best < records s.args.table.now
best-below s ne =
    cursor-below s.args.ask s.args.table.now s.args.closed.now s.args.labels.now (earlier s) (taken s) (length_of (arcs_of s.args.table.now)) (own_last (chain s) s.args.x.from) (chain s) s.args.arc
    s.args.best ne s.requires.4

wanted-requires : tie.Need-wanted-requires
wanted-requires c κs = let s = c.before.before.before.before.before.before in (s.requires.2, best-below s, below s)

returns : tie.Need-returns-then-not-wanted
returns c =
    let s = start c.before in
    look-past (query s) (earlier s) (taken s) (chain s) s.args.x.from s.args.best s.args.arc s.requires.3 s.requires.4 (sym c.wanted.ensures ∙ c.if-not-wanted.true)

dropped-requires : tie.Need-dropped-requires
dropped-requires c κs = let s = start c.before in (s.requires.0, record { label-below = s.requires.1; arc-below = below s })

returns-2 : tie.Need-returns-then-dropped
returns-2 c =
    let s = start c.before.before.before in
    look-drop (query s) (earlier s) (taken s) (chain s) s.args.x.from s.args.best s.args.arc s.requires.3 s.requires.4
    (passes-open s.args.ask s.args.table.now s.args.closed.now [] s.args.labels.now (earlier s) (taken s) _ ∙ not-true _ (sym c.dropped.ensures ∙ c.if-dropped.true))

returns-3 : tie.Need-returns
returns-3 c =
    let e = c in
    let s = start e.before.before.before in
    look-new (query s) (earlier s) (taken s) (chain s) s.args.x.from s.args.best s.args.arc s.requires.3 s.requires.4 (sym e.wanted.ensures ∙ e.if-not-wanted.false)
    (λ z. omega (arith, below s, few-records s.requires.0.searching.accepted))

pub better_spec : {M : Type 1} → statement M
better_spec = tie.close (tie.spec wanted-requires returns dropped-requires returns-2 returns-3)
