-- A node that has left the queue has no key, and gets none (`judged-gone`).
use mathlib.Core.Path.{sym, ◌∙◌}
use native.Mathlib.Omega.{arith}
use borrow.Author.Rules.{rules}
use Rattle.search_ask.specs.Earlier.{route_in}
use Rattle.node_queue.proofs.WinnerLaws.{room_at}
use Rattle.via_drop.proofs.DropLaws.{judged-gone}
use Rattle.via_drop.proofs.judge.Statement.{statement}
use Rattle.via_drop.proofs.judge.Tie as tie

abbrev start : tie.After-long → tie.Start
start c = c.before.before.before.before.before

long-requires : tie.Need-long-requires
long-requires c κs =
    let s = c in
    (room_at s.requires.0.led.roomy s.args.v s.requires.1, omega arith)

returns : tie.Need-returns-then-long
returns c =
    let k = c.before in
    let s = start k in
    (s.requires.0, judged-gone s.args.ask s.args.table.now (route_in s.args.slot.now) s.args.room.now s.args.v s.args.root s.requires.2 (sym k.long.ensures ∙ c.if-long.true))

returns-2 : tie.Need-returns
returns-2 c = c.weigh.ensures

pub judge_spec : {M : Type 1} → statement M
judge_spec =
    tie.close
    (tie.spec
    long-requires
    (λ c. search rules)
    returns
    (λ c κs. let s = start c.before.before in s.requires)
    (λ c. omega (arith, c.weigh.ensures.1.beside.long))
    returns-2)
