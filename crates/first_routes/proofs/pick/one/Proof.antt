-- The goal and what does not reach it stay as they are; else the lowest arc is stored, whose number fits a word.
use mathlib.Core.Path.{sym, subst}
use Prim.Native.Nat.{◌<◌}
use native.Mathlib.Omega.{arith}
use borrow.Author.Rules.{rules}
use Rattle.net.specs.Limits.{most_arcs}
use Rattle.table.specs.Table.{net_of}
use Rattle.table.proofs.FaultLaws.{good-size}
use Rattle.first_routes.specs.Firsts.{back}
use Rattle.first_routes.specs.Picking.{Chosen}
use Rattle.first_routes.proofs.OutLaws.{dist-at}
use Rattle.first_routes.proofs.PickLaws.{chosen_none, chosen-put}
use Rattle.first_routes.proofs.pick.one.Statement.{statement}
use Rattle.first_routes.proofs.pick.one.Tie as tie

abbrev start : tie.After-long → tie.Start
start c = c.before.before.before.before.before

returns : tie.Need-returns-then-v-goal
returns c =
    let s = c in
    chosen_none (net_of s.args.nodes s.args.table.now s.args.closed.now) s.args.goal s.args.v s.args.room.now (λ ne f. ne c.if-v-goal.true)

returns-2 : tie.Need-returns-then-long-ge-FAR
returns-2 c =
    let s = start c.before in
    chosen_none (net_of s.args.nodes s.args.table.now s.args.closed.now) s.args.goal s.args.v s.args.room.now
    (λ ne f. omega (arith, c.long.ensures, dist-at back s.args.nodes s.args.room.now s.args.v s.requires.2))

lowest-requires : tie.Need-lowest-arc-requires
lowest-requires c κs =
    let s = start c.before in
    (s.requires.0, s.requires.1, s.requires.2, c.if-v-goal.false, omega (arith, c.long.ensures))

abbrev picked : tie.After-lowest-arc → tie.Start
picked c = start c.before.before

small : (c : tie.After-lowest-arc) → c.lowest-arc.result < most_arcs
small c = let s = picked c in omega (arith, c.lowest-arc.ensures.0, (good-size s.args.nodes s.args.table.now s.requires.0.no-fault).3)

returns-3 : tie.Need-returns
returns-3 c =
    let p = c in
    let w = p.before.before.before.before in
    let s = picked w in
    subst (Chosen (net_of s.args.nodes s.args.table.now s.args.closed.now) s.args.goal s.args.v s.args.room.now) (sym p.put_word.ensures)
    (chosen-put (net_of s.args.nodes s.args.table.now s.args.closed.now) s.args.goal s.args.v s.args.room.now w.lowest-arc.result
    (omega (arith, s.requires.2, s.requires.0.roomy.enough)) (omega (arith, small w)) w.lowest-arc.ensures.1)

pub one_spec : {M : Type 1} → statement M
one_spec =
    tie.close
    (tie.spec
    returns
    (λ c κs. search rules)
    (λ c. search rules)
    returns-2
    lowest-requires
    (λ c. omega (arith, small c.before))
    (λ c κs. search rules)
    (λ c. search rules)
    returns-3)
