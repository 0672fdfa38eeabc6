-- Before the run of u no arc starts at u, so the walk begins at the run's start or at `lo`, whichever is later.
use Rattle.std.proofs.Common.{◌≡◌, arith, ap, ◌∙◌, max}
use Rattle.table.proofs.RunLaws.{run-le}
use Rattle.second.specs.Find.{next_from}
use Rattle.second.proofs.FindLaws.{next-max}
use Rattle.second.proofs.find.next.Goals as goal

pub walk-requires : goal.walk-requires
walk-requires c =
    let le = run-le c.args.table.now c.args.u in
    (c.requires.0, omega (arith, c.max.ensures, c.requires.1), omega (arith, c.max.ensures, c.requires.1, c.requires.2, le))

pub returns : goal.returns
returns c =
    let e : next_from c.args.table.now c.args.u c.args.v c.max.result ≡ next_from c.args.table.now c.args.u c.args.v c.args.lo = ap (next_from c.args.table.now c.args.u c.args.v) (c.max.ensures ∙ ap (max c.args.lo) c.requires.1) ∙ next-max c.args.table.now c.args.u c.args.v c.args.lo in
    rw e at c.walk.ensures
