-- A record that starts at another node, or none, is past the run.
use Rattle.std.proofs.Common.{◌≡◌, sym, ◌∙◌, arith, ◌≤◌, ◌+◌}
use Rattle.table.specs.Table.{records, from_at}
use Rattle.table.specs.Run.{run_start}
use Rattle.table.proofs.RunLaws.{run-le, run-mono, run-has}
use Rattle.labels.specs.Chain.{chain_at, chains_in}
use Rattle.search_ask.specs.Earlier.{earlier_of}
use Rattle.search_batch.proofs.GatherLaws.{run-over}
use Rattle.search_advance.specs.Own.{arc_in, own_last}
use Rattle.search_advance.proofs.OwnLaws.{walk_start, walk_end, run-leaves}
use Rattle.search_advance.proofs.pass.Goals as goal

pub loop-arc-init : goal.loop-arc-init
loop-arc-init c =
    let chain = chain_at c.args.labels.now c.args.x.label in
    record {
      in_run = omega (arith, c.requires.4, run-mono c.args.table.now c.args.v);
      best =
          walk_start c.args.ask c.args.table.now c.args.closed.now c.args.labels.now (earlier_of c.args.ask c.args.area.now c.args.lens.now) (chains_in c.args.labels.now c.args.x.n)
          (own_last chain c.args.x.from) chain c.requires.0.searching.accepted.no-fault c.args.v c.requires.3 _ c.requires.4;
    }

-- the record starts at v
pub look-best-requires : goal.look-best-requires
look-best-requires c =
    let chain = chain_at c.args.labels.now c.args.x.label in (
      c.requires.0,
      c.requires.1,
      c.requires.2,
      run-leaves c.args.ask c.args.table.now c.args.closed.now c.args.labels.now (earlier_of c.args.ask c.args.area.now c.args.lens.now) (chains_in c.args.labels.now c.args.x.n)
          (own_last chain c.args.x.from) chain c.requires.0.searching.accepted.no-fault c.args.v c.requires.3 c.loop-arc.arc c.loop-arc-test.true (sym c.from_of.ensures ∙ c.if-from_of-v.false),
      c.loop-arc.invariant.best,
    )

pub loop-arc-preserved : goal.loop-arc-preserved
loop-arc-preserved c =
    let starts : from_at c.args.table.now c.loop-arc.arc ≡ c.args.v = sym c.from_of.ensures ∙ c.if-from_of-v.false in
    record {
      in_run = omega (arith, (run-has c.args.ask.nodes c.args.table.now c.requires.0.searching.accepted.no-fault c.args.v c.loop-arc.arc c.loop-arc-test.true starts).1);
      best = c.look-best.ensures;
    }

pub returns-after-loop-arc : goal.returns-after-loop-arc
returns-after-loop-arc c =
    let chain = chain_at c.args.labels.now c.args.x.label in
    walk_end c.args.ask c.args.table.now c.args.closed.now c.args.labels.now (earlier_of c.args.ask c.args.area.now c.args.lens.now) (chains_in c.args.labels.now c.args.x.n)
    (own_last chain c.args.x.from) chain c.requires.0.searching.accepted.no-fault c.args.v c.requires.3 c.loop-arc.arc (records c.args.table.now)
    (arc_in c.loop-arc.best) c.loop-arc.invariant.best (omega (arith, run-le c.args.table.now (c.args.v + 1), c.loop-arc-test.false))

pub returns-then-from_of-v : goal.returns-then-from_of-v
returns-then-from_of-v c =
    let chain = chain_at c.args.labels.now c.args.x.label in
    let ok = c.requires.0.searching.accepted.no-fault in
    let in_run : run_start c.args.table.now c.args.v ≤ c.loop-arc.arc = omega (arith, c.requires.4) in
    walk_end c.args.ask c.args.table.now c.args.closed.now c.args.labels.now (earlier_of c.args.ask c.args.area.now c.args.lens.now) (chains_in c.args.labels.now c.args.x.n)
    (own_last chain c.args.x.from) chain ok c.args.v c.requires.3 c.loop-arc.arc (records c.args.table.now)
    (arc_in c.loop-arc.best) c.loop-arc.invariant.best
    (run-over c.args.ask.nodes c.args.table.now c.args.closed.now ok c.args.v c.loop-arc.arc in_run (λ z. c.if-from_of-v.true (c.from_of.ensures ∙ z)))
