-- The arcs that go on from v are open ones of its run (`out-run`, `run_out`), and just as long as what they bring nearer (`nearer-e`, `nearer-i`).
use Rattle.std.proofs.Common.{◌≡◌, ◌+◌, ◌<◌, arith, sym, subst, ◌∙◌}
use borrow.Author.Tests.{eqb-true, eqb-false, not-true, not-false}
use lib.Dec.{T}
use Rattle.table.specs.Table.{to_at, len_at, is_open_at}
use Rattle.table.specs.Run.{run_start}
use Rattle.table.proofs.RunLaws.{run-le}
use Rattle.working_room.specs.Field.{long_at}
use Rattle.first_routes.specs.Firsts.{back}
use Rattle.first_routes.proofs.OutLaws.{out-run, dist-at}
use Rattle.first_routes.proofs.PickLaws.{nearer-e, nearer-i}
use Rattle.first_routes.proofs.pick.lowest.Goals as goal
use Rattle.first_routes.proofs.pick.lowest.Goals.{else-not-is_closed-via-then-not-is_closed+else-nearer, else-not-is_closed-via-else-not-is_closed}

pub loop-arc-init : goal.loop-arc-init
loop-arc-init c = λ b n. omega (arith, c.start_of-first.ensures, (out-run c.args.nodes c.args.table.now c.args.closed.now c.requires.0.no-fault c.args.v b n.is-leaving).0)

pub nearer-requires : goal.nearer-requires
nearer-requires c = (c.requires.0, c.requires.2, omega (arith, c.end_of-end.ensures, run-le c.args.table.now (c.args.v + 1)))

pub returns-then-nearer : goal.returns-then-nearer
returns-then-nearer c =
    let arc = c.loop-arc.arc in
    let below : arc < run_start c.args.table.now (c.args.v + 1) = omega (arith, c.end_of-end.ensures) in
    let usable = not-false (is_open_at c.args.closed.now arc) (sym c.is_closed.ensures ∙ c.if-not-is_closed.true) in (
      omega (arith, run-le c.args.table.now (c.args.v + 1)),
      record {
        nearer = nearer-i c.args.nodes c.args.table.now c.args.closed.now c.requires.0.no-fault c.args.room.now c.args.v c.requires.2 arc (omega (arith, c.start_of-first.ensures)) below usable
            (eqb-true _ _ (sym c.nearer.ensures ∙ c.if-nearer.true));
        lowest = c.loop-arc.invariant;
      },
    )

pub loop-arc-preserved : goal.loop-arc-preserved
loop-arc-preserved c = λ b n.
    let t = c.args.table.now in
    let arc = c.loop-arc.arc in
    let ne : arc ≡ b → ⊥ = λ z.
    elim c.else-not-is_closed.branch [
      | else-not-is_closed-via-then-not-is_closed+else-nearer w ↦
          eqb-false _ _ (sym w.nearer.ensures ∙ w.if-nearer.false)
          (subst (λ x. len_at t x + long_at 32 c.args.room.now (to_at t x) ≡ long_at 32 c.args.room.now c.args.v) (sym z)
          (nearer-e c.args.nodes t c.args.closed.now c.requires.0.no-fault c.args.room.now c.args.v c.requires.2 b n))
      | else-not-is_closed-via-else-not-is_closed w ↦
          let shut = not-true (is_open_at c.args.closed.now arc) (sym c.is_closed.ensures ∙ w.if-not-is_closed.false) in
          subst T shut (subst (λ x. T (is_open_at c.args.closed.now x)) (sym z) (out-run c.args.nodes t c.args.closed.now c.requires.0.no-fault c.args.v b n.is-leaving).2)
    ] in
    omega (arith, ne, c.loop-arc.invariant b n)

pub unreachable-requires : goal.unreachable-requires
unreachable-requires c =
    let reached = c.requires.1.on c.args.v (omega (arith, c.requires.4, dist-at back c.args.nodes c.args.room.now c.args.v c.requires.2)) c.requires.3 in
    let run = out-run c.args.nodes c.args.table.now c.args.closed.now c.requires.0.no-fault c.args.v reached.0 reached.1.is-leaving in
    omega (arith, c.loop-arc.invariant reached.0 reached.1, run.1, c.end_of-end.ensures)
