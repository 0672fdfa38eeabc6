-- The next arc to try is the next open one of the run of v. Each way out is a law of the walk: back where there is none, past it, or down by it.
use Rattle.std.proofs.Common.{List, ℕ, Some, Option, ◌+◌, ◌<◌, arith, sym, ap, subst, ◌∙◌}
use Rattle.table.specs.Table.{to_at}
use Rattle.table.specs.Run.{run_start}
use Rattle.table.proofs.FaultLaws.{good-size}
use Rattle.table.proofs.RunLaws.{run-le}
use Rattle.closures.specs.Closed.{next_open}
use Rattle.working_room.specs.Field.{Within}
use Rattle.working_room.proofs.RoomLaws.{within_same}
use Rattle.first_routes.specs.Walking.{Stood, left}
use Rattle.first_routes.specs.declared.walk.At.{At}
use Rattle.first_routes.proofs.OutLaws.{next-within}
use Rattle.first_routes.proofs.WalkLaws.{v_below, last-below, up-on, past_by, some_left, down-within, down-on}
use Rattle.first_routes.proofs.walk.step.Goals as goal

-- what a step leaves
abbrev Stepped : ℕ → List ℕ → List ℕ → ℕ → List ℕ → At → List ℕ → Option At → Type 0
Stepped nodes t closed s l x m y = Within 20 8 l m × Stood nodes t closed s m y × (left nodes t s m y < left nodes t s l (Some x))

pub end_of-end-requires : goal.end_of-end-requires
end_of-end-requires c =
    let measured = c.requires.0.measured in
    (measured.no-fault, measured.roomy, measured.noted, v_below c.args.nodes c.args.table.now c.args.closed.now c.args.s c.args.room.now c.requires.0 c.args.at c.requires.1)

pub up-requires : goal.up-requires
up-requires c =
    (omega (arith, v_below c.args.nodes c.args.table.now c.args.closed.now c.args.s c.args.room.now c.requires.0 c.args.at c.requires.1, c.requires.0.measured.roomy.enough), last-below c.args.nodes c.args.table.now c.args.closed.now c.args.s c.args.room.now c.requires.0 c.args.at c.requires.1)

pub returns-then-arc-end : goal.returns-then-arc-end
returns-then-arc-end c =
    let next = c.next_arc-arc.ensures ∙ ap (next_open c.args.closed.now c.args.at.arc) c.end_of-end.ensures in
    let up = up-on c.args.nodes c.args.table.now c.args.closed.now c.args.s c.args.room.now c.requires.0 c.args.at c.requires.1 c.next_arc-arc.result next (c.if-arc-end.true ∙ c.end_of-end.ensures) in
    subst (Stepped c.args.nodes c.args.table.now c.args.closed.now c.args.s c.args.room.now c.args.at c.args.room.now) (sym c.up.ensures) (within_same 20 8 c.args.room.now, up.0, up.1)

pub leads-requires : goal.leads-requires
leads-requires c =
    let next = c.next_arc-arc.ensures ∙ ap (next_open c.args.closed.now c.args.at.arc) c.end_of-end.ensures in
    let inside : c.next_arc-arc.result < run_start c.args.table.now (c.args.at.v + 1) =
    omega (arith, (next-within c.args.closed.now c.args.at.arc (run_start c.args.table.now (c.args.at.v + 1)) c.next_arc-arc.result c.requires.1.run-to next).1, c.if-arc-end.false, c.end_of-end.ensures) in
    (c.requires.0.measured, v_below c.args.nodes c.args.table.now c.args.closed.now c.args.s c.args.room.now c.requires.0 c.args.at c.requires.1, omega (arith, inside, run-le c.args.table.now (c.args.at.v + 1)))

pub overflow_add-result : goal.overflow_add-result
overflow_add-result c =
    let next = c.next_arc-arc.ensures ∙ ap (next_open c.args.closed.now c.args.at.arc) c.end_of-end.ensures in
    let inside : c.next_arc-arc.result < run_start c.args.table.now (c.args.at.v + 1) =
    omega (arith, (next-within c.args.closed.now c.args.at.arc (run_start c.args.table.now (c.args.at.v + 1)) c.next_arc-arc.result c.requires.1.run-to next).1, c.if-arc-end.false, c.end_of-end.ensures) in
    omega (arith, inside, run-le c.args.table.now (c.args.at.v + 1), (good-size c.args.nodes c.args.table.now c.requires.0.measured.no-fault).3)

pub returns-then-not-leads : goal.returns-then-not-leads
returns-then-not-leads c =
    let next = c.next_arc-arc.ensures ∙ ap (next_open c.args.closed.now c.args.at.arc) c.end_of-end.ensures in
    let inside : c.next_arc-arc.result < run_start c.args.table.now (c.args.at.v + 1) =
    omega (arith, (next-within c.args.closed.now c.args.at.arc (run_start c.args.table.now (c.args.at.v + 1)) c.next_arc-arc.result c.requires.1.run-to next).1, c.if-arc-end.false, c.end_of-end.ensures) in
    let past = past_by c.args.nodes c.args.table.now c.args.closed.now c.args.s c.args.room.now c.requires.0 c.args.at c.requires.1 c.next_arc-arc.result next inside (sym c.leads.ensures ∙ c.if-not-leads.true) in
    (within_same 20 8 c.args.room.now, past.0, past.1)

pub down-requires : goal.down-requires
down-requires c =
    let next = c.next_arc-arc.ensures ∙ ap (next_open c.args.closed.now c.args.at.arc) c.end_of-end.ensures in
    let inside : c.next_arc-arc.result < run_start c.args.table.now (c.args.at.v + 1) =
    omega (arith, (next-within c.args.closed.now c.args.at.arc (run_start c.args.table.now (c.args.at.v + 1)) c.next_arc-arc.result c.requires.1.run-to next).1, c.if-arc-end.false, c.end_of-end.ensures) in
    let measured = c.requires.0.measured in (
      measured.no-fault,
      measured.roomy,
      omega (arith, inside, run-le c.args.table.now (c.args.at.v + 1)),
      some_left c.args.nodes c.args.table.now c.args.closed.now c.args.s c.args.room.now c.requires.0 c.args.at c.requires.1 c.next_arc-arc.result next inside (sym c.leads.ensures ∙ c.if-not-leads.false),
      measured.noted,
    )

pub returns : goal.returns
returns c =
    let next = c.next_arc-arc.ensures ∙ ap (next_open c.args.closed.now c.args.at.arc) c.end_of-end.ensures in
    let inside : c.next_arc-arc.result < run_start c.args.table.now (c.args.at.v + 1) =
    omega (arith, (next-within c.args.closed.now c.args.at.arc (run_start c.args.table.now (c.args.at.v + 1)) c.next_arc-arc.result c.requires.1.run-to next).1, c.if-arc-end.false, c.end_of-end.ensures) in
    let on = sym c.leads.ensures ∙ c.if-not-leads.false in
    let down = down-on c.args.nodes c.args.table.now c.args.closed.now c.args.s c.args.room.now c.requires.0 c.args.at c.requires.1 c.next_arc-arc.result next inside on in
    let within = down-within c.args.nodes c.args.table.now c.args.closed.now c.args.s c.args.room.now c.requires.0 c.args.at c.requires.1 c.next_arc-arc.result next inside on in
    let w = to_at c.args.table.now c.next_arc-arc.result in
    let y : At = record { v = w; arc = run_start c.args.table.now w; many = c.args.at.many + 1 } in
    subst (λ x. Stepped c.args.nodes c.args.table.now c.args.closed.now c.args.s c.args.room.now c.args.at c.down.new.room (Some x)) (sym c.down.ensures.1)
    (subst (λ m. Stepped c.args.nodes c.args.table.now c.args.closed.now c.args.s c.args.room.now c.args.at m (Some y)) (sym c.down.ensures.0) (within, down.0, down.1))
