-- What each step asks and leaves is in SeekLaws; here it is read off the steps.
use Rattle.std.proofs.Common.{sym, ◌∙◌, arith}
use Rattle.near_choice.proofs.SeekLaws.{weighed, turn-begin, turn-done, rank-asks, skipped, call_asks, call-falls, went_on}
use Rattle.near_choice.proofs.+seek.Goals as goal
use Rattle.near_choice.proofs.+seek.Goals.{then-hope, else-hope}

pub returns-then-depth-ranks : goal.returns-then-depth-ranks
returns-then-depth-ranks t c = weighed c.args.table.now c.args.nodes c.args.w c.args.n c.args.list.now c.args.room.now c.args.ranks.now c.args.best.now c.args.depth c.args.from c.args.least c.args.known c.requires c.if-depth-ranks.true _ _ c.whole.ensures

pub loop-i-init : goal.loop-i-init
loop-i-init t c = turn-begin c.args.table.now c.args.nodes c.args.w c.args.n c.args.list.now c.args.room.now c.args.ranks.now c.args.best.now c.args.depth c.args.from c.args.least c.args.known c.requires

pub slice_bounds-with_rank-end : goal.slice_bounds-with_rank-end
slice_bounds-with_rank-end t c = omega (arith, c.loop-i.invariant.ranks-long, c.requires.deep)

pub with_rank-x-requires : goal.with_rank-x-requires
with_rank-x-requires t c = rank-asks c.args.table.now c.args.nodes c.args.w c.args.n c.args.list.now c.args.room.now c.args.ranks.now c.args.best.now c.args.depth c.args.from c.args.least c.args.known c.requires
    c.if-depth-ranks.false c.loop-i.i c.loop-i.room c.loop-i.ranks c.loop-i.best c.loop-i.found c.loop-i.invariant c.loop-i-test.true

pub bounds-ranks-depth : goal.bounds-ranks-depth
bounds-ranks-depth t c = omega (arith, c.loop-i.invariant.ranks-long, c.requires.deep, c.if-depth-ranks.false)

pub seek-found-requires : goal.seek-found-requires
seek-found-requires t c = (
  omega (
    arith,
    call-falls c.args.table.now c.args.nodes c.args.w c.args.n c.args.list.now c.args.room.now c.args.ranks.now c.args.best.now c.args.depth c.args.from c.args.least c.args.known c.requires
        c.if-depth-ranks.false c.loop-i.i c.loop-i.room c.loop-i.ranks c.loop-i.best c.loop-i.found c.loop-i.invariant c.loop-i-test.true c.with_rank-x.result _ c.with_rank-x.ensures.0 c.with_rank-x.ensures.1 c.with_rank-x.ensures.2,
    c.decreases,
  ),
  call_asks c.args.table.now c.args.nodes c.args.w c.args.n c.args.list.now c.args.room.now c.args.ranks.now c.args.best.now c.args.depth c.args.from c.args.least c.args.known c.requires
      c.if-depth-ranks.false c.loop-i.i c.loop-i.room c.loop-i.ranks c.loop-i.best c.loop-i.found c.loop-i.invariant c.loop-i-test.true c.with_rank-x.result _ c.with_rank-x.ensures.0 c.with_rank-x.ensures.1 c.with_rank-x.ensures.2 _ (omega arith),
)

pub loop-i-preserved : goal.loop-i-preserved
loop-i-preserved t c =
    elim c.if-hope.branch [
      | then-hope w ↦ rw (w.room-is, w.ranks-is, w.best-is, w.found-is)
          (went_on c.args.table.now c.args.nodes c.args.w c.args.n c.args.list.now c.args.room.now c.args.ranks.now c.args.best.now c.args.depth c.args.from c.args.least c.args.known c.requires
          c.if-depth-ranks.false c.loop-i.i c.loop-i.room c.loop-i.ranks c.loop-i.best c.loop-i.found c.loop-i.invariant c.loop-i-test.true c.with_rank-x.result _ c.with_rank-x.ensures.0 c.with_rank-x.ensures.1 c.with_rank-x.ensures.2
          (sym c.hope.ensures ∙ w.if-hope.true) _ _ _ _ w.seek-found.ensures)
      | else-hope w ↦ rw (w.room-is, w.ranks-is, w.best-is, w.found-is)
          (skipped c.args.table.now c.args.nodes c.args.w c.args.n c.args.list.now c.args.room.now c.args.ranks.now c.args.best.now c.args.depth c.args.from c.args.least c.args.known c.requires
          c.if-depth-ranks.false c.loop-i.i c.loop-i.room c.loop-i.ranks c.loop-i.best c.loop-i.found c.loop-i.invariant c.loop-i-test.true c.with_rank-x.result _ c.with_rank-x.ensures.0 c.with_rank-x.ensures.1 c.with_rank-x.ensures.2
          (sym c.hope.ensures ∙ w.if-hope.false))
    ]

pub returns : goal.returns
returns t c = turn-done c.args.table.now c.args.nodes c.args.w c.args.n c.args.list.now c.args.room.now c.args.ranks.now c.args.best.now c.args.depth c.args.from c.args.least c.args.known c.requires
    c.if-depth-ranks.false c.loop-i.i c.loop-i.room c.loop-i.ranks c.loop-i.best c.loop-i.found c.loop-i.invariant c.loop-i-test.false
