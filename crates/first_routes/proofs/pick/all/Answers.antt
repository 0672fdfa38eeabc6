-- From each node that is reached backwards an arc goes on (`goes_on`); a node more has its arc (`picked_more`), and nothing that is gone by has changed.
use Rattle.std.proofs.Common.{arith, refl}
use Rattle.table.specs.Table.{net_of}
use Rattle.distances.proofs.Greedy.{goes_on}
use Rattle.working_room.proofs.RoomLaws.{within_same, within-trans}
use Rattle.reach.specs.Stand.{dist_in, last_in}
use Rattle.first_routes.specs.Firsts.{far, back}
use Rattle.first_routes.proofs.OutLaws.{measured-same}
use Rattle.first_routes.proofs.PickLaws.{back-same, goes-on-same, picked_more}
use Rattle.first_routes.proofs.pick.all.Goals as goal

pub loop-v-init : goal.loop-v-init
loop-v-init c =
    let room = c.args.room.now in
    record {
      within = within_same 28 4 room;
      measured = record { no-fault = c.requires.0; roomy = c.requires.2; most = c.requires.3.most; noted = c.requires.4 };
      on = record {
        on = λ v h ne. let g = goes_on (net_of c.args.nodes c.args.table.now c.args.closed.now) c.args.goal far (dist_in back c.args.nodes room) (last_in back room) c.requires.3 v h ne in (g.0, g.1);
      };
      picked = record { each = λ v h. absurd (omega arith) };
    }

pub loop-v-preserved : goal.loop-v-preserved
loop-v-preserved c =
    let l = c.loop-v in
    let room = c.one.new.room in
    let w = c.one.ensures in
    record {
      within = within-trans l.invariant.within w.within;
      measured = measured-same back c.args.nodes c.args.table.now l.room room w.within.long (back-same c.args.nodes l.room room w.within) (λ u. w.within.field 4 u 56 refl refl) l.invariant.measured;
      on = goes-on-same (net_of c.args.nodes c.args.table.now c.args.closed.now) c.args.goal l.room room w.within l.invariant.on;
      picked = picked_more (net_of c.args.nodes c.args.table.now c.args.closed.now) c.args.goal l.room room l.v l.invariant.picked w;
    }

pub returns : goal.returns
returns c = (c.loop-v.invariant.within, record { each = λ v h. c.loop-v.invariant.picked.each v (omega arith) })
