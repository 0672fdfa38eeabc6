-- The room before the first step has the ranks unset but that of s (`begun`), so the walk starts (`start-on`).
use Rattle.std.proofs.Common.{◌≡◌, ◌≢◌, ℕ, ◌<◌, arith, sym, subst}
use Rattle.distances.proofs.Dijkstra.{found-steady}
use Rattle.table.specs.Table.{net_of}
use Rattle.working_room.specs.Field.{Within}
use Rattle.working_room.proofs.RoomLaws.{within_same, within-trans}
use Rattle.reach.specs.Stand.{dist_in, last_in}
use Rattle.first_routes.specs.Firsts.{far, forth, none, rank_in}
use Rattle.first_routes.specs.Walking.{OnWay}
use Rattle.first_routes.proofs.EnterLaws.{begun}
use Rattle.first_routes.proofs.WalkLaws.{ready-same, start-on}
use Rattle.first_routes.proofs.walk.all.Goals as goal

pub start_of-requires : goal.start_of-requires
start_of-requires c =
    let ranked = subst
    (λ m. Within 20 8 c.args.room.now m × (rank_in m c.args.s ≡ 0) × ((v : ℕ) → v < c.args.nodes → v ≢ c.args.s → rank_in m v ≡ none))
    (sym c.put_word.ensures)
    (begun c.args.nodes c.args.s c.args.room.now c.unset.new.room (omega (arith, c.requires.1, c.requires.2.enough, c.unset.ensures.0.long)) c.unset.ensures.0 c.unset.ensures.1) in
    let ready = ready-same c.args.nodes c.args.table.now c.args.closed.now c.args.s c.args.room.now c.put_word.new.room ranked.0
    (record {
      measured = record { no-fault = c.requires.0; roomy = c.requires.2; most = c.requires.3.most; noted = c.requires.4 };
      s-below = c.requires.1;
      steady = found-steady (net_of c.args.nodes c.args.table.now c.args.closed.now) c.args.s far (dist_in forth c.args.nodes c.args.room.now) (last_in forth c.args.room.now) c.requires.3;
    }) in
    (ready.measured.roomy, ready.measured.noted, ready.s-below)

pub loop-next-init : goal.loop-next-init
loop-next-init c =
    let ranked = subst
    (λ m. Within 20 8 c.args.room.now m × (rank_in m c.args.s ≡ 0) × ((v : ℕ) → v < c.args.nodes → v ≢ c.args.s → rank_in m v ≡ none))
    (sym c.put_word.ensures)
    (begun c.args.nodes c.args.s c.args.room.now c.unset.new.room (omega (arith, c.requires.1, c.requires.2.enough, c.unset.ensures.0.long)) c.unset.ensures.0 c.unset.ensures.1) in
    let ready = ready-same c.args.nodes c.args.table.now c.args.closed.now c.args.s c.args.room.now c.put_word.new.room ranked.0
    (record {
      measured = record { no-fault = c.requires.0; roomy = c.requires.2; most = c.requires.3.most; noted = c.requires.4 };
      s-below = c.requires.1;
      steady = found-steady (net_of c.args.nodes c.args.table.now c.args.closed.now) c.args.s far (dist_in forth c.args.nodes c.args.room.now) (last_in forth c.args.room.now) c.requires.3;
    }) in
    let start = start-on c.args.nodes c.args.table.now c.args.closed.now c.args.s c.put_word.new.room ready ranked.1 ranked.2 in
    record {
      within = within_same 20 8 c.put_word.new.room;
      ready = ready;
      stood = subst (λ a. OnWay c.args.nodes c.args.table.now c.args.closed.now c.args.s c.put_word.new.room (record { v = c.args.s; arc = a; many = 1 })) (sym c.start_of.ensures) start;
    }

pub returns : goal.returns
returns c =
    let ranked = subst
    (λ m. Within 20 8 c.args.room.now m × (rank_in m c.args.s ≡ 0) × ((v : ℕ) → v < c.args.nodes → v ≢ c.args.s → rank_in m v ≡ none))
    (sym c.put_word.ensures)
    (begun c.args.nodes c.args.s c.args.room.now c.unset.new.room (omega (arith, c.requires.1, c.requires.2.enough, c.unset.ensures.0.long)) c.unset.ensures.0 c.unset.ensures.1) in
    (within-trans ranked.0 c.loop-next.invariant.within, rw c.in_default.is at c.loop-next.invariant.stood)
