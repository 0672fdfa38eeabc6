-- The first slot of the area is lent for the path; what the listing leaves of it is the area's again, and the room is cleared.
use Rattle.std.proofs.Common.{◌≡◌, ◌-◌, refl, ◌∙◌, arith}
use Rattle.words.proofs.PartLaws.{lent}
use Rattle.query_variety.proofs.MadeLaws.{ranged, listing}
use Rattle.query_variety.proofs.made.listed.Goals as goal

pub list-n-requires : goal.list-n-requires
list-n-requires c =
    let a = c.requires.0 in
    let r = ranged c.args.wish.c c.args.wish.d c.requires.1 in
    let whole : c.args.ask.nodes - 1 - 0 ≡ c.args.ask.nodes - 1 = omega arith in (
      record {
        fine = a.no-fault;
        s-below = a.s-below;
        goal-below = a.goal-below;
        apart = a.apart;
        d-most = r.d-most;
        c-most = r.c-most;
        path-long = lent 0 (c.args.ask.nodes - 1) c.args.area.now (omega arith) c.requires.2 ∙ whole;
        roomy = c.requires.3;
      },
      c.requires.4,
    )

pub returns : goal.returns
returns c =
    let e = c.list-n.ensures in
    listing _ _ _ _ _ c.args.area.now c.args.room.now _ c.list-n.new.path c.list-n.new.room _ _ _ c.requires.2 e.0 e.1 e.2 e.3 refl c.fill.ensures
