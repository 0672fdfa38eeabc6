-- The rank's route is marked, the others are compared with it, and its marks are taken away again (`rank-tells`, `room_back`).
use borrow.Author.Rules.{rules}
use Rattle.near_choice.proofs.RankLaws.{slot-in, one-asks, room-roomy, lowest-asks, rank-tells, room_back}
use Rattle.near_choice.proofs.least.with_rank.Statement.{statement}
use Rattle.near_choice.proofs.least.with_rank.Tie as tie

abbrev start : tie.After-slot-one → tie.Start
start o = o.before.before.before.before.before

abbrev lent : tie.After-put_marks → tie.After-slot-one
lent p = p.before.before.before

abbrev put : tie.After-lowest-x → tie.After-put_marks
put x = x.before.before.before

slot-requires : tie.Need-slot-one-requires
slot-requires c κs =
    let s = c in
    slot-in s.args.table.now s.args.nodes s.args.w s.args.n s.args.list.now s.requires.0 s.args.r s.requires.4

length-requires : tie.Need-length-size-requires
length-requires c κs = let s = start c in one-asks s.args.table.now s.args.nodes s.args.w s.args.n s.args.list.now s.requires.0 s.args.room.now s.requires.1 s.args.r s.requires.4 _ c.slot-one.ensures

put-marks-requires : tie.Need-put_marks-requires
put-marks-requires c κs =
    let o = c.before.before in
    let s = start o in
    let k = one-asks s.args.table.now s.args.nodes s.args.w s.args.n s.args.list.now s.requires.0 s.args.room.now s.requires.1 s.args.r s.requires.4 _ o.slot-one.ensures in
    (k.0, k.1, k.2, s.requires.1.roomy)

lowest-requires : tie.Need-lowest-x-requires
lowest-requires c κs =
    let p = c.before.before in
    let o = lent p in
    let s = start o in
    let k = lowest-asks s.args.table.now s.args.nodes s.args.w s.args.n s.args.list.now s.requires.0 s.args.room.now s.requires.1 s.args.r s.requires.4 _ o.slot-one.ensures _ p.length-size.ensures _ p.put_marks.ensures s.args.ranks.now s.requires.2 in (
      s.requires.0,
      room-roomy s.args.table.now s.args.nodes s.args.w s.args.n s.args.list.now s.requires.0 s.args.room.now s.requires.1 s.args.r s.requires.4 _ o.slot-one.ensures _ p.length-size.ensures _ p.put_marks.ensures,
      s.requires.2,
      s.requires.3.over-few,
      s.requires.3.under-few,
      k.0,
      k.1,
    )

put-marks-requires-2 : tie.Need-put_marks-requires-2
put-marks-requires-2 c κs =
    let p = put c.before in
    let o = lent p in
    let s = start o in
    let k = one-asks s.args.table.now s.args.nodes s.args.w s.args.n s.args.list.now s.requires.0 s.args.room.now s.requires.1 s.args.r s.requires.4 _ o.slot-one.ensures in
    (k.0, k.1, k.2, room-roomy s.args.table.now s.args.nodes s.args.w s.args.n s.args.list.now s.requires.0 s.args.room.now s.requires.1 s.args.r s.requires.4 _ o.slot-one.ensures _ p.length-size.ensures _ p.put_marks.ensures)

returns : tie.Need-returns
returns c =
    let q = c in
    let x = q.before.before.before.before in
    let p = put x in
    let o = lent p in
    let s = start o in
    let k = room_back s.args.table.now s.args.nodes s.args.w s.args.n s.args.list.now s.requires.0 s.args.room.now s.requires.1 s.args.r s.requires.4 _ o.slot-one.ensures _ p.length-size.ensures _ p.put_marks.ensures _ q.put_marks-2.ensures in (
      rank-tells s.args.table.now s.args.nodes s.args.w s.args.n s.args.list.now s.requires.0 s.args.room.now s.requires.1 s.args.r s.requires.4 _ o.slot-one.ensures _ p.length-size.ensures _ p.put_marks.ensures s.args.ranks.now s.args.least x.lowest-x.result s.requires.2 s.requires.3 x.lowest-x.ensures.0 (x.lowest-x.ensures.1, x.lowest-x.ensures.2),
      k.0,
      k.1,
    )

pub with_rank_spec : {M : Type 1} → statement M
with_rank_spec =
    tie.close
    (tie.spec
    slot-requires
    length-requires
    put-marks-requires
    lowest-requires
    put-marks-requires-2
    (λ c. search rules)
    returns)
