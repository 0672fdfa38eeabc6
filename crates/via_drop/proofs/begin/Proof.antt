-- Nothing is known (`blank`), and then the numbers where the ways end (`begun-made`).
use mathlib.Core.Path.{ap}
use Prim.Native.Nat.{◌+◌, ◌*◌}
use native.Mathlib.Omega.{arith}
use borrow.Author.Rules.{rules}
use lib.ListN.{length}
use Rattle.words.proofs.NumberLaws.{length-put}
use Rattle.node_queue.proofs.WinnerLaws.{room_at, roomy-kept}
use Rattle.via_drop.specs.Walks.{Begun}
use Rattle.via_drop.proofs.WalkLaws.{begun-made}
use Rattle.via_drop.proofs.begin.Statement.{statement}
use Rattle.via_drop.proofs.begin.Tie as tie

abbrev start : tie.After-blank → tie.Start
start b = b.before.before.before.before

put-long-requires : tie.Need-put_long-requires
put-long-requires c κs =
    let b = c.before.before.before.before in
    let s = start b in
    (room_at (roomy-kept b.blank.ensures.within s.requires.0) s.args.ask.s s.requires.1, omega arith)

put-long-requires-2 : tie.Need-put_long-requires-2
put-long-requires-2 c κs =
    let p = c in
    let b = p.before.before.before.before.before.before.before.before.before in
    let s = start b in
    (omega (arith, room_at (roomy-kept b.blank.ensures.within s.requires.0) s.args.ask.goal s.requires.2, ap length p.put_long.ensures, length-put 8 b.blank.new.room (s.args.ask.s * 64 + 40) 0), omega arith)

begun : (c : tie.After-slice_known-4-1)
    → let q = c in let s = start q.before.before.before.before.before.before.before.before.before.before.before.before in
    Begun s.args.ask s.args.room.now q.put_long-2.new.room
begun c =
    let q = c in
    let p = q in
    let b = p.before.before.before.before.before.before.before.before.before.before.before.before in
    let s = start b in
    begun-made s.args.ask s.args.room.now b.blank.new.room p.put_long.new.room q.put_long-2.new.room s.requires.0 s.requires.1 s.requires.2 b.blank.ensures p.put_long.ensures q.put_long-2.ensures

pub begin_spec : {M : Type 1} → statement M
begin_spec =
    tie.close
    (tie.spec
    (λ c. search rules)
    (λ c κs. c.requires.0)
    (λ c. search rules)
    put-long-requires
    (λ c. search rules)
    put-long-requires-2
    (λ c. omega (arith, (begun c).within.long))
    begun)
