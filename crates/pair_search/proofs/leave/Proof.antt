-- u is done; then its own arcs are looked at, and last the arc back. Each part of the turn begins where the one before it ends.
use native.Mathlib.Omega.{arith}
use borrow.Author.Rules.{rules}
use Rattle.net.specs.Net.{Net}
use Rattle.table.specs.Table.{arcs_of, net_of}
use Rattle.node_queue.specs.Queue.{Queue}
use Rattle.reach.proofs.StandLaws.{else-queue, record-in}
use Rattle.reach.proofs.NotesLaws.{leaving-else}
use Rattle.pair.specs.Walked.{Waits, Backward}
use Rattle.pair_room.specs.Room.{again, kept_in}
use Rattle.pair_room.specs.Stages.{last_of}
use Rattle.pair_room.proofs.RoomLaws.{again-before}
use Rattle.pair_search.specs.Turn.{At}
use Rattle.pair_search.proofs.TurnLaws.{arcs-few, between-queue, at-begin, at_anew, at-since}
use Rattle.pair_search.proofs.leave.Statement.{statement}
use Rattle.pair_search.proofs.leave.Tie as tie

abbrev begun : tie.After-set_key-root → tie.Start
begun k = k.before.before.before.before.before.before

abbrev net : tie.Start → Net
net s = net_of s.args.nodes s.args.table.now s.args.closed.now

queue : (s : tie.Start) → Queue s.args.nodes s.args.room.now s.args.u
queue s = between-queue (net s) s.args.s s.args.goal s.args.room.now s.args.u s.requires.1

long-requires : tie.Need-long-d-requires
long-requires c κs =
    let s = c.before.before.before in
    (record-in s.args.nodes s.args.room.now s.args.u (queue s).roomy (queue s).root.used, omega arith)

set-key-requires : tie.Need-set_key-root-requires
set-key-requires c κs = let q = queue c.before.before.before.before.before in (q.roomy, q.root.used, q.tree)

-- the turn as it begins
begins : (k : tie.After-set_key-root)
    → At (net (begun k)) (begun k).args.s (begun k).args.goal (begun k).args.room.now k.set_key-root.new.room k.set_key-root.result (begun k).args.u k.long-d.result
    (Waits (net (begun k)) (kept_in (begun k).args.nodes k.set_key-root.new.room) (last_of k.set_key-root.new.room) (begun k).args.u 0)
begins k =
    let s = begun k in
    at-begin (net s) s.args.s s.args.goal (arcs-few s.args.nodes s.args.table.now s.requires.0) s.args.room.now s.args.u s.requires.1 s.requires.2
    k.set_key-root.new.room k.set_key-root.result k.set_key-root.ensures k.long-d.result k.long-d.ensures

own-requires : tie.Need-own-first-requires
own-requires c κs =
    let k = c.before.before.before in
    let s = begun k in
    let m = k.set_key-root.new.room in (
      s.requires.0,
      (queue s).root.used,
      at_anew (net s) s.args.s s.args.goal s.args.room.now m k.set_key-root.result s.args.u k.long-d.result (Waits (net s) (kept_in s.args.nodes m) (last_of m) s.args.u 0) (begins k),
      leaving-else again again-before s.args.nodes s.args.table.now (else-queue again k.set_key-root.ensures.within) s.requires.3,
    )

abbrev keyed : tie.After-own-first → tie.After-set_key-root
keyed o = o.before.before.before.before

back-requires : tie.Need-back-requires
back-requires c κs =
    let o = c.before.before.before in
    let k = keyed o in
    let s = begun k in
    let m = o.own-first.new.room in (
      s.requires.0,
      (queue s).root.used,
      at_anew (net s) s.args.s s.args.goal k.set_key-root.new.room m o.own-first.result s.args.u k.long-d.result
          (Backward (arcs_of s.args.table.now) (kept_in s.args.nodes m) (last_of m) s.args.u) o.own-first.ensures,
    )

returns : tie.Need-returns
returns c =
    let b = c in
    let o = b.before.before.before.before.before.before in
    let k = keyed o in
    let s = begun k in
    let d = k.long-d.result in
    let l = k.set_key-root.new.room in
    let m = o.own-first.new.room in
    let e = b.back.new.room in
    at-since (net s) s.args.s s.args.goal s.args.room.now l k.set_key-root.result s.args.u d (Waits (net s) (kept_in s.args.nodes l) (last_of l) s.args.u 0) (begins k) e b.back.result
    (at-since (net s) s.args.s s.args.goal l m o.own-first.result s.args.u d (Backward (arcs_of s.args.table.now) (kept_in s.args.nodes m) (last_of m) s.args.u) o.own-first.ensures e
    b.back.result b.back.ensures)

pub leave_spec : {M : Type 1} → statement M
leave_spec = tie.close (tie.spec long-requires set-key-requires own-requires back-requires (λ c. search rules) returns)
