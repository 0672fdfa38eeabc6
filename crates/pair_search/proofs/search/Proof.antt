-- The invariant: the search goes on between two nodes, and `key` is that of the first of the queue. At each turn one node more is done. The notes
-- are those at first, for the search leaves them.
use mathlib.Core.Path.{◌≡◌, refl, sym, subst, ◌∙◌}
use native.Mathlib.Omega.{arith}
use borrow.Author.Rules.{rules}
use lib.ListN.{length}
use Rattle.net.specs.Net.{Net}
use Rattle.table.specs.Table.{net_of}
use Rattle.node_queue.specs.Queue.{key_at}
use Rattle.reach.specs.declared.Stand.{Stand}
use Rattle.reach.specs.Stand.{Stands, done_in, Elsewhere}
use Rattle.reach.specs.Steps.{Begun}
use Rattle.reach.proofs.StandLaws.{else_same, else-trans, record-in}
use Rattle.reach.proofs.NotesLaws.{leaving-else}
use Rattle.reach.proofs.LookingLaws.{left}
use Rattle.pair_room.specs.Room.{again}
use Rattle.pair_room.proofs.RoomLaws.{again-stands, again-before}
use Rattle.pair_search.specs.Turn.{Between}
use Rattle.pair_search.proofs.TurnLaws.{between_start, between-queue, between-found, left-between, left_less}
use Rattle.pair_search.proofs.search.Statement.{statement}
use Rattle.pair_search.proofs.search.Tie as tie

abbrev invariant-loop-key : tie.invariant-loop-key
invariant-loop-key table closed nodes s goal room₀ n root₀ key₀ room root key =
    (length room ≡ length room₀) × Elsewhere again room₀ room × (key ≡ key_at room root) × Between (net_of nodes table closed) s goal room root

abbrev decreases-loop-key : tie.decreases-loop-key
decreases-loop-key table closed nodes s goal room₀ n root₀ key₀ room root key = left (done_in again nodes room) nodes

abbrev begun : tie.After-start-root invariant-loop-key decreases-loop-key → tie.Start invariant-loop-key decreases-loop-key
begun p = p.before.before.before.before.before.before

abbrev net : tie.Start invariant-loop-key decreases-loop-key → Net
net s = net_of s.args.nodes s.args.table.now s.args.closed.now

start-requires : tie.Need-start-root-requires invariant-loop-key decreases-loop-key
start-requires c κs =
    let s = c in
    (subst Stands (sym c.again.ensures) again-stands, s.requires.2, s.requires.1)

started : (p : tie.After-start-root invariant-loop-key decreases-loop-key) → Begun again (begun p).args.nodes (begun p).args.s (begun p).args.room.now p.start-root.new.room p.start-root.result
started p =
    let s = begun p in
    subst (λ (x : Stand). Begun x s.args.nodes s.args.s s.args.room.now p.start-root.new.room p.start-root.result) p.again.ensures p.start-root.ensures

long-requires : tie.Need-long-key-requires invariant-loop-key decreases-loop-key
long-requires c κs =
    let p = c.before.before in
    let q = (started p).queue in
    (record-in (begun p).args.nodes p.start-root.new.room p.start-root.result q.roomy q.root.used, omega arith)

loop-holds : tie.Need-loop-key-init invariant-loop-key decreases-loop-key
loop-holds c =
    let p = c.before.before.before in
    let s = begun p in (
      refl,
      else_same again p.start-root.new.room,
      c.long-key.ensures,
      between_start (net s) s.args.s s.args.goal s.args.room.now p.start-root.new.room p.start-root.result s.requires.1 s.requires.3 (started p),
    )

abbrev first : tie.At-loop-key invariant-loop-key decreases-loop-key → tie.After-start-root invariant-loop-key decreases-loop-key
first a = a.before.before.before.before

leave-requires : tie.Need-leave-root-requires invariant-loop-key decreases-loop-key
leave-requires c κs =
    let i = c in
    let a = i.before.before in
    let p = first a in
    let s = begun p in (
      s.requires.0,
      a.loop-key.invariant.3,
      omega (arith, i.loop-key-test.true, a.loop-key.invariant.2),
      leaving-else again again-before s.args.nodes s.args.table.now (else-trans again (started p).elsewhere a.loop-key.invariant.1) s.requires.4,
    )

-- after a turn
next : (v : tie.After-leave-root invariant-loop-key decreases-loop-key)
    → Between (net (begun (first v.before.before.before))) (begun (first v.before.before.before)).args.s (begun (first v.before.before.before)).args.goal v.leave-root.new.room v.leave-root.result
next v =
    let a = v.before.before.before in
    let s = begun (first a) in
    left-between (net s) s.args.s s.args.goal a.loop-key.room v.leave-root.new.room v.leave-root.result a.loop-key.root v.leave-root.ensures

long-requires-2 : tie.Need-long-key-requires-in-loop-key invariant-loop-key decreases-loop-key
long-requires-2 c κs =
    let v = c.before.before in
    let s = begun (first v.before.before.before) in
    let m = v.leave-root.new.room in
    let q = between-queue (net s) s.args.s s.args.goal m v.leave-root.result (next v) in
    (record-in s.args.nodes m v.leave-root.result q.roomy q.root.used, omega arith)

loop-less : tie.Need-loop-key-smaller invariant-loop-key decreases-loop-key
loop-less c =
    let v = c in
    let i = v in
    let a = i.before.before.before.before.before.before in
    let s = begun (first a) in
    left_less (net s) s.args.s s.args.goal a.loop-key.room v.leave-root.new.room a.loop-key.root v.leave-root.result a.loop-key.invariant.3
    (omega (arith, i.loop-key-test.true, a.loop-key.invariant.2)) v.leave-root.ensures

loop-again : tie.Need-loop-key-preserved invariant-loop-key decreases-loop-key
loop-again c =
    let v = c.before.before.before in
    let a = v in
    let e = v.leave-root.ensures.over.since.elsewhere in
    (e.long ∙ a.loop-key.invariant.0, else-trans again a.loop-key.invariant.1 e, c.long-key-in-loop-key.ensures, next v)

returns : tie.Need-returns invariant-loop-key decreases-loop-key
returns c =
    let a = c.before in
    let p = first a in
    let s = begun p in (
      else-trans again (started p).elsewhere a.loop-key.invariant.1,
      between-found (net s) s.args.s s.args.goal a.loop-key.room a.loop-key.root a.loop-key.invariant.3 (omega (arith, c.loop-key-test.false, a.loop-key.invariant.2)),
    )

pub search_spec : {M : Type 1} → statement M
search_spec =
    tie.close
    (tie.spec
    invariant-loop-key
    decreases-loop-key
    (λ c κs. search rules)
    start-requires
    long-requires
    loop-holds
    leave-requires
    long-requires-2
    loop-less
    loop-again
    (λ c. search rules)
    returns)
