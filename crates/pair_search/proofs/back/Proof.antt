-- The residual net leads back over the last arc of the first route to u if that arc is marked, and else not at all.
use mathlib.Core.Path.{◌≡◌, refl, sym, ap, subst, ◌∙◌}
use mathlib.Core.Bool.{Bool, true}
use Prim.Native.Nat.{ℕ, ◌<◌}
use native.Mathlib.Omega.{arith}
use borrow.Author.Rules.{rules}
use Rattle.net.specs.Net.{Net}
use Rattle.table.specs.Table.{records, arcs_of, net_of}
use Rattle.table.proofs.FaultLaws.{all-good, good-size}
use Rattle.node_queue.specs.Queue.{Queue}
use Rattle.reach.specs.Stand.{Stands}
use Rattle.reach.proofs.StandLaws.{record-in}
use Rattle.pair.specs.Walked.{comes_back, Backward}
use Rattle.pair_room.specs.Room.{kept_in}
use Rattle.pair_room.specs.Stages.{last_of}
use Rattle.pair_room.proofs.RoomLaws.{again-stands}
use Rattle.pair_search.proofs.TurnLaws.{looked-is, comes-arc, at-queue, back_none, back-look}
use Rattle.pair_search.proofs.back.Statement.{statement}
use Rattle.pair_search.proofs.back.Tie as tie

abbrev begun : tie.After-comes_back → tie.Start
begun k = k.before.before.before.before

abbrev start : tie.After-word-b → tie.Start
start k = begun k.before.before

abbrev net : tie.Start → Net
net s = net_of s.args.nodes s.args.table.now s.args.closed.now

abbrev answer : tie.Start → ℕ → Bool
answer s b = comes_back (arcs_of s.args.table.now) (kept_in s.args.nodes s.args.room.now) s.args.u b

queue : (s : tie.Start) → Queue s.args.nodes s.args.room.now s.args.root
queue s =
    at-queue (net s) s.args.s s.args.goal s.args.room.now s.args.room.now s.args.root s.args.u s.args.d
    (Backward (arcs_of s.args.table.now) (kept_in s.args.nodes s.args.room.now) (last_of s.args.room.now) s.args.u) s.requires.2

comes-back-requires : tie.Need-comes_back-requires
comes-back-requires c κs = let s = c.before.before.before in (s.requires.0, (queue s).roomy, s.requires.1)

returns : tie.Need-returns-then-not-comes_back
returns c =
    let k = c.before in
    let s = begun k in
    back_none s.args.nodes s.args.table.now s.args.closed.now s.requires.0 s.args.s s.args.goal s.args.room.now s.args.room.now s.args.root s.args.u s.args.d s.requires.2
    (sym k.comes_back.ensures ∙ c.if-not-comes_back.true)

word-requires : tie.Need-word-b-requires
word-requires c κs =
    let s = begun c.before in
    (record-in s.args.nodes s.args.room.now s.args.u (queue s).roomy s.requires.1, omega arith)

leads-back : (k : tie.After-word-b) → answer (start k) (last_of (start k).args.room.now (start k).args.u) ≡ true
leads-back k = let e = k in sym e.comes_back.ensures ∙ e.if-not-comes_back.false

in_table : (k : tie.After-word-b) → k.word-b.result < records (start k).args.table.now
in_table k =
    let s = start k in
    comes-arc s.args.table.now (kept_in s.args.nodes s.args.room.now) s.args.u k.word-b.result (ap (answer s) k.word-b.ensures ∙ leads-back k)

from-of-requires : tie.Need-from_of-w-requires
from-of-requires c κs = in_table c

look-requires : tie.Need-look-requires
look-requires c κs =
    let f = c in
    let k = f.before.before.before in
    let s = start k in (
      subst Stands (sym c.again.ensures) again-stands,
      queue s,
      omega (arith, f.from_of-w.ensures, (all-good s.args.nodes s.args.table.now s.requires.0 k.word-b.result (in_table k)).start),
      omega (arith, in_table k, (good-size s.args.nodes s.args.table.now s.requires.0).3),
    )

returns-2 : tie.Need-returns
returns-2 c =
    let o = c in
    let f = o in
    let k = f.before.before.before.before.before.before in
    let s = start k in
    back-look s.args.nodes s.args.table.now s.args.closed.now s.requires.0 s.args.s s.args.goal s.args.room.now s.args.room.now s.args.root s.args.u s.args.d s.requires.2
    (leads-back k) k.word-b.result k.word-b.ensures f.from_of-w.result f.from_of-w.ensures o.look.new.room o.look.result
    (looked-is s.args.nodes s.args.room.now s.args.root k.word-b.result o.look.new.room o.look.result o.again.result o.again.ensures f.from_of-w.result
    f.from_of-w.result refl s.args.d s.args.d refl o.look.ensures)

pub back_spec : {M : Type 1} → statement M
back_spec =
    tie.close
    (tie.spec
    comes-back-requires
    (λ c. search rules)
    returns
    word-requires
    (λ c. search rules)
    from-of-requires
    (λ c. search rules)
    (λ c κs. search rules)
    look-requires
    (λ c. search rules)
    returns-2)
