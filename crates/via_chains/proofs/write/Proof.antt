-- The route from s is written from its end, then the route to the goal behind it; the words after both are filled.
use mathlib.Core.List.{List}
use Prim.Native.Nat.{ℕ, ◌+◌, ◌≤◌, ◌<◌}
use native.Mathlib.Omega.{arith}
use lib.ListN.{length, length-append}
use borrow.Author.Rules.{rules}
use Rattle.reach.specs.Stand.{dist_in}
use Rattle.first_routes.specs.Firsts.{far, forth, back}
use Rattle.via_chains.specs.Chains.{joined_in}
use Rattle.via_chains.specs.Candidate.{Ready, to_of, on_of}
use Rattle.via_chains.proofs.ChainsLaws.{both-near}
use Rattle.via_chains.proofs.CandidateLaws.{slot-filled}
use Rattle.via_chains.proofs.write.Statement.{statement}
use Rattle.via_chains.proofs.write.Tie as tie

abbrev start : tie.After-arcs-k → tie.Start
start c = c.before.before.before.before.before

ready : (s : tie.Start) → Ready s.args.ask s.args.table.now s.args.closed.now s.args.room.now
ready s = record { accepted = s.requires.0; prepared = s.requires.1 }

abbrev to : tie.Start → List ℕ
to s = to_of s.args.ask s.args.table.now s.args.closed.now s.args.room.now s.args.v

abbrev on : tie.Start → List ℕ
on s = on_of s.args.ask s.args.table.now s.args.closed.now s.args.room.now s.args.v

near : (s : tie.Start)
    → (dist_in forth s.args.ask.nodes s.args.room.now s.args.v < far) × (dist_in back s.args.ask.nodes s.args.room.now s.args.v < far)
near s = both-near s.args.ask s.args.table.now s.args.closed.now s.args.room.now s.requires.0 s.requires.1 s.args.v s.requires.3

-- both parts fit the slot
fits : (s : tie.Start) → length (to s) + length (on s) ≤ length s.args.slot.now
unfolding joined_in
fits s = omega (arith, s.requires.4, length-append (to s) (on s))

arcs-requires : tie.Need-arcs-k-requires
arcs-requires c κs = let s = c.before.before.before.before in (ready s, s.requires.2, (near s).0)

write-to-requires : tie.Need-write_to-requires
write-to-requires c κs =
    let s = start c.before in
    (ready s, s.requires.2, (near s).0, c.arcs-k.ensures, omega (arith, c.arcs-k.ensures, fits s))

abbrev written : tie.After-write_on-arg-1 → tie.After-write_to
written c = c.before.before.before

write-on-requires : tie.Need-write_on-end-requires
write-on-requires c κs =
    let w = written c in
    let a = w.before.before in
    let s = start a in
    (ready s, s.requires.2, (near s).1, omega (arith, a.arcs-k.ensures, fits s, w.write_to.auto.slot))

fill-part-requires : tie.Need-fill_part-requires
fill-part-requires c κs =
    let o = c in
    let w = written o.before.before.before.before in
    let a = w.before.before in
    let s = start a in
    (search rules, (omega (arith, o.write_on-end.ensures.0, o.write_on-end.ensures.1, a.arcs-k.ensures, fits s, w.write_to.auto.slot), omega arith))

returns : tie.Need-returns
unfolding joined_in
returns c =
    let f = c in
    let o = f in
    let w = written o.before.before.before.before.before.before.before in
    let a = w.before.before in
    let s = start a in (
      slot-filled (to s) (on s) s.args.slot.now w.write_to.new.slot o.write_on-end.new.slot _ a.arcs-k.result o.write_on-end.result a.arcs-k.ensures
          w.write_to.ensures w.write_to.auto.slot o.write_on-end.ensures.0 o.write_on-end.ensures.1 o.write_on-end.ensures.2 f.fill_part.ensures,
      omega (arith, o.write_on-end.ensures.0, a.arcs-k.ensures, length-append (to s) (on s)),
    )

pub write_spec : {M : Type 1} → statement M
write_spec =
    tie.close
    (tie.spec
    arcs-requires
    write-to-requires
    write-on-requires
    fill-part-requires
    (λ c. search rules)
    returns)
