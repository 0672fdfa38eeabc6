-- Where runs start is noted, and neither search nor the marks change that. The first search, its route marked, the second search, its route followed back. Where one of the searches does not come to the goal there is no pair.
use mathlib.Core.Path.{◌≡◌, refl, sym, subst, ◌∙◌}
use mathlib.Core.Logic.{inl, inr}
use native.Mathlib.Omega.{arith}
use borrow.Author.Rules.{rules}
use lib.ListN.{length}
use Rattle.net.specs.Net.{Net}
use Rattle.table.specs.Table.{net_of}
use Rattle.distances.specs.Search.{Found}
use Rattle.node_queue.specs.Queue.{Roomy}
use Rattle.run_notes.specs.Noted.{LeavingNoted}
use Rattle.run_notes.proofs.NotedLaws.{leaving-same}
use Rattle.reach.specs.declared.Stand.{Stand}
use Rattle.reach.specs.Stand.{Stands, BeforeNotes, dist_in, last_in}
use Rattle.reach.proofs.StandLaws.{roomy-same}
use Rattle.reach.proofs.NotesLaws.{leaving-else}
use Rattle.reach.proofs.LookingLaws.{dist-node}
use Rattle.pair_room.specs.Room.{first, again}
use Rattle.pair_room.specs.Stages.{Reached}
use Rattle.pair_room.proofs.RoomLaws.{first-stands, first-before}
use Rattle.query_pair.proofs.MadeLaws.{none_first, none-again}
use Rattle.query_pair.proofs.made.prepare.Statement.{statement}
use Rattle.query_pair.proofs.made.prepare.Tie as tie

abbrev noted : tie.After-first → tie.After-leaving
noted c = c.before.before.before

abbrev start : tie.After-first → tie.Start
start c = (noted c).before.before.before.before.before

abbrev fields : tie.After-search → tie.After-first
fields c = c.before.before

abbrev net : tie.Start → Net
net s = net_of s.args.nodes s.args.table.now s.args.closed.now

roomy-noted : (c : tie.After-first) → Roomy (start c).args.nodes (noted c).leaving.new.room
roomy-noted c = let s = start c in roomy-same s.args.nodes (noted c).leaving.ensures.0.long s.requires.3

before : (c : tie.After-first) → BeforeNotes c.first.result
before c = subst BeforeNotes (sym c.first.ensures) first-before

search-requires : tie.Need-search-requires
search-requires c κs =
    let f = c.before in
    let s = start f in
    (s.requires.0, s.requires.1, subst Stands (sym f.first.ensures) first-stands, roomy-noted f, before f, (noted f).leaving.ensures.1)

-- ---- after the first search

abbrev searched : tie.After-long → tie.After-search
searched c = c.before.before.before

reached : (c : tie.After-search) → Reached (net (start (fields c))) (start (fields c)).args.s c.search.new.room
reached c =
    let s = start (fields c) in
    let l = c.search.new.room in
    subst (λ (x : Stand). Found (net s) s.args.s x.far (dist_in x s.args.nodes l) (last_in x l)) (fields c).first.ensures c.search.ensures.1

roomy : (c : tie.After-search) → Roomy (start (fields c)).args.nodes c.search.new.room
roomy c = let s = start (fields c) in roomy-same s.args.nodes c.search.ensures.0.long (roomy-noted (fields c))

-- the room's length
long-first : (c : tie.After-search) → length c.search.new.room ≡ length (start (fields c)).args.room.now
long-first c = c.search.ensures.0.long ∙ (noted (fields c)).leaving.ensures.0.long

noted-first : (c : tie.After-search) → LeavingNoted (start (fields c)).args.nodes (start (fields c)).args.table.now c.search.new.room
noted-first c =
    let f = fields c in
    let s = start f in
    leaving-else f.first.result (before f) s.args.nodes s.args.table.now c.search.ensures.0 (noted f).leaving.ensures.1

returns : tie.Need-returns-then-long-ge-FAR
returns c =
    let g = c.before in
    let k = searched g in
    let s = start (fields k) in
    let l = k.search.new.room in
    let n = none_first s.args.nodes s.args.table.now s.args.closed.now s.requires.0 s.args.s s.args.goal s.requires.1 l (reached k)
    (omega (arith, c.if-long-ge-FAR.true, g.long.ensures, dist-node first s.args.nodes l s.args.goal s.requires.2)) in
    (long-first k, inr (refl, n.0, n.1))

first-requires-2 : tie.Need-first-requires-2
first-requires-2 c κs =
    let e = c in
    let g = e.before.before in
    let k = searched g in
    let s = start (fields k) in
    let l = k.search.new.room in
    (s.requires.0, s.requires.1, s.requires.2, roomy k, reached k, omega (arith, e.if-long-ge-FAR.false, g.long.ensures, dist-node first s.args.nodes l s.args.goal s.requires.2))

-- ---- its route marked

abbrev to-goal : tie.After-first-2 → tie.After-search
to-goal c = searched c.before.before.before

search-requires-2 : tie.Need-search-requires-2
search-requires-2 c κs =
    let m = c.before.before.before in
    let k = to-goal m in
    let s = start (fields k) in (
      s.requires.0,
      s.requires.1,
      roomy-same s.args.nodes m.first-2.ensures.0.long (roomy k),
      m.first-2.ensures.1,
      leaving-same s.args.nodes s.args.table.now _ _ (λ v. m.first-2.ensures.0.field 4 v 56 refl refl) (noted-first k),
    )

-- ---- after the second

abbrev marked : tie.After-search-2 → tie.After-first-2
marked c = c.before.before.before.before

abbrev begun : tie.After-search-2 → tie.After-search
begun c = to-goal (marked c)

abbrev again-at : tie.After-long-2 → tie.After-search-2
again-at c = c.before.before.before

roomy-again : (c : tie.After-search-2) → Roomy (start (fields (begun c))).args.nodes c.search-2.new.room
roomy-again c =
    let s = start (fields (begun c)) in
    roomy-same s.args.nodes (c.search-2.ensures.0.long ∙ (marked c).first-2.ensures.0.long) (roomy (begun c))

long-requires-2 : tie.Need-long-requires-2
long-requires-2 c κs =
    let k = c.before.before in
    let s = start (fields (begun k)) in
    (omega (arith, (roomy-again k).enough, s.requires.2), omega arith)

-- the room's length
long-all : (c : tie.After-search-2) → length c.search-2.new.room ≡ length (start (fields (begun c))).args.room.now
long-all c = c.search-2.ensures.0.long ∙ (marked c).first-2.ensures.0.long ∙ long-first (begun c)

returns-2 : tie.Need-returns-then-long-ge-FURTHER
returns-2 c =
    let g = c.before in
    let k = again-at g in
    let s = start (fields (begun k)) in
    let l = k.search-2.new.room in
    let n = none-again s.args.nodes s.args.table.now s.args.closed.now s.requires.0 s.args.s s.args.goal s.requires.1 l k.search-2.ensures.1
    (omega (arith, c.if-long-ge-FURTHER.true, g.long-2.ensures, dist-node again s.args.nodes l s.args.goal s.requires.2)) in
    (long-all k, inr (refl, n.0, n.1))

settle-requires : tie.Need-settle-requires
settle-requires c κs =
    let e = c in
    let g = e.before.before in
    let k = again-at g in
    let s = start (fields (begun k)) in
    let l = k.search-2.new.room in
    (s.requires.0, s.requires.1, s.requires.2, roomy-again k, k.search-2.ensures.1, omega (arith, e.if-long-ge-FURTHER.false, g.long-2.ensures, dist-node again s.args.nodes l s.args.goal s.requires.2))

returns-3 : tie.Need-returns
returns-3 c =
    let t = c in
    let k = again-at t.before.before.before.before.before in
    (t.settle.ensures.0 ∙ long-all k, inl (refl, t.settle.ensures.1))

pub prepare_spec : {M : Type 1} → statement M
prepare_spec =
    tie.close
    (tie.spec
    (λ c κs. search rules)
    (λ c κs. search rules)
    search-requires
    (λ c κs. search rules)
    (λ c. search rules)
    returns
    first-requires-2
    search-requires-2
    long-requires-2
    (λ c. search rules)
    returns-2
    settle-requires
    (λ c. (returns-3 c).0)
    returns-3)
