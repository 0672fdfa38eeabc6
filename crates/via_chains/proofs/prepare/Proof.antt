-- The notes of where runs start, the search to the goal, the first arcs, the search from s, and the walk: each writes its own fields, and leaves what those before it left.
use mathlib.Core.Path.{refl, ◌∙◌}
use mathlib.Core.List.{List}
use Prim.Native.Nat.{ℕ}
use borrow.Author.Rules.{rules}
use Rattle.net.specs.Net.{Net}
use Rattle.distances.specs.Search.{Found}
use Rattle.distances.specs.Turned.{reversed}
use Rattle.search_ask.specs.Ask.{net_for}
use Rattle.node_queue.specs.Queue.{Roomy}
use Rattle.run_notes.specs.Noted.{LeavingNoted}
use Rattle.run_notes.proofs.NotedLaws.{leaving-same}
use Rattle.reach.specs.Stand.{dist_in, last_in}
use Rattle.reach.proofs.NotesLaws.{leaving-else}
use Rattle.first_routes.specs.Firsts.{far, forth, back}
use Rattle.via_chains.proofs.CandidateLaws.{roomy-same, stands-forth, stands-back, before-forth, before_back, found-by, prepared-all}
use Rattle.via_chains.proofs.prepare.Statement.{statement}
use Rattle.via_chains.proofs.prepare.Tie as tie

abbrev begun : tie.After-note → tie.Start
begun c = c.before.before.before.before.before.before

abbrev noted : tie.After-back → tie.After-note
noted c = c.before.before.before

abbrev start : tie.After-back → tie.Start
start c = begun (noted c)

abbrev net : tie.Start → Net
net s = net_for s.args.ask s.args.table.now s.args.closed.now

search-requires : tie.Need-search-requires
search-requires c κs =
    let s = start c.before in
    let n = noted c.before in
    let b = c.back in
    (s.requires.0.no-fault, s.requires.1, s.requires.0.goal-below, stands-back b.result b.ensures, roomy-same s.requires.2 n.note.ensures.0.long, before_back b.result b.ensures, n.note.ensures.1, n.note.ensures.2)

-- ---- after the search to the goal

abbrev from-goal : tie.After-search → tie.Start
from-goal c = start c.before.before

abbrev room₁ : tie.After-search → List ℕ
room₁ c = c.search.new.room

found-goal : (c : tie.After-search)
    → Found (reversed (net (from-goal c))) (from-goal c).args.ask.goal far (dist_in back (from-goal c).args.ask.nodes (room₁ c)) (last_in back (room₁ c))
found-goal c =
    let s = from-goal c in
    found-by (reversed (net s)) s.args.ask.goal s.args.ask.nodes (room₁ c) c.back.result back c.back.ensures c.search.ensures.1

roomy₁ : (c : tie.After-search) → Roomy (from-goal c).args.ask.nodes (room₁ c)
roomy₁ c = roomy-same (from-goal c).requires.2 (c.search.ensures.0.long ∙ (noted c.before.before).note.ensures.0.long)

noted₁ : (c : tie.After-search) → LeavingNoted (from-goal c).args.ask.nodes (from-goal c).args.table.now (room₁ c)
noted₁ c =
    let b = c.before.before in
    leaving-else b.back.result (before_back b.back.result b.back.ensures) _ _ c.search.ensures.0 (noted b).note.ensures.1

all-requires : tie.Need-all-requires
all-requires c κs =
    let a = c.before.before.before in
    let s = from-goal a in
    (s.requires.0.no-fault, s.requires.0.goal-below, roomy₁ a, found-goal a, noted₁ a)

-- ---- after the first arcs

abbrev searched : tie.After-all → tie.After-search
searched c = c.before.before.before.before

roomy₂ : (c : tie.After-all) → Roomy (from-goal (searched c)).args.ask.nodes c.all.new.room
roomy₂ c = roomy-same (roomy₁ (searched c)) c.all.ensures.0.long

noted₂ : (c : tie.After-all) → LeavingNoted (from-goal (searched c)).args.ask.nodes (from-goal (searched c)).args.table.now c.all.new.room
noted₂ c = leaving-same _ _ _ _ (λ v. c.all.ensures.0.field 4 v 56 refl refl) (noted₁ (searched c))

search-requires-2 : tie.Need-search-requires-2
search-requires-2 c κs =
    let f = c in
    let p = f.before.before.before.before in
    let s = from-goal (searched p) in
    (s.requires.0.no-fault, s.requires.0.s-below, stands-forth f.forth.result f.forth.ensures, roomy₂ p, before-forth f.forth.result f.forth.ensures, noted₂ p)

-- ---- after the search from s

abbrev picked : tie.After-search-2 → tie.After-all
picked c = c.before.before.before.before.before

abbrev from-s : tie.After-search-2 → tie.Start
from-s c = from-goal (searched (picked c))

abbrev room₃ : tie.After-search-2 → List ℕ
room₃ c = c.search-2.new.room

found-s : (c : tie.After-search-2) → Found (net (from-s c)) (from-s c).args.ask.s far (dist_in forth (from-s c).args.ask.nodes (room₃ c)) (last_in forth (room₃ c))
found-s c =
    let s = from-s c in
    found-by (net s) s.args.ask.s s.args.ask.nodes (room₃ c) c.forth.result forth c.forth.ensures c.search-2.ensures.1

roomy₃ : (c : tie.After-search-2) → Roomy (from-s c).args.ask.nodes (room₃ c)
roomy₃ c = roomy-same (roomy₂ (picked c)) c.search-2.ensures.0.long

noted₃ : (c : tie.After-search-2) → LeavingNoted (from-s c).args.ask.nodes (from-s c).args.table.now (room₃ c)
noted₃ c =
    let f = c in
    leaving-else f.forth.result (before-forth f.forth.result f.forth.ensures) _ _ c.search-2.ensures.0 (noted₂ (picked c))

all-requires-2 : tie.Need-all-requires-2
all-requires-2 c κs =
    let b = c.before.before.before in
    let s = from-s b in
    (s.requires.0.no-fault, s.requires.0.s-below, roomy₃ b, found-s b, noted₃ b)

-- ---- after the walk

abbrev second : tie.After-slice_known-6-1 → tie.After-search-2
second c = c.before.before.before.before.before.before

returns : tie.Need-returns
returns c =
    let w = c in
    let b = second c in
    let p = picked b in
    let a = searched p in
    let s = from-s b in (
      w.all-2.ensures.0.long ∙ b.search-2.ensures.0.long ∙ p.all.ensures.0.long ∙ a.search.ensures.0.long ∙ (noted a.before.before).note.ensures.0.long,
      prepared-all (net s) s.args.ask.s s.args.ask.goal (room₁ a) p.all.new.room (room₃ b) w.all-2.new.room b.forth.result
          b.forth.ensures (roomy-same (roomy₃ b) w.all-2.ensures.0.long) (found-goal a) p.all.ensures.0 p.all.ensures.1 b.search-2.ensures.0 (found-s b)
          w.all-2.ensures.0 w.all-2.ensures.1,
    )

pub prepare_spec : {M : Type 1} → statement M
prepare_spec =
    tie.close
    (tie.spec
    (λ c κs. search rules)
    (λ c κs. search rules)
    search-requires
    all-requires
    (λ c κs. search rules)
    search-requires-2
    all-requires-2
    (λ c. search rules)
    returns)
