-- A turn. The root's candidate is the theory's first, those aside that fail a test, and each way out of the code is one of the theory's ways: none left, dropped, no
-- room, an answer, taken up. The laws `turned-..` say what each leaves; here their facts are fetched. The root's cursor has moved on before all but the first, which
-- changes working bytes alone. What is taken up does not end at s, since the first label would cover it.
use native.Mathlib.Omega.{arith}
use borrow.Author.Rules.{rules}
use mathlib.Core.Path.{◌≡◌, sym, ap, subst, ◌∙◌}
use mathlib.Core.List.{List, []}
use mathlib.Core.Bool.{true}
use mathlib.Core.Logic.{◌≢◌}
use Prim.Native.Nat.{ℕ, ◌+◌, ◌-◌, ◌*◌, ◌≤◌, ◌<◌}
use native.Mathlib.Nat.{sub-zero}
use lib.ListN.{length, take}
use Rattle.net.specs.Route.{end_of, length_of}
use Rattle.net.specs.Round.{Query}
use Rattle.net.specs.Limits.{most_nodes, most_length}
use Rattle.net.specs.Search.{passes}
use Rattle.net.proofs.Valid.{Valid}
use Rattle.table.specs.Table.{arcs_of}
use Rattle.table.proofs.FaultLaws.{all-good}
use Rattle.table.proofs.NetLaws.{arcs-length}
use Rattle.labels.specs.Field.{label_bytes, put_row}
use Rattle.labels.specs.Chain.{chain_at, chains_in}
use Rattle.labels.specs.Rows.{overlaps_of}
use Rattle.search_ask.specs.declared.Candidate.{Candidate}
use Rattle.search_ask.specs.Ask.{Among, net_for, query_for, chain_of}
use Rattle.search_ask.specs.Earlier.{earlier_of}
use Rattle.search_ask.proofs.AskLaws.{accepted-valid, few-arcs, nodes-most, lengths-most}
use Rattle.search_queue.proofs.OnlyLaws.{chain-only}
use Rattle.search_lists.specs.Listed.{Listed}
use Rattle.search_trial.specs.Trial.{Trying, passes_at}
use Rattle.search_trial.proofs.TrialLaws.{own-many, measured, passes-away, passes-here, overlaps-open, holding-open}
use Rattle.search_trial.proofs.OverlapLaws.{end_is}
use Rattle.search_advance.specs.Own.{Judging, own_last}
use Rattle.search_advance.proofs.OwnLaws.{own-some}
use Rattle.search_cursor.specs.Queue.{Queued, QueuedBut}
use Rattle.round_label.specs.Stage.{row_for, Entering}
use Rattle.round_label.proofs.StageLaws.{query-same, chain-of-only}
use Rattle.round_label.proofs.ListsLaws.{but_same}
use Rattle.round_label.proofs.EnterLaws.{judging-only}
use Rattle.round_turn.proofs.TurnLaws.{Roomy, going-comparable, arc-below, looked, short-enough, light-enough, fresh, turned_none, turned-dropped, turned-refused, turned-answer, turned_taken}
use Rattle.round_turn.proofs.turn.Statement.{statement}
use Rattle.round_turn.proofs.turn.Tie as tie

abbrev start : tie.After-cursor-arc → tie.Start
start a = a.before.before.before.before.before.before.before.before.before

abbrev bytes : tie.Start → List ℕ
bytes s = s.args.labels.now

abbrev query : tie.Start → Query
query s = query_for s.args.ask s.args.table.now s.args.closed.now (bytes s)

abbrev earlier : tie.Start → List (List ℕ)
earlier s = earlier_of s.args.ask s.args.area.now s.args.lens.now

valid : (s : tie.Start) → Valid (query s)
valid s = accepted-valid s.requires.0.accepted s.args.closed.now (bytes s)

judging : (s : tie.Start) → Judging s.args.ask s.args.table.now s.args.area.now s.args.lens.now s.args.marks.now (bytes s) s.args.x.n
judging s =
    record {
      searching = record { accepted = s.requires.0.accepted; standing = s.requires.2.standing; comparable = going-comparable (query s) (earlier s) (valid s) (bytes s) s.args.x s.requires.2 };
      holding = holding-open s.args.ask s.args.table.now s.args.closed.now [] s.requires.2.holding;
      earlier = s.requires.0.earlier;
      filter = s.requires.4;
      listed = s.requires.5;
      runs = s.requires.6;
    }

-- ---- where the root has a candidate

abbrev from : tie.Else-arc-eq-NO_ARC → tie.Start
from e = start e.before

abbrev candidate : tie.Else-arc-eq-NO_ARC → Candidate
candidate e = record { label = (from e).args.x.root; arc = e.cursor-arc.result }

is-arc : (e : tie.Else-arc-eq-NO_ARC) → (candidate e).arc < length (arcs_of (from e).args.table.now)
is-arc e =
    let s = from e in
    arc-below (query s) (earlier s) (valid s) (bytes s) s.args.x s.requires.2 s.requires.1 (lengths-most s.requires.0.accepted) s.requires.3 (candidate e).arc e.cursor-arc.ensures e.if-arc-eq-NO_ARC.false

among : (e : tie.Else-arc-eq-NO_ARC) → Among (from e).args.table.now (from e).args.x.n (candidate e)
among e = record { label-below = (from e).requires.3.root.used; arc-below = omega (arith, is-arc e, arcs-length (from e).args.table.now) }

-- the queue is right but for the root
open-root : (e : tie.Else-arc-eq-NO_ARC) → QueuedBut (query (from e)) (earlier (from e)) (chain_of (bytes (from e)) (candidate e)) (bytes (from e)) (from e).args.x.n (from e).args.x.root
open-root e =
    let s = from e in
    looked (query s) (earlier s) (valid s) (bytes s) s.args.x s.requires.2 s.requires.1 (lengths-most s.requires.0.accepted) s.requires.3 (candidate e).arc e.cursor-arc.ensures e.if-arc-eq-NO_ARC.false

own-last : (e : tie.Else-arc-eq-NO_ARC) → own_last (chain_at (bytes (from e)) (from e).args.x.root) (candidate e).arc ≡ chain_of (bytes (from e)) (candidate e)
own-last e = own-some (chain_at (bytes (from e)) (from e).args.x.root) (candidate e).arc e.if-arc-eq-NO_ARC.false

trying : (e : tie.Else-arc-eq-NO_ARC) → let s = from e in
    Trying s.args.ask s.args.table.now s.args.area.now (bytes s) (record { r = length s.args.lens.now; n = s.args.x.n; c = candidate e })
trying e =
    let s = from e in
    record { searching = (judging s).searching; holding = (judging s).holding; among = among e; slots = s.requires.0.earlier.slots; formed = s.requires.0.earlier.formed }

-- ---- its overlaps

abbrev real : tie.After-of_candidate → tie.Else-arc-eq-NO_ARC
real c = c.before.before

-- as the call left them
abbrev own : tie.After-of_candidate → List ℕ
own c = take (length (from (real c)).args.lens.now - 0) c.of_candidate.new.own

own_is : (c : tie.After-of_candidate) → let s = from (real c) in
    own c ≡ overlaps_of (net_for s.args.ask s.args.table.now []) (earlier s) (chain_of (bytes s) (candidate (real c)))
own_is c = ap (λ k. take k c.of_candidate.new.own) (sub-zero (length (from (real c)).args.lens.now)) ∙ c.of_candidate.ensures.1

-- as many as there are earlier answers
listed : (c : tie.After-of_candidate) → let s = from (real c) in Listed s.args.ask (length (own c)) s.args.area.now (bytes s) s.args.x.n
listed c =
    let e = real c in
    let s = from e in
    subst (λ r. Listed s.args.ask r s.args.area.now (bytes s) s.args.x.n) (sym (own-many (trying e) s.requires.0.earlier (own c) (own_is c))) s.requires.5

own_open : (c : tie.After-of_candidate) → let s = from (real c) in own c ≡ overlaps_of (query s).net (earlier s) (chain_of (bytes s) (candidate (real c)))
own_open c = let s = from (real c) in own_is c ∙ overlaps-open s.args.ask s.args.table.now [] s.args.closed.now (earlier s) (chain_of (bytes s) (candidate (real c)))

abbrev tried : tie.After-passes-pass → tie.After-of_candidate
tried p = p.before.before.before.before

-- the candidate's end, as it was read
abbrev ended : tie.After-passes-pass → tie.After-to_of-end
ended p = p.before.before

-- what the two tests say is what the theory's say
verdict : (p : tie.After-passes-pass) → let e = real (tried p) in let s = from e in
    p.passes-pass.result ≡ passes (query s) (earlier s) (chains_in (bytes s) s.args.x.n) (chain_of (bytes s) (candidate e))
verdict p =
    let e = real (tried p) in
    let s = from e in
    p.passes-pass.ensures ∙ ap (λ v. passes_at s.args.ask s.args.lens.now (bytes s) s.args.x.n v (own (tried p))) (ended p).to_of-end.ensures
    ∙ passes-here (trying e) s.requires.0.earlier (own (tried p)) (own_is (tried p)) s.args.closed.now

-- the end of its chain
end-of : (p : tie.After-passes-pass) → let e = real (tried p) in let s = from e in
    (ended p).to_of-end.result ≡ end_of (arcs_of s.args.table.now) s.args.ask.s (chain_of (bytes s) (candidate e))
end-of p =
    let e = real (tried p) in
    let s = from e in
    (ended p).to_of-end.ensures ∙ end_is s.args.table.now s.args.ask.s (chain_at (bytes s) s.args.x.root) (candidate e).arc (among e).arc-below

-- ---- the root's cursor has moved on

abbrev tested : tie.After-settle-k → tie.After-passes-pass
tested u = u.before.before.before

abbrev found : tie.After-settle-k → tie.After-of_candidate
found u = tried (tested u)

-- the bytes then
abbrev moved : tie.After-settle-k → List ℕ
moved u = u.settle-k.new.labels

judging-moved : (u : tie.After-settle-k) → let s = from (real (found u)) in
    Judging s.args.ask s.args.table.now s.args.area.now s.args.lens.now s.args.marks.now (moved u) s.args.x.n
judging-moved u = let s = from (real (found u)) in judging-only u.settle-k.ensures.0 u.settle-k.ensures.1 s.requires.2.begun (judging s)

same-chain : (u : tie.After-settle-k) → let e = real (found u) in chain_of (moved u) (candidate e) ≡ chain_of (bytes (from e)) (candidate e)
same-chain u = chain-of-only u.settle-k.ensures.0 (candidate (real (found u)))

same-query : (u : tie.After-settle-k) → let s = from (real (found u)) in query_for s.args.ask s.args.table.now s.args.closed.now (moved u) ≡ query s
same-query u = let s = from (real (found u)) in query-same s.args.ask s.args.table.now s.args.closed.now (moved u) (bytes s) u.settle-k.ensures.0.long

queued-moved : (u : tie.After-settle-k) → let e = real (found u) in let s = from e in
    Queued (query s) (earlier s) (chain_of (bytes s) (candidate e)) (moved u) s.args.x.n u.settle-k.result
queued-moved u =
    let e = real (found u) in
    let s = from e in
    subst (λ z. Queued (query s) (earlier s) z (moved u) s.args.x.n u.settle-k.result) (own-last e) u.settle-k.ensures.2

own-moved : (u : tie.After-settle-k) → let e = real (found u) in let s = from e in own (found u) ≡ overlaps_of (query s).net (earlier s) (chain_of (moved u) (candidate e))
own-moved u = let s = from (real (found u)) in own_open (found u) ∙ ap (overlaps_of (query s).net (earlier s)) (sym (same-chain u))

-- ---- where it passes both tests

abbrev settled : tie.Else-not-pass → tie.After-settle-k
settled f = f.before.before.before.before.before

passed : (f : tie.Else-not-pass) → let e = real (found (settled f)) in let s = from e in
    passes (query s) (earlier s) (chains_in (bytes s) s.args.x.n) (chain_of (bytes s) (candidate e)) ≡ true
passed f = sym (verdict (tested (settled f))) ∙ f.if-not-pass.false

-- it does not end at s
away : (f : tie.Else-not-pass) → let e = real (found (settled f)) in let s = from e in end_of (arcs_of s.args.table.now) s.args.ask.s (chain_of (bytes s) (candidate e)) ≢ s.args.ask.s
away f z =
    let p = tested (settled f) in
    let o = tried p in
    let s = from (real o) in
    passes-away s.args.lens.now (own o) (ended p).to_of-end.result (listed o) s.requires.2.begun (sym p.passes-pass.ensures ∙ f.if-not-pass.false) (end-of p ∙ z)

abbrev roomed : tie.Else-room-n → tie.After-settle-k
roomed g = settled g.before

roomy : (g : tie.Else-room-n) → let s = from (real (found (roomed g))) in Roomy (query s) (bytes s) s.args.x.n
roomy g =
    let s = from (real (found (roomed g))) in
    record {
      room = g.if-room-n.false;
      bytes = omega (arith, g.if-room-n.false);
      few = omega (arith, g.if-room-n.false, s.requires.0.room);
      nodes-most = nodes-most s.requires.0.accepted;
      arcs-few = few-arcs s.requires.0.accepted;
      len-most = lengths-most s.requires.0.accepted;
    }

room_moved : (g : tie.Else-room-n) → (from (real (found (roomed g)))).args.x.n * label_bytes + label_bytes ≤ length (moved (roomed g))
room_moved g = rw (roomed g).settle-k.ensures.0.long (roomy g).bytes

entering : (g : tie.Else-room-n) → let u = roomed g in let o = found u in let s = from (real o) in
    Entering (query_for s.args.ask s.args.table.now s.args.closed.now (moved u)) (earlier s) (moved u) s.args.x.n (candidate (real o)) (own o) u.settle-k.result
entering g =
    let u = roomed g in
    let o = found u in
    let e = real o in
    let s = from e in
    let most = lengths-most s.requires.0.accepted in
    record {
      begun = s.requires.2.begun;
      few = (roomy g).few;
      room = room_moved g;
      overlaps = own-moved u;
      short = subst (λ z. length z < most_nodes) (sym (same-chain u))
          (short-enough (query s) (earlier s) (valid s) (bytes s) s.args.x s.requires.2 s.requires.1 most s.requires.3 (candidate e).arc e.cursor-arc.ensures e.if-arc-eq-NO_ARC.false (passed g.before) (roomy g));
      most = subst (λ z. length_of (arcs_of s.args.table.now) z ≤ most_nodes * most_length) (sym (same-chain u))
          (light-enough (query s) (earlier s) (valid s) (bytes s) s.args.x s.requires.2 s.requires.1 most s.requires.3 (candidate e).arc e.cursor-arc.ensures e.if-arc-eq-NO_ARC.false (passed g.before) (roomy g));
      fresh = λ i h z. fresh (query s) (earlier s) (valid s) (bytes s) s.args.x s.requires.2 s.requires.1 most s.requires.3 (candidate e).arc e.cursor-arc.ensures e.if-arc-eq-NO_ARC.false (passed g.before) (roomy g) i h
          (sym (chain-only u.settle-k.ensures.0 i) ∙ z ∙ same-chain u);
      away = λ z. away g.before (ap (end_of (arcs_of s.args.table.now) s.args.ask.s) (sym (same-chain u)) ∙ z);
      queued = subst (λ q. Queued q (earlier s) (chain_of (moved u) (candidate e)) (moved u) s.args.x.n u.settle-k.result) (sym (same-query u))
          (subst (λ z. Queued (query s) (earlier s) z (moved u) s.args.x.n u.settle-k.result) (sym (same-chain u)) (queued-moved u));
    }

-- ---- the needs

returns : tie.Need-returns-then-arc-eq-NO_ARC
returns c =
    let s = start c.before in
    (turned_none (query s) (earlier s) (valid s) (bytes s) s.args.x s.requires.2 s.requires.1 (lengths-most s.requires.0.accepted) s.requires.3 (sym c.cursor-arc.ensures ∙ c.if-arc-eq-NO_ARC.true), record { around = but_same _ _ _; listed = λ e. absurd (cc); runs = λ e. absurd (cc) }, s.requires.7)

of-candidate-requires : tie.Need-of_candidate-requires
of-candidate-requires c κs =
    let e = c.before in
    (trying e, (from e).requires.4, (from e).requires.0.few)

passes-requires : tie.Need-passes-pass-requires
passes-requires c κs =
    let t = c in
    let o = t.before.before.before in
    let e = real o in
    let s = from e in (
      measured (trying e) s.requires.0.earlier (own o) (own_is o),
      listed o,
      s.requires.2.begun,
      rw t.to_of-end.ensures (all-good s.args.ask.nodes s.args.table.now s.requires.0.accepted.no-fault (candidate e).arc (among e).arc-below).end,
    )

settle-requires : tie.Need-settle-k-requires
settle-requires c κs =
    let e = real (tried c.before.before) in
    let s = from e in (
      judging s,
      s.requires.3.root.used,
      λ ne. (among e).arc-below,
      subst (λ z. QueuedBut (query s) (earlier s) z (bytes s) s.args.x.n s.args.x.root) (sym (own-last e)) (open-root e),
      s.requires.7,
    )

returns-2 : tie.Need-returns-then-not-pass
returns-2 c =
    let u = c.before.before.before.before.before in
    let e = real (found u) in
    let s = from e in (
      turned-dropped (query s) (earlier s) (valid s) (bytes s) s.args.x s.requires.2 s.requires.1 (lengths-most s.requires.0.accepted) s.requires.3 (candidate e).arc e.cursor-arc.ensures e.if-arc-eq-NO_ARC.false
          (sym (verdict (tested u)) ∙ c.if-not-pass.true) (moved u) u.settle-k.result u.settle-k.ensures.0 (queued-moved u),
      record { around = but_same _ _ _; listed = λ z. (judging-moved u).listed; runs = λ z. (judging-moved u).runs },
      u.settle-k.ensures.3,
    )

returns-3 : tie.Need-returns-then-room-n
returns-3 c =
    let u = settled c.before in
    let e = real (found u) in
    let s = from e in (
      turned-refused (query s) (earlier s) (valid s) (bytes s) s.args.x s.requires.2 s.requires.1 (lengths-most s.requires.0.accepted) s.requires.3 (candidate e).arc e.cursor-arc.ensures e.if-arc-eq-NO_ARC.false
          (passed c.before) c.if-room-n.true (moved u) u.settle-k.ensures.0,
      record { around = but_same _ _ _; listed = λ z. absurd (cc); runs = λ z. absurd (cc) },
      u.settle-k.ensures.3,
    )

take-up-requires : tie.Need-take_up-requires
take-up-requires c κs =
    let g = c.before.before.before in
    let o = found (roomed g) in
    let e = real o in
    let s = from e in
    ((judging-moved (roomed g)).searching, among e, (roomy g).few, room_moved g, (measured (trying e) s.requires.0.earlier (own o) (own_is o)).few)

returns-4 : tie.Need-returns-then-end-goal
returns-4 c =
    let t = c in
    let h = t in
    let g = h.before.before.before.before.before.before in
    let u = roomed g in
    let e = real (found u) in
    let s = from e in (
      turned-answer (query s) (earlier s) (valid s) (bytes s) s.args.x s.requires.2 s.requires.1 (lengths-most s.requires.0.accepted) s.requires.3 (candidate e).arc e.cursor-arc.ensures e.if-arc-eq-NO_ARC.false
          (passed g.before) (roomy g) (moved u) u.settle-k.ensures.0 (sym (end-of (tested u)) ∙ h.if-end-goal.true) _
          (t.take_up.ensures ∙ ap (λ os. put_row (moved u) s.args.x.n (row_for (arcs_of s.args.table.now) s.args.ask.s (moved u) (candidate e) os)) (own-moved u)),
      record { around = but_same _ _ _; listed = λ z. absurd (cc); runs = λ z. absurd (cc) },
      u.settle-k.ensures.3,
    )

enter-requires : tie.Need-enter-new-requires
enter-requires c κs =
    let g = c.before.before.before.before.before in
    (judging-moved (roomed g), among (real (found (roomed g))), entering g, (roomed g).settle-k.ensures.3)

returns-5 : tie.Need-returns
returns-5 c =
    let t = c in
    let h = t in
    let g = h.before.before.before.before.before.before.before.before.before.before.before.before in
    let u = roomed g in
    let e = real (found u) in
    let s = from e in
    let w = t.enter-new.ensures.0 in
    let new = t.enter-new.new.labels in (
      turned_taken (query s) (earlier s) (valid s) (bytes s) s.args.x s.requires.2 s.requires.1 (lengths-most s.requires.0.accepted) s.requires.3 (candidate e).arc e.cursor-arc.ensures e.if-arc-eq-NO_ARC.false
          (passed g.before) (roomy g) (moved u) u.settle-k.ensures.0 (λ z. h.if-end-goal.false (end-of (tested u) ∙ z)) _ t.enter-new.result w.put
          (subst (λ z. Queued (query s) (earlier s) z new (s.args.x.n + 1) t.enter-new.result) (same-chain u)
          (subst (λ q. Queued q (earlier s) (chain_of (moved u) (candidate e)) new (s.args.x.n + 1) t.enter-new.result) (same-query u) w.queued)),
      record { around = t.enter-new.ensures.1; listed = λ z. t.enter-new.ensures.2; runs = λ z. t.enter-new.ensures.3 },
      t.enter-new.ensures.4,
    )

pub turn_spec : {M : Type 1} → statement M
turn_spec =
    tie.close
    (tie.spec
    (λ c κs. search rules)
    (λ c. search rules)
    (λ c. search rules)
    returns
    (λ c. search rules)
    of-candidate-requires
    (λ c κs. (among (real c.before)).arc-below)
    (λ c. search rules)
    (λ c. search rules)
    (λ c. search rules)
    passes-requires
    settle-requires
    (λ c. search rules)
    (λ c. search rules)
    (λ c. search rules)
    returns-2
    (λ c. search rules)
    (λ c. search rules)
    (λ c. search rules)
    returns-3
    (λ c. search rules)
    (λ c. search rules)
    (λ c. omega (arith, (from (real (found (roomed c.before.before)))).requires.0.few))
    take-up-requires
    (λ c. omega (arith, (roomy c.before.before.before.before.before.before).few))
    (λ c. search rules)
    (λ c. search rules)
    (λ c. search rules)
    returns-4
    (λ c. search rules)
    (λ c. search rules)
    (λ c. omega (arith, (from (real (found (roomed c.before.before.before.before)))).requires.0.few))
    enter-requires
    (λ c. omega (arith, (roomy c.before.before.before.before.before.before.before.before.before.before.before.before).few))
    (λ c. search rules)
    (λ c. (returns-5 c).0.long)
    (λ c. (returns-5 c).2.long ∙ sym (from (real (found (roomed c.before.before.before.before.before.before.before.before.before.before.before.before)))).requires.7.long)
    returns-5)
