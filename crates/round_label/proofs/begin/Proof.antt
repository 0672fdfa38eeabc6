-- Without room for one label nothing is written, and what the round counts, at least the empty chain, exceeds the room. With room, label 0
-- is the empty chain at s, whose overlaps are all 0: the one live partial route not after the empty chain, and it does not end at t. The lists begin without it, and
-- its cursor is set.
use native.Mathlib.Omega.{arith}
use borrow.Author.Rules.{rules}
use mathlib.Core.Path.{◌≡◌, refl, ap, subst, ◌∙◌}
use mathlib.Core.List.{List}
use Prim.Native.Nat.{ℕ, ◌^◌, ◌≤◌, ◌<◌}
use lib.ListN.{length}
use Rattle.net.specs.Round.{Query}
use Rattle.labels.specs.Field.{label_bytes, most_earlier, head_bytes, puts, put_row}
use Rattle.table.specs.Table.{arcs_of}
use Rattle.table.specs.Run.{run_start}
use Rattle.table.proofs.RunLaws.{run-le}
use Rattle.labels.proofs.StoreLaws.{length-put_row, row_put}
use Rattle.labels.proofs.StandingLaws.{empty_row, standing-none}
use Rattle.search_ask.specs.Ask.{net_for, query_for, width}
use Rattle.search_ask.specs.Earlier.{earlier_of}
use Rattle.search_ask.proofs.AskLaws.{accepted-valid, few-records, nodes-most}
use Rattle.search_ask.proofs.EarlierLaws.{length-earlier_in}
use Rattle.search_queue.specs.Only.{Only}
use Rattle.search_queue.proofs.OnlyLaws.{only-trans}
use Rattle.search_lists.specs.Run.{put_run}
use Rattle.round_label.proofs.BeginLaws.{begun-refused, begun_first, zeros}
use Rattle.round_label.proofs.ListsLaws.{but_same, listed-only, runs-only}
use Rattle.round_label.proofs.EnterLaws.{first-at, first-working, first-judging, first-queued}
use Rattle.round_label.proofs.begin.Statement.{statement}
use Rattle.round_label.proofs.begin.Tie as tie

abbrev query : tie.Start → Query
query s = query_for s.args.ask s.args.table.now s.args.closed.now s.args.labels.now

abbrev earlier : tie.Start → List (List ℕ)
earlier s = earlier_of s.args.ask s.args.area.now s.args.lens.now

few : (s : tie.Start) → length (earlier s) ≤ most_earlier
few s = omega (arith, length-earlier_in (width s.args.ask) (length s.args.lens.now) s.args.area.now, s.requires.0.few)

-- a node's number has 16 bits
s-fits : (s : tie.Start) → s.args.ask.s < 2 ^ 16
s-fits s = omega (arith, s.requires.0.accepted.s-below, nodes-most s.requires.0.accepted)

returns : tie.Need-returns-then-labels-eq0
returns c =
    let s = c.before.before.before.before.before.before.before.before in
    (begun-refused (query s) (earlier s) (accepted-valid s.requires.0.accepted s.args.closed.now s.args.labels.now) (few s) s.args.labels.now (omega arith), record { around = but_same _ _ _; listed = λ e. absurd (cc); runs = λ e. absurd (cc) }, s.requires.3)

put-head-requires : tie.Need-put_head-requires
put-head-requires c κs =
    let s = c in
    let none = standing-none (arcs_of s.args.table.now) s.args.ask.s s.args.labels.now in
    (omega arith, none.down, none.jumping, λ e. absurd (e refl), omega arith)

abbrev start : tie.After-put_overlaps → tie.Start
start o = o.before.before.before.before.before.before.before.before.before.before.before.before.before.before.before

-- there is room for it
roomy : (o : tie.After-put_overlaps) → label_bytes ≤ length o.args.labels.now
roomy o = omega (arith, o.if-labels-eq0.false)

-- the first label is put
opened : (o : tie.After-put_overlaps) → let s = start o in
    o.put_overlaps.new.labels ≡ put_row s.args.labels.now 0 (empty_row (net_for s.args.ask s.args.table.now s.args.closed.now) s.args.ask.s (earlier s))
opened o =
    let p = o in
    let s = start o in
    let net = net_for s.args.ask s.args.table.now s.args.closed.now in
    row_put s.args.labels.now 0 (empty_row net s.args.ask.s (earlier s)) _ _ p.put_head.ensures
    (o.put_overlaps.ensures ∙ ap (puts p.put_head.new.labels head_bytes) (zeros net (earlier s) (length s.args.lens.now) (few s) (length-earlier_in (width s.args.ask) (length s.args.lens.now) s.args.area.now)))

-- where the label was put, and then the start of its run
abbrev put : tie.After-put_run → tie.After-put_overlaps
put p = p.before.before.before.before.before

run_is : (p : tie.After-put_run) → let s = start (put p) in p.put_run.new.labels ≡ put_run (put p).put_overlaps.new.labels 0 (run_start s.args.table.now s.args.ask.s)
run_is p = p.put_run.ensures ∙ ap (put_run (put p).put_overlaps.new.labels 0) p.run_start-first.ensures

cast-put-run : tie.Need-overflow_cast-first
cast-put-run c =
    let r = c in
    let s = start r.before.before.before.before in
    omega (arith, r.run_start-first.ensures, run-le s.args.table.now s.args.ask.s, few-records s.requires.0.accepted)

begin-requires : tie.Need-begin-requires
begin-requires c κs =
    let p = c.before.before.before in
    let o = put p in
    let s = start o in
    let f = first-at s.args.ask s.args.table.now s.args.closed.now s.args.area.now s.args.lens.now s.args.marks.now s.args.labels.now s.requires.0.accepted s.requires.0.earlier s.requires.1 (few s) (roomy o) _ (opened o) _ (run_is p) in
    (f.0, f.1, s.requires.2.room, s.requires.2.blank)

abbrev ran : tie.After-begin → tie.After-put_run
ran g = g.before.before.before.before

begin-requires-2 : tie.Need-begin-requires-2
begin-requires-2 c κs =
    let g = c.before.before.before.before in
    let p = ran g in
    let o = put p in
    let s = start o in
    (first-judging s.args.ask s.args.table.now s.args.closed.now s.args.area.now s.args.lens.now s.args.marks.now s.args.labels.now s.requires.0.accepted s.requires.0.earlier s.requires.1 (few s) (roomy o) _ (opened o) _ (run_is p) _ g.begin.ensures.0 g.begin.ensures.1, s.requires.3)

returns-2 : tie.Need-returns
returns-2 c =
    let k = c in
    let g = k.before.before.before.before.before.before.before.before.before in
    let p = ran g in
    let o = put p in
    let s = start o in
    let j = first-judging s.args.ask s.args.table.now s.args.closed.now s.args.area.now s.args.lens.now s.args.marks.now s.args.labels.now s.requires.0.accepted s.requires.0.earlier s.requires.1 (few s) (roomy o) _ (opened o) _ (run_is p) _ g.begin.ensures.0 g.begin.ensures.1 in (
      begun_first (query s) (earlier s) (accepted-valid s.requires.0.accepted s.args.closed.now s.args.labels.now) (few s) s.args.labels.now _
          (subst (λ b. Only 20 20 1 b k.begin-2.new.labels) (opened o)
          (only-trans (first-working s.args.ask s.args.table.now s.args.closed.now s.args.area.now s.args.lens.now s.args.marks.now s.args.labels.now s.requires.0.accepted s.requires.0.earlier s.requires.1 (few s) (roomy o) _ (opened o) _ (run_is p) _ g.begin.ensures.0) k.begin-2.ensures.0))
          (first-queued s.args.ask s.args.table.now s.args.closed.now s.args.area.now s.args.lens.now s.args.marks.now s.args.labels.now s.requires.0.accepted s.requires.0.earlier s.requires.1 (few s) (roomy o) _ (opened o) _ (run_is p) _ g.begin.ensures.0 _ k.begin-2.ensures.2)
          (s-fits s) (roomy o) (omega (arith, roomy o)) s.requires.0.accepted.apart,
      record {
        around = but_same _ _ _;
        listed = λ e. listed-only (λ z. omega arith) s.requires.0.few g.begin.ensures.1 k.begin-2.ensures.0 k.begin-2.ensures.1;
        runs = λ e. runs-only s.args.table.now _ 1 j.runs k.begin-2.ensures.0 k.begin-2.ensures.1;
      },
      k.begin-2.ensures.3,
    )

pub begin_spec : {M : Type 1} → statement M
begin_spec =
    tie.close
    (tie.spec
    returns
    (λ c. let s = c.before.before.before.before.before.before.before.before.before in omega (arith, s-fits s))
    put-head-requires
    (λ c. search rules)
    (λ c. search rules)
    (λ c. search rules)
    (λ c κs. search rules)
    (λ c κs. let s = start c.before.before in s.requires.0.accepted.no-fault)
    cast-put-run
    (λ c κs. let o = c.before.before.before.before in omega (arith, roomy o, ap length (opened o), length-put_row o.args.labels.now 0 (empty_row (net_for o.args.ask o.args.table.now o.args.closed.now) o.args.ask.s (earlier (start o)))))
    begin-requires
    begin-requires-2
    (λ c. search rules)
    (λ c. search rules)
    returns-2)
