-- The candidate is stored as label n, gets the start of its run and comes into its list, and label n's cursor is set. What each call is given, and what they leave
-- together, are the laws `stored-..`, `run-..`, `listed-..` and `entered`.
use borrow.Author.Rules.{rules}
use Rattle.round_label.proofs.EnterLaws.{judging-few, own-few, stored-listed, stored-runs, stored-room, stored-end, stored-away, run-listed, run_room, run_end, run-away, listed-judging, listed-queued, entered}
use Rattle.round_label.proofs.enter.Statement.{statement}
use Rattle.round_label.proofs.enter.Tie as tie

abbrev start : tie.After-take_up → tie.Start
start p = p.before.before.before.before.before.before.before.before.before.before

take-up-requires : tie.Need-take_up-requires
take-up-requires c κs =
    let s = c in (
      s.requires.0.searching,
      s.requires.1,
      s.requires.2.few,
      s.requires.2.room,
      own-few s.args.ask s.args.table.now s.args.closed.now s.args.area.now s.args.lens.now s.args.marks.now s.args.labels.now s.args.n s.args.c s.args.own.now s.args.root s.requires.0 s.requires.1 s.requires.2,
    )

start-requires : tie.Need-start-requires
start-requires c κs =
    let p = c.before.before.before in
    let s = start p in (
      s.requires.0.searching.accepted.no-fault,
      stored-listed s.args.ask s.args.table.now s.args.closed.now s.args.area.now s.args.lens.now s.args.marks.now s.args.labels.now s.args.n s.args.c s.args.own.now s.args.root s.requires.0 s.requires.1 s.requires.2 _ p.take_up.ensures,
      stored-runs s.args.ask s.args.table.now s.args.closed.now s.args.area.now s.args.lens.now s.args.marks.now s.args.labels.now s.args.n s.args.c s.args.own.now s.args.root s.requires.0 s.requires.1 s.requires.2 _ p.take_up.ensures,
      stored-room s.args.ask s.args.table.now s.args.closed.now s.args.area.now s.args.lens.now s.args.marks.now s.args.labels.now s.args.n s.args.c s.args.own.now s.args.root s.requires.0 s.requires.1 s.requires.2 _ p.take_up.ensures,
      stored-end s.args.ask s.args.table.now s.args.closed.now s.args.area.now s.args.lens.now s.args.marks.now s.args.labels.now s.args.n s.args.c s.args.own.now s.args.root s.requires.0 s.requires.1 s.requires.2 _ p.take_up.ensures,
      stored-away s.args.ask s.args.table.now s.args.closed.now s.args.area.now s.args.lens.now s.args.marks.now s.args.labels.now s.args.n s.args.c s.args.own.now s.args.root s.requires.0 s.requires.1 s.requires.2 _ p.take_up.ensures,
    )

abbrev put : tie.After-start → tie.After-take_up
put u = u.before.before.before.before

enlist-requires : tie.Need-enlist-requires
enlist-requires c κs =
    let u = c.before.before.before.before in
    let p = put u in
    let s = start p in (
      run-listed s.args.ask s.args.table.now s.args.closed.now s.args.area.now s.args.lens.now s.args.marks.now s.args.labels.now s.args.n s.args.c s.args.own.now s.args.root s.requires.0 s.requires.1 s.requires.2 _ p.take_up.ensures _ u.start.ensures,
      s.requires.2.begun,
      s.requires.2.few,
      run_room s.args.ask s.args.table.now s.args.closed.now s.args.area.now s.args.lens.now s.args.marks.now s.args.labels.now s.args.n s.args.c s.args.own.now s.args.root s.requires.0 s.requires.1 s.requires.2 _ p.take_up.ensures _ u.start.ensures,
      judging-few s.requires.0,
      run_end s.args.ask s.args.table.now s.args.closed.now s.args.area.now s.args.lens.now s.args.marks.now s.args.labels.now s.args.n s.args.c s.args.own.now s.args.root s.requires.0 s.requires.1 s.requires.2 _ p.take_up.ensures _ u.start.ensures,
      run-away s.args.ask s.args.table.now s.args.closed.now s.args.area.now s.args.lens.now s.args.marks.now s.args.labels.now s.args.n s.args.c s.args.own.now s.args.root s.requires.0 s.requires.1 s.requires.2 _ p.take_up.ensures _ u.start.ensures,
    )

abbrev started : tie.After-enlist → tie.After-start
started x = x.before.before.before.before.before

enter-requires : tie.Need-enter-requires
enter-requires c κs =
    let x = c.before.before.before.before.before.before in
    let u = started x in
    let p = put u in
    let s = start p in (
      listed-judging s.args.ask s.args.table.now s.args.closed.now s.args.area.now s.args.lens.now s.args.marks.now s.args.labels.now s.args.n s.args.c s.args.own.now s.args.root s.requires.0 s.requires.1 s.requires.2 _ p.take_up.ensures _ u.start.ensures _ _ x.enlist.ensures.0 x.enlist.ensures.1 x.enlist.ensures.2,
      listed-queued s.args.ask s.args.table.now s.args.closed.now s.args.area.now s.args.lens.now s.args.marks.now s.args.labels.now s.args.n s.args.c s.args.own.now s.args.root s.requires.0 s.requires.1 s.requires.2 _ p.take_up.ensures _ u.start.ensures _ _ x.enlist.ensures.0 x.enlist.ensures.1,
      s.requires.3,
    )

returns : tie.Need-returns
returns c =
    let v = c in
    let x = v.before.before.before.before.before.before.before.before.before.before.before in
    let u = started x in
    let p = put u in
    let s = start p in
    let e = entered s.args.ask s.args.table.now s.args.closed.now s.args.area.now s.args.lens.now s.args.marks.now s.args.labels.now s.args.n s.args.c s.args.own.now s.args.root s.requires.0 s.requires.1 s.requires.2 _ p.take_up.ensures _ u.start.ensures _ _ x.enlist.ensures.0 x.enlist.ensures.1 x.enlist.ensures.2
    _ v.enter.result v.enter.ensures.0 v.enter.ensures.1 v.enter.ensures.2 in
    (e.0, e.1, e.2, e.3, v.enter.ensures.3)

pub enter_spec : {M : Type 1} → statement M
enter_spec =
    tie.close
    (tie.spec take-up-requires start-requires enlist-requires enter-requires (λ c. search rules) (λ c. search rules) (λ c. search rules) returns)
