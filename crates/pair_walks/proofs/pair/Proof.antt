-- The walks by the marks are a pair of least total; where the second precedes, the slots are written again the other way round.
use native.Mathlib.Omega.{arith}
use mathlib.Core.Path.{ap, sym, ◌∙◌}
use borrow.Author.Rules.{rules}
use Rattle.pair_walks.proofs.PairLaws.{walk-one, walk-two, pair-stays, pair-turned}
use Rattle.pair_walks.proofs.pair.Statement.{statement}
use Rattle.pair_walks.proofs.pair.Tie as tie

abbrev start : tie.After-both-x → tie.Start
start c = c.before.before.before.before.before.before

both-requires : tie.Need-both-x-requires
both-requires c κs =
    let s = c in
    let ok = s.requires.0 in (
      walk-one s.args.table.now s.args.closed.now s.args.nodes s.args.s s.args.goal ok s.requires.1 s.args.room.now s.requires.3 s.requires.4,
      walk-two s.args.table.now s.args.closed.now s.args.nodes s.args.s s.args.goal ok s.requires.1 s.args.room.now s.requires.3 s.requires.4,
      s.requires.5,
    )

turned-requires : tie.Need-turned-requires
turned-requires c κs =
    let b = c.before.before in
    let k = b.both-x.ensures in
    (omega (arith, ap (λ y. y.first.arcs) k.ways, k.p-fits), omega (arith, ap (λ y. y.second.arcs) k.ways, k.q-fits), omega (arith, (start b).requires.5, b.both-x.auto.area))

abbrev done : tie.After-turned → tie.After-both-x
done c = c.before.before.before

both-requires-2 : tie.Need-both-requires
both-requires-2 c κs =
    let b = done c.before.before in
    let s = start b in
    let ok = s.requires.0 in (
      walk-two s.args.table.now s.args.closed.now s.args.nodes s.args.s s.args.goal ok s.requires.1 s.args.room.now s.requires.3 s.requires.4,
      walk-one s.args.table.now s.args.closed.now s.args.nodes s.args.s s.args.goal ok s.requires.1 s.args.room.now s.requires.3 s.requires.4,
      omega (arith, s.requires.5, b.both-x.auto.area),
    )

returns : tie.Need-returns-then-turned
returns c =
    let d = c in
    let e = d in
    let t = e.before.before.before.before.before in
    let b = done t in
    let s = start b in
    pair-turned s.args.table.now s.args.closed.now s.args.nodes s.args.s s.args.goal s.requires.0 s.requires.1 s.args.room.now s.requires.3 s.requires.4 s.requires.2 s.args.area.now
    b.both-x.new.area b.both-x.result b.both-x.ensures (sym t.turned.ensures ∙ e.if-turned.true) _ _ d.both.ensures

returns-2 : tie.Need-returns
returns-2 c =
    let t = c.before in
    let b = done t in
    let s = start b in
    pair-stays s.args.table.now s.args.closed.now s.args.nodes s.args.s s.args.goal s.requires.0 s.requires.1 s.args.room.now s.requires.3 s.requires.4 s.requires.2 s.args.area.now
    b.both-x.new.area b.both-x.result b.both-x.ensures (sym t.turned.ensures ∙ c.if-turned.false)

pub pair_spec : {M : Type 1} → statement M
pair_spec =
    tie.close
    (tie.spec
    both-requires
    (λ c. search rules)
    turned-requires
    both-requires-2
    (λ c. search rules)
    returns
    (λ c. search rules)
    returns-2)
