-- Where there is a pair its walks are written; where there is none both slots are blanked. The room is cleared either way.
use mathlib.Core.Path.{refl, ap, ◌∙◌}
use mathlib.Core.List.{[]}
use native.Mathlib.Omega.{arith}
use borrow.Author.Rules.{rules}
use lib.ListN.{replicate}
use Rattle.net.specs.Round.{Query}
use Rattle.table.proofs.FaultLaws.{good-size}
use Rattle.search_ask.specs.Ask.{query_for, width}
use Rattle.reach.proofs.StandLaws.{roomy-same}
use Rattle.query_rounds.proofs.AreaLaws.{area-blank}
use Rattle.query_pair.proofs.MadeLaws.{prepared-true, prepared-false, made_none, made_found, ways-short}
use Rattle.query_pair.proofs.made.all.Statement.{statement}
use Rattle.query_pair.proofs.made.all.Tie as tie

abbrev start : tie.After-prepare → tie.Start
start c = c.before.before.before.before.before.before

abbrev query : tie.Start → Query
query s = query_for s.args.ask s.args.table.now s.args.closed.now []

prepare-requires : tie.Need-prepare-requires
prepare-requires c κs =
    let s = c in
    let k = s.requires.0 in
    (k.no-fault, k.s-below, k.goal-below, s.requires.2)

-- ---- a pair

abbrev prepared : tie.Then-prepare → tie.After-prepare
prepared c = c.before.before.before

pair-requires : tie.Need-pair-x-requires
pair-requires c κs =
    let h = c.before in
    let p = prepared h in
    let s = start p in
    let k = s.requires.0 in
    (k.no-fault, k.s-below, k.apart, roomy-same s.args.ask.nodes p.prepare.ensures.0 s.requires.2, prepared-true _ _ _ _ _ p.prepare.ensures.1 h.if-prepare.true, s.requires.1)

abbrev paired : tie.After-slice_known-then-prepare-2-1 → tie.After-pair-x
paired c = c.before.before.before.before.before.before

got-of-requires : tie.Need-got_of-requires
got-of-requires c κs =
    let a = paired c in
    let s = start (prepared a.before.before) in
    ways-short s.args.ask.nodes _ _ _ _ _ _ refl (omega (arith, (good-size _ _ s.requires.0.no-fault).1)) a.pair-x.ensures

returns : tie.Need-returns-then-prepare
returns c =
    let n = c.before in
    let a = paired n in
    let f = n in
    let p = prepared a.before.before in
    let s = start p in
    made_found (query s) s.args.area.now s.args.room.now (width s.args.ask) refl _ _ a.pair-x.result a.pair-x.ensures (f.fill.ensures ∙ ap (λ n. replicate n 0) p.prepare.ensures.0)
    c.got_of.result c.got_of.ensures

-- ---- none

returns-2 : tie.Need-returns
returns-2 c =
    let f = c in
    let b = f in
    let e = b in
    let p = e.before.before.before.before.before.before.before.before.before.before.before.before in
    let s = start p in
    let no-pair = prepared-false _ _ _ _ _ p.prepare.ensures.1 e.if-prepare.false in
    made_none (query s) s.args.area.now s.args.room.now (width s.args.ask) no-pair.0 no-pair.1 _ _ (b.fill_part.ensures ∙ area-blank (width s.args.ask) 2 s.args.area.now)
    (f.fill-2.ensures ∙ ap (λ n. replicate n 0) p.prepare.ensures.0) c.none_got.result c.none_got.ensures

pub all_spec : {M : Type 1} → statement M
all_spec =
    tie.close
    (tie.spec
    prepare-requires
    pair-requires
    (λ c κs. search rules)
    got-of-requires
    (λ c. search rules)
    (λ c. search rules)
    returns
    (λ c. search rules)
    (λ c. search rules)
    (λ c. search rules)
    (λ c κs. search rules)
    (λ c κs. search rules)
    (λ c κs. search rules)
    (λ c. search rules)
    (λ c. search rules)
    returns-2)
