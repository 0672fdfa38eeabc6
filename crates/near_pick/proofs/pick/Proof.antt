-- k places of two rows are lent for the ranks.
use mathlib.Core.Path.{sym, ap, ◌∙◌}
use Prim.Native.Nat.{◌*◌}
use native.Mathlib.Omega.{arith}
use borrow.Author.Rules.{rules}
use Rattle.table.specs.Table.{arcs_of}
use Rattle.search_ask.specs.Earlier.{earlier_in}
use Rattle.query_rounds.specs.Area.{area_with}
use Rattle.variety.specs.Variety.{picked, chosen}
use Rattle.near_pick.proofs.PickLaws.{places}
use Rattle.near_pick.proofs.pick.Statement.{statement}
use Rattle.near_pick.proofs.pick.Tie as tie

abbrev start : tie.After-best-1 → tie.Start
start c = c.before.before.before.before.before.before.before.before

pick-by-requires : tie.Need-pick_by-requires
pick-by-requires c κs =
    let s = start c in
    let e = places s.args.k s.requires.3 in
    (s.requires.0, s.requires.1, e ∙ sym e, omega (arith, e, s.requires.2), omega (arith, ap (λ n. n * s.args.w) e, s.requires.4))

returns : tie.Need-returns
returns c =
    let p = c in
    let s = start p.before.before.before.before.before.before.before in
    let a = s.args in
    let rs = earlier_in a.w a.n a.list.now in (
      p.pick_by.ensures.0 ∙ ap (λ k. area_with a.w k a.area.now (picked rs (chosen (arcs_of a.table.now) rs k))) (places a.k s.requires.3),
      p.pick_by.ensures.1,
    )

pub pick_spec : {M : Type 1} → statement M
pick_spec =
    tie.close
    (tie.spec
    (λ c. search rules)
    (λ c. search rules)
    (λ c. search rules)
    (λ c. search rules)
    (λ c. search rules)
    (λ c. search rules)
    pick-by-requires
    (λ c. search rules)
    (λ c. search rules)
    returns)
