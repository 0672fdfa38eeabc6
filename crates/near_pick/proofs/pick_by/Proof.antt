-- The ranks chosen are of the list (`chosen-fits`), and their routes are what the definition picks (`chosen-routes`).
use mathlib.Core.Path.{sym, ap₂, ◌∙◌}
use mathlib.Core.List.{List}
use Prim.Native.Nat.{ℕ}
use borrow.Author.Rules.{rules}
use Rattle.query_rounds.specs.Area.{area_with}
use Rattle.near_pick.proofs.PickLaws.{chosen-many, chosen-fits, chosen-routes}
use Rattle.near_pick.proofs.pick_by.Statement.{statement}
use Rattle.near_pick.proofs.pick_by.Tie as tie

abbrev chosen : tie.After-put_routes-arg-1 → tie.After-choose
chosen c = c.before.before.before.before.before.before.before

abbrev start : tie.After-choose → tie.Start
start c = c.before.before.before.before.before.before.before.before.before.before

-- the ranks of the choice
abbrev best : tie.After-choose → List ℕ
best c = c.choose.new.best

put-routes-requires : tie.Need-put_routes-requires
put-routes-requires c κs =
    let o = chosen c in
    let s = start o in
    let a = s.args in
    chosen-fits a.table.now a.nodes a.w a.n a.list.now s.requires.0 _ s.requires.3 (best o) o.choose.ensures.0 a.area.now s.requires.4

returns : tie.Need-returns
returns c =
    let p = c in
    let o = chosen p.before.before.before in
    let s = start o in
    let a = s.args in
    let many = chosen-many a.table.now a.nodes a.w a.n a.list.now s.requires.0 _ s.requires.3 (best o) o.choose.ensures.0 in
    let routes = chosen-routes a.table.now a.nodes a.w a.n a.list.now s.requires.0 _ s.requires.3 (best o) o.choose.ensures.0 in
    (p.put_routes.ensures ∙ ap₂ (λ k ps. area_with a.w k a.area.now ps) many (sym routes), o.choose.ensures.1)

pub pick_by_spec : {M : Type 1} → statement M
pick_by_spec =
    tie.close
    (tie.spec
    (λ c κs. search rules)
    put-routes-requires
    (λ c. search rules)
    (λ c. search rules)
    (λ c. search rules)
    (λ c. search rules)
    returns)
