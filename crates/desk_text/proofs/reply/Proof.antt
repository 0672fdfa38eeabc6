-- What the query gave is that of this input, over labels and an area of zeros, and the area keeps its words. So what is shown of it, which is
-- the reply to any input that gives it, is the reply to this one.
use native.Mathlib.Omega.{arith}
use borrow.Author.Rules.{rules}
use mathlib.Core.Path.{refl}
use Rattle.query.specs.Query.{Input}
use Rattle.desk_text.specs.Desk.{read_query}
use Rattle.desk_text.specs.Shown.{Gave}
use Rattle.desk_text.proofs.reply.Statement.{statement}
use Rattle.desk_text.proofs.reply.Tie as tie

abbrev start : tie.After-core-g → tie.Start
start a = a.before.before.before.before.before

abbrev query : tie.After-core-g → Input
query a = read_query a.args.x a.args.table.now

gave : (a : tie.After-core-g) → Gave (query a) a.core-g.result a.args.x.nodes a.args.x.k a.core-g.new.area
gave a = record { nodes = refl; k = refl; labels = a.core-g.new.labels; cored = a.core-g.ensures }

slice-aggregate-show : tie.Need-slice_bounds-show-end
slice-aggregate-show c = search rules

show-requires : tie.Need-show-requires
show-requires c κs =
    let a = c.before.before.before.before in
    (a.requires.0, a.requires.1, omega (arith, slice-aggregate-show c), (query a, gave a))

returns : tie.Need-returns
returns c =
    let a = c.before.before.before.before.before.before.before in
    c.show.ensures (query a) (gave a)

pub reply_spec : {M : Type 1} → statement M
reply_spec =
    tie.close
    (tie.spec
    (λ c. search rules)
    (λ c. search rules)
    (λ c κs. search rules)
    slice-aggregate-show
    show-requires
    (λ c. search rules)
    returns)
