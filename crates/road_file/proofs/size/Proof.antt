-- A second such line is not permitted.
use mathlib.Core.Path.{ap₂, ◌∙◌}
use mathlib.Core.Bool.{true}
use borrow.Author.Rules.{rules}
use Rattle.road_file.specs.Reader.{sized_by}
use Rattle.road_file.specs.declared.Reader.{Reader}
use Rattle.road_file.proofs.size.Statement.{statement}
use Rattle.road_file.proofs.size.Tie as tie

returns : tie.Need-returns-then-r
unfolding sized_by
returns c = c.refuse.ensures ∙ rw c.before.if-r.true

returns-2 : tie.Need-returns
unfolding sized_by
returns-2 c =
    let e = c.before.before in
    let s₀ = e.before in
    let r = s₀.args.r in
    ap₂ {C = Reader} (λ s n. record { scan = s; lines = n; begun = true; nodes = s₀.args.nodes; wanted = s₀.args.arcs; count = r.count; from = r.from; to = r.to; len = r.len; wrong = r.wrong }) c.before.start.ensures c.next_line.ensures ∙ rw e.if-r.false

pub size_spec : {M : Type 1} → statement M
size_spec = tie.close (tie.spec (λ c κs. search rules) returns (λ c κs. search rules) (λ c κs. search rules) returns-2)
