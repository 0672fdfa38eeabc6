-- The first line that is not permitted is kept.
use mathlib.Core.Path.{ap₂, ◌∙◌}
use borrow.Author.Rules.{rules}
use borrow.Author.Tests.{eq-eqb, ne_eqb}
use Rattle.road_file.specs.declared.Reader.{Reader}
use Rattle.road_file.proofs.refuse.Statement.{statement}
use Rattle.road_file.proofs.refuse.Tie as tie

returns : tie.Need-returns-then-r-eq0
returns c =
    let a = c.before in
    let r = a.before.before.args.r in
    ap₂ {C = Reader} (λ s n. record { scan = s; lines = n; begun = r.begun; nodes = r.nodes; wanted = r.wanted; count = r.count; from = r.from; to = r.to; len = r.len; wrong = n }) a.start.ensures a.before.next_line-line.ensures ∙ rw (eq-eqb r.wrong 0 c.if-r-eq0.true)

returns-2 : tie.Need-returns-else-r-eq0
returns-2 c =
    let a = c.before in
    let r = a.before.before.args.r in
    ap₂ {C = Reader} (λ s n. record { scan = s; lines = n; begun = r.begun; nodes = r.nodes; wanted = r.wanted; count = r.count; from = r.from; to = r.to; len = r.len; wrong = r.wrong }) a.start.ensures a.before.next_line-line.ensures ∙ rw (ne_eqb r.wrong 0 c.if-r-eq0.false)

pub refuse_spec : {M : Type 1} → statement M
refuse_spec = tie.close (tie.spec (λ c κs. search rules) (λ c κs. search rules) returns returns-2)
