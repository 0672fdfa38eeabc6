-- A line that is not permitted comes before one that is missing.
use mathlib.Core.Path.{sym, ◌∙◌}
use borrow.Author.Rules.{rules}
use borrow.Author.Tests.{eq-eqb, ne_eqb}
use Rattle.road_file.specs.Reader.{wrong_by}
use Rattle.road_file.proofs.wrong_line.Statement.{statement}
use Rattle.road_file.proofs.wrong_line.Tie as tie

returns : tie.Need-returns-then-r-ne0
unfolding wrong_by
returns c = rw (ne_eqb _ 0 c.if-r-ne0.true)

returns-2 : tie.Need-returns-then-short
unfolding wrong_by
returns-2 c =
    let t = c.before in
    let s = t.before in
    c.next_line.ensures ∙ rw (eq-eqb _ 0 s.before.if-r-ne0.false, sym s.short.ensures ∙ t.if-short.true)

returns-3 : tie.Need-returns
unfolding wrong_by
returns-3 c =
    let s = c.before in
    rw (eq-eqb _ 0 s.before.if-r-ne0.false, sym s.short.ensures ∙ c.if-short.false)

pub wrong_line_spec : {M : Type 1} → statement M
wrong_line_spec = tie.close (tie.spec returns (λ c κs. search rules) (λ c κs. search rules) returns-2 returns-3)
