-- A newline ends the line; any other byte belongs to it.
use mathlib.Core.Path.{ap, ◌∙◌}
use borrow.Author.Rules.{rules}
use borrow.Author.Tests.{eq-eqb, ne_eqb}
use Rattle.road_file.specs.Reader.{fed_by}
use Rattle.road_file.specs.declared.Reader.{Reader}
use Rattle.road_file.proofs.feed.Statement.{statement}
use Rattle.road_file.proofs.feed.Tie as tie

returns : tie.Need-returns-then-byte-eq-NEWLINE
unfolding fed_by
returns c = c.end_line.ensures ∙ rw (eq-eqb c.before.before.args.byte 10 c.before.if-byte-eq-NEWLINE.true)

returns-2 : tie.Need-returns
unfolding fed_by
returns-2 c =
    let e = c.before.before in
    let r = e.before.args.r in
    ap {B = Reader} (λ s. record { scan = s; lines = r.lines; begun = r.begun; nodes = r.nodes; wanted = r.wanted; count = r.count; from = r.from; to = r.to; len = r.len; wrong = r.wrong }) c.scan_byte.ensures ∙ rw (ne_eqb e.before.args.byte 10 e.if-byte-eq-NEWLINE.false)

pub feed_spec : {M : Type 1} → statement M
feed_spec = tie.close (tie.spec (λ c κs. search rules) returns (λ c κs. search rules) returns-2)
