-- A new line begins, and one more is counted.
use mathlib.Core.Path.{ap₂}
use borrow.Author.Rules.{rules}
use Rattle.road_file.specs.declared.Reader.{Reader}
use Rattle.road_file.proofs.pass.Statement.{statement}
use Rattle.road_file.proofs.pass.Tie as tie

returns : tie.Need-returns
returns c =
    let r = c.before.before.args.r in
    ap₂ {C = Reader} (λ s n. record { scan = s; lines = n; begun = r.begun; nodes = r.nodes; wanted = r.wanted; count = r.count; from = r.from; to = r.to; len = r.len; wrong = r.wrong }) c.before.start.ensures c.next_line.ensures

pub pass_spec : {M : Type 1} → statement M
pass_spec = tie.close (tie.spec (λ c κs. search rules) (λ c κs. search rules) returns)
