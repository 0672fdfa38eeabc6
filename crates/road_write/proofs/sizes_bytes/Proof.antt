-- The line is `p sp `, two numbers with a space between, and a newline: 7 bytes and the digits, of which each number has at most 20.
use native.Mathlib.Omega.{arith}
use borrow.Author.Rules.{rules}
use Rattle.numerals.proofs.DecimalLaws.{decimal-length}
use Rattle.road_write.proofs.TextLaws.{sizes-length}
use Rattle.road_write.proofs.sizes_bytes.Statement.{statement}
use Rattle.road_write.proofs.sizes_bytes.Tie as tie

abbrev start : tie.After-digit_count-2 → tie.Start
start c = c.before.before

add-result : tie.Need-overflow_add-result
add-result c = omega (arith, decimal-length c.args.nodes, decimal-length c.args.arcs)

add-result-2 : tie.Need-overflow_add-result-2
add-result-2 c = omega (arith, decimal-length c.args.nodes, decimal-length c.args.arcs)

returns : tie.Need-returns
returns c = omega (arith, sizes-length c.args.nodes c.args.arcs)

pub sizes_bytes_spec : {M : Type 1} → statement M
sizes_bytes_spec = tie.close (tie.spec (λ c κs. search rules) (λ c κs. search rules) add-result add-result-2 returns)
