-- Both numbers are below 2 ^ 40, so each cast is exact (`cast_fits`), and the one division is that of the two whole numbers (`divides`).
use Rattle.ratios.proofs.QuotientLaws.{cast_fits, divides}
use Rattle.ratios.proofs.quotient.Statement.{statement}
use Rattle.ratios.proofs.quotient.Tie as tie

int-to-float-result : tie.Need-int_to_float-result
int-to-float-result c = cast_fits c.args.f.over c.requires.0

int-to-float-result-2 : tie.Need-int_to_float-result-2
int-to-float-result-2 c = cast_fits c.args.f.under c.requires.2

returns : tie.Need-returns
returns c =
    let start = c in
    divides start.args.f.over start.args.f.under start.requires.0 start.requires.1 start.requires.2

pub quotient_spec : {M : Type 1} → statement M
quotient_spec = tie.close (tie.spec int-to-float-result int-to-float-result-2 returns)
