-- The scan is that of no bytes.
use mathlib.Core.Path.{ap}
use borrow.Author.Rules.{rules}
use Rattle.road_line.specs.Scan.{scan_from}
use Rattle.road_file.specs.Reader.{last_arc}
use mathlib.Core.Bool.{false}
use Rattle.road_file.specs.declared.Reader.{Reader}
use Rattle.road_file.proofs.begin.Statement.{statement}
use Rattle.road_file.proofs.begin.Tie as tie

pub begin_spec : {M : Type 1} → statement M
unfolding scan_from last_arc
begin_spec =
    tie.close
    (tie.spec
    (λ c κs. search rules)
    (λ c. ap {B = Reader} (λ s. record { scan = s; lines = 0; begun = false; nodes = 0; wanted = 0; count = 0; from = 0; to = 0; len = 0; wrong = 0 }) c.start.ensures))
