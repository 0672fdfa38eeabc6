-- What is kept is always that of some input: at first of none, and after a part of that part behind it.
use Rattle.std.proofs.Common.{◌≡◌, length}
use Rattle.desk_text.specs.Finished.{Kept}
use Rattle.desk.proofs.main.Given as goal

abbrev pub invariant-loop : goal.invariant-loop
invariant-loop l = Kept l.x l.first l.table × (length l.part ≡ 65536)
