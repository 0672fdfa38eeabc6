-- The run of w is walked. The invariant: none of its arcs before a fits.
use Rattle.std.proofs.Common.{◌≡◌, ℕ, false, ◌≤◌, ◌<◌}
use Rattle.table.specs.Run.{run_start}
use Rattle.reach.specs.Choice.{fits}
use Rattle.reach.proofs.choice.open_arc.Given as goal

abbrev pub invariant-loop-a : goal.invariant-loop-a
invariant-loop-a l = (i : ℕ) → run_start l.table l.w ≤ i → i < l.a → fits l.table l.closed l.v l.len i ≡ false
