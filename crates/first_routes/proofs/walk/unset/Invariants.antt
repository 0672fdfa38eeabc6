-- A node a turn. The invariant: only ranks have changed, and those below v are unset.
use Rattle.std.proofs.Common.{◌≡◌, ℕ, ◌<◌}
use Rattle.working_room.specs.Field.{Within}
use Rattle.first_routes.specs.Firsts.{none, rank_in}
use Rattle.first_routes.proofs.walk.unset.Given as goal

abbrev pub invariant-loop-v : goal.invariant-loop-v
invariant-loop-v l = record {
  within : Within 24 4 l.initial.room l.room;
  unset : (w : ℕ) → w < l.v → rank_in l.room w ≡ none;
}
