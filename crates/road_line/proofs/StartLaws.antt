-- A start has at most five bytes, so a place that has one is below 5.
use mathlib.Core.Path.{◌≡◌}
use mathlib.Core.Logic.{⊎_elim}
use Prim.Native.Nat.{ℕ, ◌≤◌, ◌<◌}
use native.Mathlib.Omega.{arith}
use lib.ListN.{length, get_or-eq_default}
use Rattle.lists.proofs.Cases.{order}
use Rattle.road_line.specs.Scan.{start_of, expected_at}
use Rattle.road_line.specs.declared.Kind.{Kind}
use Rattle.road_line.specs.declared.Kind.TheVariants as kinds

start-length : (k : Kind) → length (start_of k) ≤ 5
unfolding start_of
start-length kinds.Unknown = omega arith
start-length kinds.Sizes = omega arith
start-length kinds.Arc = omega arith
start-length kinds.Comment = omega arith
start-length kinds.Other = omega arith

past-start : (k : Kind) (at : ℕ) → 5 ≤ at → expected_at k at ≡ 256
unfolding expected_at
past-start k at h = get_or-eq_default (start_of k) 256 (omega (arith, start-length k))

pub in_start : (k : Kind) (at : ℕ) → expected_at k at < 256 → at < 5
in_start k at h = ⊎_elim (λ g. absurd (omega (arith, past-start k at g))) (λ g. g) (order 5 at)
