-- What the first line is, by how its seven and its five numbers were read; and 77 bytes of a text tell it, since no line of seven numbers is longer.
use mathlib.Core.Path.{◌≡◌, ap₂}
use mathlib.Core.List.{List}
use mathlib.Core.Option.{Option, none, some}
use Prim.Native.Nat.{ℕ, ◌≤◌}
use native.Mathlib.Omega.{arith}
use lib.ListN.{take}
use Rattle.desk_line.specs.Line.{Row, line_from}
use Rattle.desk_line.proofs.CutLaws.{line-cut}
use Rattle.std.specs.Prelude.{Result}
use Rattle.outcome.specs.declared.Refusal.{Refusal}
use Rattle.desk_query.specs.declared.Query.{Query}
use Rattle.desk_query.specs.Query.{First, old, malformed, query, as_query, unless_old, first_in}
use Rattle.desk_query.specs.Told.{FirstRead}

module _ (o : Option Row) where
  pub five-none : o ≡ none → as_query o ≡ malformed
  unfolding as_query
  five-none e = rw e

  pub five-some : (r : Row) → o ≡ some r → as_query o ≡ query r.values
  unfolding as_query
  five-some r e = rw e

module _ (text : List ℕ) where
  pub first-old : (r : Row) → line_from 7 text 0 ≡ some r → first_in text ≡ old
  unfolding first_in unless_old
  first-old r e = rw e

  pub first-five : line_from 7 text 0 ≡ none → first_in text ≡ as_query (line_from 5 text 0)
  unfolding first_in unless_old
  first-five e = rw e

  pub first-cut : (c : ℕ) → 77 ≤ c → first_in (take c text) ≡ first_in text
  unfolding first_in
  first-cut c h = ap₂ (λ x y. unless_old x (as_query y)) (line-cut 7 c text 0 (omega arith)) (line-cut 5 c text 0 (omega arith))

pub read_as : (x y : First) (q : Result Query Refusal) → x ≡ y → FirstRead y q → FirstRead x q
read_as x y q e h = rw e h
