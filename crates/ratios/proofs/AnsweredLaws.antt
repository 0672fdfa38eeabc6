-- How many rounds have an answer, by a loop from i up to n: the first index whose count is 0, or n.
use mathlib.Core.Path.{◌≡◌, ap}
use mathlib.Core.Bool.{Bool}
use mathlib.Core.List.{List}
use Prim.Native.Nat.{ℕ, ◌+◌, ◌-◌, ◌≤◌, ◌<◌}
use native.Mathlib.Nat.{sub-zero}
use native.Mathlib.Omega.{arith}
use lib.Dec.{eqb}
use lib.ListN.{get_or}
use borrow.Author.Tests.{eq-eqb, ne_eqb}
use Rattle.lists.specs.Index.{first_at}
use Rattle.lists.proofs.IndexLaws.{first_done, first_step, first-stop, first-le}
use Rattle.ratios.specs.Routes.{answered_in}

abbrev pub empty : List ℕ → ℕ → Bool
empty counts j = eqb (get_or counts j 0) 0

module _ (counts : List ℕ) (n : ℕ) where
  -- the index found among those from i on
  abbrev pub from : ℕ → ℕ
  from i = first_at (empty counts) (n - i) i

  pub answered-start : from 0 ≡ answered_in counts n
  unfolding answered_in
  answered-start = ap (λ m. first_at (empty counts) m 0) (sub-zero n)

  pub answered-most : answered_in counts n ≤ n
  unfolding answered_in
  answered-most = omega (arith, first-le (empty counts) n 0)

  pub answered-done : (i : ℕ) → i ≡ n → from i ≡ n
  answered-done i h = first_done (empty counts) n i h

  pub answered-step : (i : ℕ) → i < n → (get_or counts i 0 ≡ 0 → ⊥) → from i ≡ from (i + 1)
  answered-step i h ne = first_step (empty counts) n i h (ne_eqb (get_or counts i 0) 0 ne)

  pub answered-stop : (i : ℕ) → i < n → get_or counts i 0 ≡ 0 → from i ≡ i
  answered-stop i h e = first-stop (empty counts) n i h (eq-eqb (get_or counts i 0) 0 e)
