-- What a query with ratios shows and leaves, for every input.
use Rattle.std.specs.Prelude.{◌≡◌, cond, List, ◌++◌, ℕ, drop}
use Rattle.outcome.specs.declared.Told.{Told}
use Rattle.net.specs.Outcome.{rounds_by, answers}
use Rattle.summary.specs.declared.Summary.{Summary}
use Rattle.ratios.specs.declared.Ratios.{Ratios}
use Rattle.ratios.specs.Ratios.{ratios_for}
use Rattle.ratios.specs.Rows.{written}
use Rattle.query_rounds.specs.declared.Got.{Got}
use Rattle.query.specs.Query.{Input, query_of, reaches, rounds_of, Replied, Cored}
use Rattle.query_ratios.specs.declared.Rated.{Rated}

-- "The call is the query with one such record lent for each wanted route"; a refusal changes none, and records after the k-th are untouched.
unfoldable pub ratios_due : Input → List Ratios → List Ratios
unfolding reaches rounds_by answers ratios_for
ratios_due i before = cond (reaches i) (ratios_for (query_of i).net i.k (answers (rounds_of i)) ++ drop i.k before) before

-- What the public call shows and leaves: all that the query does, and the ratios. "fewer are 10": the number lent is that of summaries or ratios, whichever is less.
pub record RepliedRatios (i : Input) (x : Told) (labels' area' : List ℕ) (sums₀ sums' : List Summary) (ratios₀ ratios' : List Ratios) : Type 0 where
  pub replied : Replied i x labels' area' sums₀ sums'
  pub ratios : ratios' ≡ ratios_due i ratios₀

-- The answer of the query itself.
abbrev pub got_of : Rated → Got
got_of g = record { told = g.told; sums = g.sums; n = g.n }

-- What the query on plain numbers gives: all that it does, and which ratios are to be written.
pub record CoredRatios (i : Input) (g : Rated) (labels' area' : List ℕ) : Type 0 where
  pub cored : Cored i (got_of g) labels' area'
  pub ratios : (before : List Ratios) → written g.rows g.n before ≡ ratios_due i before
