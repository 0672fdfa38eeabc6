-- The whole search of a round.
use Rattle.std.specs.Prelude.{◌≡◌, List, ℕ}
use Rattle.net.specs.Round.{Query}
use Rattle.labels.specs.Chain.{chains_in}
use Rattle.labels.specs.Rows.{labelled}
use Rattle.search_clear.specs.Clear.{clear_work}
use Rattle.round_label.specs.declared.State.{State}
use Rattle.round_label.specs.Stage.{Stage}

-- What the search leaves: its labels' working bytes are zero.
pub record Finished (q : Query) (earlier : List (List ℕ)) (labels labels' : List ℕ) (y : State) : Type 0 where
  pub stage : Stage q earlier labels' y
  pub bytes : labels' ≡ clear_work y.n (labelled q.net q.s earlier labels (chains_in labels' y.n))
