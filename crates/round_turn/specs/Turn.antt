-- A turn of a search.
use Rattle.std.specs.Prelude.{◌≡◌, List, ℕ, ◌+◌, ◌<◌, length}
use Rattle.net.specs.Round.{Query}
use Rattle.net.specs.Search.{left}
use Rattle.labels.specs.Chain.{chains_in}
use Rattle.search_ask.specs.Ask.{last_in}
use Rattle.round_label.specs.declared.State.{State}
use Rattle.round_label.specs.declared.Stage.TheVariants.{GoesOn, Answered, Unanswered, NoRoom}
use Rattle.round_label.specs.Stage.{guide, Stage, Keeps}

-- 1 while a search goes on, and 0 when it is over.
abbrev pub to_end : Rattle.round_label.specs.declared.Stage.Stage → ℕ
to_end GoesOn = 1
to_end Answered = 0
to_end Unanswered = 0
to_end NoRoom = 0

-- Falls with each turn.
abbrev pub left_in : Query → List ℕ → State → ℕ
left_in q labels x = left (guide q) q.net q.s q.room (chains_in labels x.n) (last_in labels x.last) + to_end x.stage

-- What a turn does.
pub record Turned (q : Query) (earlier : List (List ℕ)) (labels : List ℕ) (x : State) (labels' : List ℕ) (y : State) : Type 0 where
  pub long : length labels' ≡ length labels
  pub stage : Stage q earlier labels' y
  pub keeps : Keeps q earlier labels x.n labels' y.n
  pub less : left_in q labels' y < left_in q labels x
