-- The stages of a search, by the labels in the bytes and the candidate last looked at.
use Rattle.std.specs.Prelude.{◌≡◌, ◌≢◌, ℕ, pred, ◌+◌, ◌*◌, ◌<◌, ◌≤◌, length, take}
use mathlib.Core.List.{List, Memᴰ}
use Rattle.net.specs.Net.{Arc}
use Rattle.net.specs.Route.{end_of, length_of}
use Rattle.net.specs.Round.{Query, counted, Ending, answered, unanswered, refused, ending}
use Rattle.net.specs.Labels.{held}
use Rattle.net.specs.Limits.{most_nodes, most_length, most_labels}
use Rattle.net.specs.Search.{up_to}
use Rattle.table.specs.Table.{arcs_of}
use Rattle.labels.specs.Field.{label_bytes, most_earlier, Row, put_row}
use Rattle.labels.specs.Chain.{chain_at, chains_in, labels_in}
use Rattle.labels.specs.Standing.{Standing, Holding}
use Rattle.labels.specs.Rows.{overlaps_of, labelled}
use Rattle.search_ask.specs.declared.Ask.{Ask}
use Rattle.search_ask.specs.declared.Candidate.{Candidate}
use Rattle.search_ask.specs.Ask.{Accepted, Points, room_in, width, chain_of, last_in}
use Rattle.search_ask.specs.Earlier.{Earlier}
use Rattle.search_queue.specs.Only.{Only}
use Rattle.search_cursor.specs.Queue.{Queued}
use Rattle.round_label.specs.declared.State.{State}
use Rattle.round_label.specs.declared.Stage.TheVariants.{GoesOn, Answered, Unanswered, NoRoom}

-- What a search asks: an accepted ask, the earlier answers in their slots with their lengths, no more of them than a label has
-- overlaps, and no more room than labels may have.
pub record Ready (ask : Ask) (table area lens labels : List ℕ) : Type 0 where
  pub accepted : Accepted ask table
  pub earlier : Earlier (arcs_of table) (width ask) (length lens) area lens
  pub few : length lens ≤ most_earlier
  pub room : room_in labels ≤ most_labels

-- The order of rule 3.
abbrev pub guide : Query → List ℕ → ℕ
guide q = length_of q.net.arcs

-- The search goes on: the labels' chains are the live partial routes not after the one last looked at, and none ends at t.
pub record Going (q : Query) (earlier : List (List ℕ)) (labels : List ℕ) (x : State) : Type 0 where
  pub standing : Standing q.net.arcs q.s labels x.n
  pub holding : Holding q.net earlier labels x.n
  pub begun : x.n ≢ 0
  pub fits : x.n ≤ q.room
  pub points : Points q.net.arcs x.n x.last
  pub taken : chains_in labels x.n ≡ up_to (guide q) q earlier (last_in labels x.last)
  pub read : labels_in labels x.n ≡ Rattle.net.specs.Labels.labels (chains_in labels x.n)
  pub short : (p : List ℕ) → Memᴰ p (chains_in labels x.n) → end_of q.net.arcs q.s p ≢ q.t

-- The search has ended so: its labels hold what the round counts, as many as there is room for.
pub record Over (q : Query) (earlier : List (List ℕ)) (labels : List ℕ) (n : ℕ) (e : Ending) : Type 0 where
  pub standing : Standing q.net.arcs q.s labels n
  pub holding : Holding q.net earlier labels n
  pub ends : ending q earlier ≡ e
  pub chains : chains_in labels n ≡ take q.room (counted q earlier)
  pub holds : labels_in labels n ≡ held q earlier

-- It goes on, with the labels' own candidates in order; or it is over, with an answer, the last label's chain, with none, or refused for room.
abbrev pub StageAt : Rattle.round_label.specs.declared.Stage.Stage → Query → List (List ℕ) → List ℕ → State → Type 0
StageAt GoesOn q earlier labels x = Going q earlier labels x × Queued q earlier (last_in labels x.last) labels x.n x.root
StageAt Answered q earlier labels x = (x.n ≢ 0) × Over q earlier labels x.n (answered (chain_at labels (pred x.n)) x.n)
StageAt Unanswered q earlier labels x = Over q earlier labels x.n (unanswered x.n)
StageAt NoRoom q earlier labels x = Over q earlier labels x.n refused

abbrev pub Stage : Query → List (List ℕ) → List ℕ → State → Type 0
Stage q earlier labels x = StageAt x.stage q earlier labels x

-- The bytes stay those of the chains taken up, but for their labels' working bytes, over any bytes l of which they were so.
abbrev pub Keeps : Query → List (List ℕ) → List ℕ → ℕ → List ℕ → ℕ → Type 0
Keeps q earlier labels n labels' n' =
    (l : List ℕ) → Only 20 20 n (labelled q.net q.s earlier l (chains_in labels n)) labels → Only 20 20 n' (labelled q.net q.s earlier l (chains_in labels' n')) labels'

-- The row of a candidate's label, with its overlaps.
abbrev pub row_for : List Arc → ℕ → List ℕ → Candidate → List ℕ → Row
row_for arcs s labels c own =
    record { last-arc = c.arc; extends = c.label; len = length_of arcs (chain_of labels c); end = end_of arcs s (chain_of labels c); overlaps = own }

-- What taking a candidate up as label n asks: room, its overlaps, limits that its fields keep, that no label has its chain, that it does not end at s, and that
-- the queue is right after it.
pub record Entering (q : Query) (earlier : List (List ℕ)) (labels : List ℕ) (n : ℕ) (c : Candidate) (own : List ℕ) (root : ℕ) : Type 0 where
  pub begun : n ≢ 0
  pub few : n < most_labels
  pub room : n * label_bytes + label_bytes ≤ length labels
  pub overlaps : own ≡ overlaps_of q.net earlier (chain_of labels c)
  pub short : length (chain_of labels c) < most_nodes
  pub most : length_of q.net.arcs (chain_of labels c) ≤ most_nodes * most_length
  pub fresh : (i : ℕ) → i < n → chain_at labels i ≢ chain_of labels c
  pub away : end_of q.net.arcs q.s (chain_of labels c) ≢ q.s
  pub queued : Queued q earlier (chain_of labels c) labels n root

-- What it does: the candidate's row is put, and its cursor is set. Label y's candidate is then the first.
pub record Entered (q : Query) (earlier : List (List ℕ)) (labels : List ℕ) (n : ℕ) (c : Candidate) (labels' : List ℕ) (y : ℕ) : Type 0 where
  pub put : Only 20 20 (n + 1) (put_row labels n (row_for q.net.arcs q.s labels c (overlaps_of q.net earlier (chain_of labels c)))) labels'
  pub queued : Queued q earlier (chain_of labels c) labels' (n + 1) y

-- What all turns so far have done, from bytes without a label.
pub record Searched (q : Query) (earlier : List (List ℕ)) (labels labels' : List ℕ) (y : State) : Type 0 where
  pub long : length labels' ≡ length labels
  pub stage : Stage q earlier labels' y
  pub keeps : Keeps q earlier labels 0 labels' y.n
