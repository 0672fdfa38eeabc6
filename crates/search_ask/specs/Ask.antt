-- What is asked of a round, from bytes and numbers to the theory's query, and what holds while its search goes on.
use Rattle.std.specs.Prelude.{◌≡◌, cond, List, [], ◌∷◌, ◌++◌, ◌≢◌, ℕ, ◌-◌, ◌/◌, ◌≤◌, ◌<◌, eqb, length}
use Rattle.net.specs.Net.{Arc, Net}
use Rattle.net.specs.Route.{end_of}
use Rattle.net.specs.Round.{Query}
use Rattle.net.specs.Limits.{most_b}
use Rattle.table.specs.Table.{records, arcs_of, net_of}
use Rattle.table.specs.Fault.{table_fault, good}
use Rattle.labels.specs.Field.{label_bytes, no_number}
use Rattle.labels.specs.Chain.{chain_at}
use Rattle.labels.specs.Standing.{Comparable, Standing}
use Rattle.search_ask.specs.declared.Ask.{Ask}
use Rattle.search_ask.specs.declared.Candidate.{Candidate}

-- "The room is the number of whole" 128-byte "labels in the label buffer." (02.11)
abbrev pub room_in : List ℕ → ℕ
room_in labels = length labels / label_bytes

-- "its own slot of (nodes − 1) words"
abbrev pub width : Ask → ℕ
width ask = ask.nodes - 1

-- Over the open arcs: `closed` are the closure bytes, or none.
abbrev pub net_for : Ask → List ℕ → List ℕ → Net
net_for ask table closed = net_of ask.nodes table closed

abbrev pub query_for : Ask → List ℕ → List ℕ → List ℕ → Query
query_for ask table closed labels =
    record { net = net_for ask table closed; s = ask.s; t = ask.goal; a = ask.a; b = ask.b; room = room_in labels }

-- What has passed the refusals.
pub record Accepted (ask : Ask) (table : List ℕ) : Type 0 where
  pub no-fault : table_fault ask.nodes table ≡ good
  pub s-below : ask.s < ask.nodes
  pub goal-below : ask.goal < ask.nodes
  pub apart : ask.s ≢ ask.goal
  pub b-least : 1 ≤ ask.b
  pub b-most : ask.b ≤ most_b
  pub a-below : ask.a < ask.b

-- A search goes on: its ask is accepted, its first n labels stand, and no two of them stand for one chain.
pub record Searching (ask : Ask) (table labels : List ℕ) (n : ℕ) : Type 0 where
  pub accepted : Accepted ask table
  pub standing : Standing (arcs_of table) ask.s labels n
  pub comparable : Comparable labels n

-- ---- candidates

-- The chain of a candidate: that of the label that it extends, and its last arc.
abbrev pub chain_of : List ℕ → Candidate → List ℕ
chain_of labels c = chain_at labels c.label ++ (c.arc ∷ [])

-- A candidate's label is one of the n, and its arc one of the table's.
pub record Among (table : List ℕ) (n : ℕ) (c : Candidate) : Type 0 where
  pub label-below : c.label < n
  pub arc-below : c.arc < records table

-- The chain last looked at: at first the empty one.
unfoldable pub last_in : List ℕ → Candidate → List ℕ
last_in labels c = cond (eqb c.arc no_number) [] (chain_of labels c)

-- The node that the chain of a label ends at.
abbrev pub end_in : Ask → List ℕ → List ℕ → ℕ → ℕ
end_in ask table labels label = end_of (arcs_of table) ask.s (chain_at labels label)

-- Where it is not none, a candidate's label is one of the n, and its arc one of the arcs.
pub record Points (arcs : List Arc) (n : ℕ) (c : Candidate) : Type 0 where
  pub label-below : c.arc ≢ no_number → c.label < n
  pub arc-below : c.arc ≢ no_number → c.arc < length arcs
