-- What an accepted ask gives the theory: s is one of the nodes, and the table, which has none of the faults 13 and 2 to 6, is sound and
-- within its limits. The room takes no part in it, so it holds whatever bytes are lent for labels.
use mathlib.Core.List.{List}
use Prim.Native.Nat.{ℕ, ◌≤◌, ◌<◌}
use native.Mathlib.Omega.{arith}
use lib.ListN.{length}
use Rattle.net.specs.Net.{arc}
use Rattle.net.specs.Limits.{most_nodes, most_arcs, most_length}
use Rattle.net.proofs.Valid.{Valid}
use Rattle.table.specs.Table.{records, arcs_of}
use Rattle.table.proofs.FaultLaws.{good-size}
use Rattle.table.proofs.NetLaws.{arcs-length, len-most, table-sound}
use Rattle.labels.specs.Field.{no_number}
use Rattle.search_ask.specs.declared.Ask.{Ask}
use Rattle.search_ask.specs.Ask.{Accepted, query_for}

module _ {ask : Ask} {t : List ℕ} (h : Accepted ask t) where
  pub accepted-valid : (closed labels : List ℕ) → Valid (query_for ask t closed labels)
  accepted-valid closed labels = record { s-below = h.s-below; sound = table-sound ask.nodes t h.no-fault closed }

  pub few-records : records t ≤ most_arcs
  few-records = (good-size ask.nodes t h.no-fault).3

  pub few-arcs : length (arcs_of t) < no_number
  few-arcs = omega (arith, arcs-length t, few-records)

  pub nodes-least : 1 ≤ ask.nodes
  nodes-least = (good-size ask.nodes t h.no-fault).0

  pub nodes-most : ask.nodes ≤ most_nodes
  nodes-most = (good-size ask.nodes t h.no-fault).1

  pub lengths-most : (a : ℕ) → (arc (arcs_of t) a).len ≤ most_length
  lengths-most = len-most ask.nodes t h.no-fault
