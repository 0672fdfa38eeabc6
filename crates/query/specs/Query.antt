-- What a query shows and leaves, for every input.
use Rattle.std.specs.Prelude.{◌≡◌, Bool, true, false, not, ◌&&◌, ◌||◌, cond, List, [], ◌++◌, map, ℕ, ◌*◌, ◌≤◌, ltb, eqb, length, drop, replicate}
use Rattle.net.specs.Limits.{most_labels, most_routes}
use Rattle.net.specs.Round.{Query, Ending}
use Rattle.outcome.specs.declared.Told.{Told}
use Rattle.outcome.specs.Outcome.{buffers, closures, plain}
use Rattle.net.specs.Outcome.{told, rounds_by, rounds, answers, summaries, refusal}
use Rattle.table.specs.Fault.{table_fault, good}
use Rattle.closures.specs.Closed.{wrong}
use Rattle.search_ask.specs.declared.Ask.{Ask}
use Rattle.search_ask.specs.Ask.{query_for, room_in}
use Rattle.summary.specs.declared.Summary.{Summary}
use Rattle.summary.specs.Sums.{written}
use Rattle.query_rounds.specs.Area.{area_with}
use Rattle.query_rounds.specs.Progress.{as_record}
use Rattle.query_rounds.specs.declared.Got.{Got}
use Rattle.query.specs.declared.Wish.{Wish}
use Rattle.query.specs.declared.Done.{Done}

-- All that a query is given. `closed` are the closure bytes, none where no closures are lent; `lent` is the number of summaries.
pub record Input : Type 0 where
  pub table : List ℕ
  pub closed : List ℕ
  pub closing : Bool
  pub ask : Ask
  pub k : ℕ
  pub labels : List ℕ
  pub area : List ℕ
  pub lent : ℕ

abbrev pub query_of : Input → Query
query_of i = query_for i.ask i.table i.closed i.labels

-- 15: "closure bytes of another number than the arcs or with another value"
abbrev pub wrong_closures : Input → Bool
wrong_closures i = i.closing && wrong i.table i.closed

-- 15, then 7, 8 and 9: what each call that is always lent closures decides after the records; 0 where none of them is due.
unfoldable pub refusal_closed : List ℕ → List ℕ → Ask → ℕ → Told
unfolding wrong refusal
refusal_closed table closed ask k = cond (wrong table closed) (plain closures) (plain (refusal (query_for ask [] [] []) k))

-- A slot has (nodes − 1) words.
abbrev pub width : Input → ℕ
width i = Rattle.search_ask.specs.Ask.width i.ask

-- 10: "the route area has fewer than k × (nodes − 1) words, there are fewer than k summaries, or the label buffer holds over 65,535 whole labels"
unfoldable pub too_small : Input → Bool
too_small i = ltb (length i.area) (i.k * width i) || ltb i.lent i.k || ltb most_labels (room_in i.labels)

-- "Order: 13 first, then the records. [...] Then 7, 8, 9, 10, then the rounds." 15 "comes after 6 and before 7".
unfoldable pub refused_of : Input → Told
unfolding table_fault wrong refusal too_small
refused_of i =
    cond (not (eqb (table_fault i.ask.nodes i.table).outcome 0)) (table_fault i.ask.nodes i.table)
    (cond (wrong_closures i) (plain closures)
    (cond (not (eqb (refusal (query_of i) i.k) 0)) (plain (refusal (query_of i) i.k))
    (cond (too_small i) (plain buffers) good)))

-- The query reaches the rounds.
unfoldable pub reaches : Input → Bool
unfolding refused_of
reaches i = eqb (refused_of i).outcome 0

abbrev pub rounds_of : Input → List Ending
rounds_of i = rounds (query_of i) i.k []

-- The outcome and the number beside it.
unfoldable pub tells_due : Input → Told
unfolding reaches rounds_by told
tells_due i = cond (reaches i) (told 1 (rounds_of i)) (refused_of i)

-- "Refusals 2 to 10 and 13 change nothing in any buffer", and 15 as "a new refusal". "After 0, 1 or 11 every byte of that buffer is zero."
unfoldable pub labels_due : Input → List ℕ
unfolding reaches
labels_due i = cond (reaches i) (replicate (length i.labels) 0) i.labels

unfoldable pub area_due : Input → List ℕ
unfolding reaches area_with rounds_by answers
area_due i = cond (reaches i) (area_with (width i) i.k i.area (answers (rounds_of i))) i.area

-- "one for each wanted route"; "Summaries after the k-th are untouched."
unfoldable pub sums_due : Input → List Summary → List Summary
unfolding reaches rounds_by summaries
sums_due i before = cond (reaches i) (map as_record (summaries (query_of i) i.k (rounds_of i)) ++ drop i.k before) before

-- An input by its parts, and by the numbers of the public calls: without closures, and with them.
abbrev pub asked : List ℕ → List ℕ → Ask → Wish → List ℕ → List ℕ → Input
asked table closed ask wish labels area =
    record { table = table; closed = closed; closing = wish.closing; ask = ask; k = wish.k; labels = labels; area = area; lent = wish.lent }

abbrev pub input : List ℕ → ℕ → ℕ → ℕ → ℕ → ℕ → ℕ → List ℕ → List ℕ → ℕ → Input
input table nodes s goal k a b labels area lent =
    asked table [] (record { nodes = nodes; s = s; goal = goal; a = a; b = b }) (record { k = k; lent = lent; closing = false }) labels area

abbrev pub input_closed : List ℕ → ℕ → ℕ → ℕ → ℕ → ℕ → ℕ → List ℕ → List ℕ → List ℕ → ℕ → Input
input_closed table nodes s goal k a b closed labels area lent =
    asked table closed (record { nodes = nodes; s = s; goal = goal; a = a; b = b }) (record { k = k; lent = lent; closing = true }) labels area

-- What the public call shows and leaves: the outcome and the final contents of all three buffers, by functions of the input.
pub record Replied (i : Input) (x : Told) (labels' area' : List ℕ) (sums₀ sums' : List Summary) : Type 0 where
  pub told : x ≡ tells_due i
  pub labels : labels' ≡ labels_due i
  pub area : area' ≡ area_due i
  pub sums : sums' ≡ sums_due i sums₀

-- What is done, with the summaries out of their rows.
abbrev pub got_of : Done → List ℕ → List ℕ → List ℕ → Got
got_of d lens arcs labels = record { told = d.told; sums = record { length = lens; arcs = arcs; labels = labels }; n = d.n }

-- What the query on plain numbers gives: the outcome, the buffers, and how many summaries are to be written and which.
pub record Cored (i : Input) (g : Got) (labels' area' : List ℕ) : Type 0 where
  pub told : g.told ≡ tells_due i
  pub labels : labels' ≡ labels_due i
  pub area : area' ≡ area_due i
  pub many : g.n ≡ cond (reaches i) i.k 0
  pub few : g.n ≤ most_routes
  pub fits : g.n ≤ i.lent
  pub sums : (before : List Summary) → written g.sums g.n before ≡ sums_due i before
