-- What a query for via routes shows and leaves, for every input (02.9).
use Rattle.std.specs.Prelude.{◌≡◌, Bool, not, ◌||◌, cond, List, [], ◌++◌, map, ℕ, ◌*◌, ◌≤◌, ltb, eqb, length, drop, replicate}
use Rattle.net.specs.Limits.{most_routes}
use Rattle.net.specs.Round.{Query, Ending}
use Rattle.outcome.specs.declared.Told.{Told}
use Rattle.outcome.specs.Outcome.{buffers, closures, second_table, plain}
use Rattle.net.specs.Outcome.{told, answers, summaries, refusal}
use Rattle.table.specs.Fault.{table_fault, good}
use Rattle.closures.specs.Closed.{wrong}
use Rattle.second.specs.Second.{wrong_second}
use Rattle.search_ask.specs.declared.Ask.{Ask}
use Rattle.search_ask.specs.Ask.{query_for}
use Rattle.working_room.specs.Field.{room_bytes}
use Rattle.summary.specs.declared.Summary.{Summary}
use Rattle.summary.specs.Sums.{written}
use Rattle.via.specs.Via.{via_rounds}
use Rattle.query_rounds.specs.Area.{area_with}
use Rattle.query_rounds.specs.Progress.{as_record}
use Rattle.query_rounds.specs.declared.Got.{Got}
use Rattle.query_via.specs.declared.Wish.{Wish}

-- All that the call is given; `lent` is the number of summaries.
pub record Input : Type 0 where
  pub table : List ℕ
  pub second : List ℕ
  pub ask : Ask
  pub k : ℕ
  pub closed : List ℕ
  pub area : List ℕ
  pub lent : ℕ
  pub work : List ℕ

abbrev pub query_of : Input → Query
query_of i = query_for i.ask i.table i.closed []

abbrev pub width : Input → ℕ
width i = Rattle.search_ask.specs.Ask.width i.ask

-- 10: an area "shorter than that answer's slots, summaries", or "working room [...] below 64 bytes for each node"
unfoldable pub too_small : Input → Bool
too_small i =
    ltb (length i.area) (i.k * width i) || ltb i.lent i.k || ltb (length i.work) (i.ask.nodes * room_bytes)

-- 13 and the records; "20 [...] after 6 and before 15"; 15; 7, 8 and 9; 10.
unfoldable pub refused_of : Input → Told
unfolding table_fault wrong_second wrong refusal too_small
refused_of i =
    cond (not (eqb (table_fault i.ask.nodes i.table).outcome 0)) (table_fault i.ask.nodes i.table)
    (cond (wrong_second i.ask.nodes i.table i.second) (plain second_table)
    (cond (wrong i.table i.closed) (plain closures)
    (cond (not (eqb (refusal (query_of i) i.k) 0)) (plain (refusal (query_of i) i.k))
    (cond (too_small i) (plain buffers) good))))

-- The call reaches the profile.
unfoldable pub reaches : Input → Bool
unfolding refused_of
reaches i = eqb (refused_of i).outcome 0

abbrev pub rounds_of : Input → List Ending
rounds_of i = via_rounds (query_of i) i.k

-- The outcome and the number beside it.
unfoldable pub tells_due : Input → Told
unfolding reaches via_rounds told
tells_due i = cond (reaches i) (told 1 (rounds_of i)) (refused_of i)

-- "A new refusal changes nothing": the slots, the summaries and the working room stay.
unfoldable pub area_due : Input → List ℕ
unfolding reaches area_with via_rounds answers
area_due i = cond (reaches i) (area_with (width i) i.k i.area (answers (rounds_of i))) i.area

unfoldable pub sums_due : Input → List Summary → List Summary
unfolding reaches via_rounds summaries
sums_due i before = cond (reaches i) (map as_record (summaries (query_of i) i.k (rounds_of i)) ++ drop i.k before) before

-- "working room is all zero after any outcome but a refusal that changes nothing"
unfoldable pub work_due : Input → List ℕ
unfolding reaches
work_due i = cond (reaches i) (replicate (length i.work) 0) i.work

-- An input by its parts, and by the numbers of the public call.
abbrev pub given : List ℕ → List ℕ → Ask → Wish → List ℕ → List ℕ → List ℕ → Input
given table second ask wish closed area work =
    record { table = table; second = second; ask = ask; k = wish.k; closed = closed; area = area; lent = wish.lent; work = work }

abbrev pub input : List ℕ → List ℕ → ℕ → ℕ → ℕ → ℕ → ℕ → ℕ → List ℕ → List ℕ → ℕ → List ℕ → Input
input table second nodes s goal k a b closed area lent work =
    given table second (record { nodes = nodes; s = s; goal = goal; a = a; b = b }) (record { k = k; lent = lent }) closed area work

-- What the public call shows and leaves: the outcome and the final contents of all three buffers, by functions of the input.
pub record Replied (i : Input) (x : Told) (area' work' : List ℕ) (sums₀ sums' : List Summary) : Type 0 where
  pub told : x ≡ tells_due i
  pub area : area' ≡ area_due i
  pub work : work' ≡ work_due i
  pub sums : sums' ≡ sums_due i sums₀

-- What the call on plain numbers gives: the outcome, the buffers, and how many summaries are to be written and which.
pub record Cored (i : Input) (g : Got) (area' work' : List ℕ) : Type 0 where
  pub told : g.told ≡ tells_due i
  pub area : area' ≡ area_due i
  pub work : work' ≡ work_due i
  pub few : g.n ≤ most_routes
  pub fits : g.n ≤ i.lent
  pub sums : (before : List Summary) → written g.sums g.n before ≡ sums_due i before
