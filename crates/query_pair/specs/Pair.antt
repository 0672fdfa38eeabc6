-- What the call for two routes with nothing in common shows and leaves, for every input (02.10).
use Rattle.std.specs.Prelude.{◌≡◌, Bool, true, not, ◌||◌, cond, List, [], ◌++◌, ℕ, ◌*◌, ◌≤◌, ltb, eqb, length, drop, replicate}
use Rattle.net.specs.Limits.{most_routes}
use Rattle.net.specs.Round.{Query}
use Rattle.net.specs.Outcome.{refusal}
use Rattle.outcome.specs.declared.Told.{Told}
use Rattle.outcome.specs.Outcome.{buffers, closures, plain}
use Rattle.table.specs.Fault.{table_fault, good}
use Rattle.closures.specs.Closed.{wrong}
use Rattle.search_ask.specs.declared.Ask.{Ask}
use Rattle.search_ask.specs.Ask.{query_for}
use Rattle.working_room.specs.Field.{room_bytes}
use Rattle.summary.specs.declared.Summary.{Summary}
use Rattle.summary.specs.Sums.{written}
use Rattle.query_rounds.specs.Area.{area_with}
use Rattle.query_rounds.specs.declared.Got.{Got}
use Rattle.pair.specs.Pair.{least_total}
use Rattle.query_pair.specs.Made.{told_for, Answers, summaries_for}

-- All that the call is given; `lent` is the number of summaries.
pub record Input : Type 0 where
  pub table : List ℕ
  pub ask : Ask
  pub closed : List ℕ
  pub area : List ℕ
  pub lent : ℕ
  pub work : List ℕ

abbrev pub query_of : Input → Query
query_of i = query_for i.ask i.table i.closed []

abbrev pub width : Input → ℕ
width i = Rattle.search_ask.specs.Ask.width i.ask

-- 10: "two slots, two summaries, 64 bytes of working room for each node"
unfoldable pub too_small : Input → Bool
too_small i = ltb (length i.area) (2 * width i) || ltb i.lent 2 || ltb (length i.work) (i.ask.nodes * room_bytes)

-- 13 and the records; 15; 7; 10. Two routes at the threshold 0/1 are within the limits of 8 and 9, so that of these only 7 is ever given.
unfoldable pub refused_of : Input → Told
unfolding table_fault wrong refusal too_small
refused_of i =
    cond (not (eqb (table_fault i.ask.nodes i.table).outcome 0)) (table_fault i.ask.nodes i.table)
    (cond (wrong i.table i.closed) (plain closures)
    (cond (not (eqb (refusal (query_of i) 2) 0)) (plain (refusal (query_of i) 2))
    (cond (too_small i) (plain buffers) good)))

-- The call comes to look for the pair.
unfoldable pub reaches : Input → Bool
unfolding refused_of
reaches i = eqb (refused_of i).outcome 0

-- The outcome: "21, no pair, after all checks".
unfoldable pub tells_due : Input → Told
unfolding reaches told_for least_total
tells_due i = cond (reaches i) (told_for (least_total (query_of i).net i.ask.s i.ask.goal)) (refused_of i)

-- The slots and the summaries, of the routes ps: "with both slots and summaries as for unfilled rounds" where there are none.
unfoldable pub area_due : Input → List (List ℕ) → List ℕ
unfolding reaches area_with
area_due i ps = cond (reaches i) (area_with (width i) 2 i.area ps) i.area

unfoldable pub sums_due : Input → List (List ℕ) → List Summary → List Summary
unfolding reaches summaries_for
sums_due i ps before = cond (reaches i) (summaries_for (query_of i) ps ++ drop 2 before) before

-- "working room is all zero after any outcome but a refusal that changes nothing"
unfoldable pub work_due : Input → List ℕ
unfolding reaches
work_due i = cond (reaches i) (replicate (length i.work) 0) i.work

-- An input by its parts, and by the numbers of the public call.
abbrev pub given : List ℕ → Ask → List ℕ → List ℕ → ℕ → List ℕ → Input
given table ask closed area lent work = record { table = table; ask = ask; closed = closed; area = area; lent = lent; work = work }

abbrev pub input : List ℕ → ℕ → ℕ → ℕ → List ℕ → List ℕ → ℕ → List ℕ → Input
input table nodes s goal closed area lent work = given table (record { nodes = nodes; s = s; goal = goal; a = 0; b = 1 }) closed area lent work

-- The routes are the pair, where the call comes to look for it: "Which of several equally short pairs comes out" is left open (docs/DECISIONS.md), and nothing else.
abbrev pub Right : Input → List (List ℕ) → Type 0
Right i ps = reaches i ≡ true → Answers (query_of i).net i.ask.s i.ask.goal ps

-- What the public call shows and leaves.
pub record Replied (i : Input) (x : Told) (area' work' : List ℕ) (sums₀ sums' : List Summary) : Type 0 where
  pub told : x ≡ tells_due i
  pub work : work' ≡ work_due i
  pub routes : List (List ℕ)
  pub right : Right i routes
  pub area : area' ≡ area_due i routes
  pub sums : sums' ≡ sums_due i routes sums₀

-- What the call on plain numbers gives: the outcome, the buffers, and how many summaries are to be written and which.
pub record Cored (i : Input) (g : Got) (area' work' : List ℕ) : Type 0 where
  pub told : g.told ≡ tells_due i
  pub work : work' ≡ work_due i
  pub routes : List (List ℕ)
  pub right : Right i routes
  pub area : area' ≡ area_due i routes
  pub few : g.n ≤ most_routes
  pub fits : g.n ≤ i.lent
  pub sums : (before : List Summary) → written g.sums g.n before ≡ sums_due i routes before
