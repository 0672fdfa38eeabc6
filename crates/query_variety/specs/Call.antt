-- What the call for the most different of the near-shortest shows and leaves, for every input (02.12).
use Rattle.std.specs.Prelude.{◌≡◌, Bool, not, ◌||◌, cond, List, [], ℕ, ◌*◌, ltb, eqb, length, replicate}
use Rattle.net.specs.Round.{Query}
use Rattle.net.specs.Outcome.{refusal}
use Rattle.outcome.specs.declared.Told.{Told}
use Rattle.outcome.specs.Outcome.{buffers, closures, range_out, plain}
use Rattle.table.specs.Fault.{table_fault, good}
use Rattle.closures.specs.Closed.{wrong}
use Rattle.search_ask.specs.declared.Ask.{Ask}
use Rattle.search_ask.specs.Ask.{query_for}
use Rattle.working_room.specs.Field.{room_bytes}
use Rattle.query_rounds.specs.Area.{area_with}
use Rattle.variety.specs.Variety.{range_wrong, Variety, variety_reply}
use Rattle.query_variety.specs.declared.Wish.{Wish}
use Rattle.query_variety.specs.Made.{slots_of, list_after}

-- All that the call is given.
pub record Input : Type 0 where
  pub table : List ℕ
  pub ask : Ask
  pub wish : Wish
  pub closed : List ℕ
  pub list : List ℕ
  pub area : List ℕ
  pub work : List ℕ

abbrev pub query_of : Input → Query
query_of i = query_for i.ask i.table i.closed []

abbrev pub width : Input → ℕ
width i = Rattle.search_ask.specs.Ask.width i.ask

-- 10: "k slots, working room; never the list"
unfoldable pub too_small : Input → Bool
too_small i = ltb (length i.area) (i.wish.k * width i) || ltb (length i.work) (i.ask.nodes * room_bytes)

-- 13 and the records; 15; 7 and 8; 10; 22. At the threshold 0/1 there is no 9.
unfoldable pub refused_of : Input → Told
unfolding table_fault wrong refusal too_small range_wrong
refused_of i =
    cond (not (eqb (table_fault i.ask.nodes i.table).outcome 0)) (table_fault i.ask.nodes i.table)
    (cond (wrong i.table i.closed) (plain closures)
    (cond (not (eqb (refusal (query_of i) i.wish.k) 0)) (plain (refusal (query_of i) i.wish.k))
    (cond (too_small i) (plain buffers)
    (cond (range_wrong i.wish.c i.wish.d) (plain range_out) good))))

-- The call comes to list.
unfoldable pub reaches : Input → Bool
unfolding refused_of
reaches i = eqb (refused_of i).outcome 0

-- What is listed and chosen, or 23 or 24: "more such routes than the list has whole slots", of (nodes − 1) words.
abbrev pub reply_of : Input → Variety
reply_of i = variety_reply (query_of i).net i.ask.s i.ask.goal i.wish.c i.wish.d i.wish.k (slots_of (length i.list) (width i))

unfoldable pub tells_due : Input → Told
unfolding reaches variety_reply slots_of
tells_due i = cond (reaches i) (reply_of i).told (refused_of i)

-- "The chosen stand in slots by rank"; "after 23 or 24 every word [..] of the k slots is 4,294,967,295".
unfoldable pub area_due : Input → List ℕ
unfolding reaches area_with variety_reply slots_of
area_due i = cond (reaches i) (area_with (width i) i.wish.k i.area (reply_of i).routes) i.area

-- The list: "Slots [..] past the routes listed are untouched", or "every word" blank.
unfoldable pub list_due : Input → List ℕ
unfolding reaches list_after variety_reply slots_of
list_due i = cond (reaches i) (list_after (width i) i.list (reply_of i) (reply_of i).told.outcome) i.list

-- "working room is all zero after any outcome but a refusal that changes nothing"
unfoldable pub work_due : Input → List ℕ
unfolding reaches
work_due i = cond (reaches i) (replicate (length i.work) 0) i.work

-- An input by its parts, and by the numbers of the public call.
abbrev pub given : List ℕ → Ask → Wish → List ℕ → List ℕ → List ℕ → List ℕ → Input
given table ask wish closed list area work = record { table = table; ask = ask; wish = wish; closed = closed; list = list; area = area; work = work }

abbrev pub input : List ℕ → ℕ → ℕ → ℕ → ℕ → ℕ → ℕ → List ℕ → List ℕ → List ℕ → List ℕ → Input
input table nodes s goal k c d closed list area work =
    given table (record { nodes = nodes; s = s; goal = goal; a = 0; b = 1 }) (record { k = k; c = c; d = d }) closed list area work

-- What the call shows and leaves.
pub record Replied (i : Input) (x : Told) (list' area' work' : List ℕ) : Type 0 where
  pub told : x ≡ tells_due i
  pub list : list' ≡ list_due i
  pub area : area' ≡ area_due i
  pub work : work' ≡ work_due i
