-- The faults of a road file's arcs, as a pass over its text finds them.
use Rattle.std.specs.Prelude.{Option, None, Some, cond, ℕ, ltb, eqb}
use Rattle.lists.specs.Tests.{lex}
use Rattle.net.specs.Net.{Arc}
use Rattle.table.specs.Fault.{fault_of}
use Rattle.road_file.specs.File.{Fed}
use Rattle.road_file.specs.declared.Reader.{Reader}
use Rattle.road_order.specs.Lowest.{Pick, no_pick, better, picked}
use Rattle.outcome.specs.Outcome.{number_of}
use Rattle.road_judge.specs.declared.faulty.Place.{Place}
use Rattle.road_judge.specs.declared.faulty.Faulty.{Faulty}

-- 2, 3 or 4 of an arc by itself, or 0: in the table made the arcs are in order.
unfoldable pub fault_by : ℕ → Arc → ℕ
unfolding fault_of
fault_by nodes a = fault_of nodes 0 a.from a.to a.len

-- An arc with this fault at a place.
abbrev pub pick_at : ℕ → Place → Pick
pick_at fault place = record { fault = fault; start = place.start; at = place.at }

abbrev pub pick_of : Option Faulty → Pick
pick_of None = no_pick
pick_of (Some faulty) = pick_at (number_of faulty.fault) faulty.place

-- The pick of what was fed so far.
abbrev pub pick_in : Fed → Pick
pick_in x = picked (fault_by x.said.nodes) 0 no_pick x.said.arcs

-- After one byte more, which has brought an arc or not.
abbrev pub last_by : Reader → Arc
last_by r = record { from = r.from; to = r.to; len = r.len }

unfoldable pub pick_next : Pick → ℕ → Reader → Pick
unfolding better fault_by
pick_next p before r = cond (eqb r.count before) p (better (fault_by r.nodes) before p (last_by r))

-- Whether the last arc, the i-th of the file, stands before that place after ordering.
unfoldable pub stands_by : Place → Reader → ℕ → ℕ
unfolding lex
stands_by place r i = cond (lex r.from place.start (ltb i place.at)) 1 0

unfoldable pub stands_next : Place → ℕ → Reader → ℕ
unfolding stands_by
stands_next place before r = cond (eqb r.count before) 0 (stands_by place r before)
