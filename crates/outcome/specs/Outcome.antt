-- The outcomes of document 01, each by its number.
use Rattle.std.specs.Prelude.{ℕ, Result, Ok, Err, Option, None, Some}
use Rattle.outcome.specs.declared.Told.{Told}
use Rattle.outcome.specs.declared.Outcome.{Outcome}
use Rattle.outcome.specs.declared.Refusal.{Refusal}
use Rattle.outcome.specs.declared.Outcome.TheVariants.{Found, Fewer, Node, Loop, Length, Order, Ends, Routes, Threshold, Buffers, Room, Text, Size, File, Closures, PlanFile, PlanRequest, PlanThere, PlanRoom, Second, NoPair, Range, ListFull, TooFew, OldForm, Numbered}

-- "k routes found"
abbrev pub found : ℕ
found = 0

-- "fewer than k, and no further one exists"
abbrev pub fewer : ℕ
fewer = 1

-- "a record names a node not below the node count"
abbrev pub node : ℕ
node = 2

-- "a record starts and ends at one node"
abbrev pub loop : ℕ
loop = 3

-- "a length is outside its limits"
abbrev pub length_out : ℕ
length_out = 4

-- 5 "is never given any longer" (02.5): the number stays free.

-- "a record's start node is below the one before it"
abbrev pub order : ℕ
order = 6

-- "s or t is not below the node count, or s = t"
abbrev pub ends : ℕ
ends = 7

-- "k is outside its limits"
abbrev pub routes : ℕ
routes = 8

-- "the threshold is outside its limits"
abbrev pub threshold : ℕ
threshold = 9

-- "the route area has fewer than k × (nodes − 1) words, there are fewer than k summaries, or the label buffer holds over 65,535 whole labels"
abbrev pub buffers : ℕ
buffers = 10

-- "a round's label count exceeds the room"
abbrev pub room : ℕ
room = 11

-- "the program's text is malformed (program only)"
abbrev pub text : ℕ
text = 12

-- "node count outside its limits, table bytes not a multiple of 16, or too many records"
abbrev pub size : ℕ
size = 13

-- "malformed file (a node 0 and a wrong number of arcs among the causes), with the line" (02.2)
abbrev pub file : ℕ
file = 14

-- "closure bytes of another number than the arcs or with another value" (02.3)
abbrev pub closures : ℕ
closures = 15

-- "length not a multiple of 32, a free record not all zero, a field outside its form, an arc number above" 262,143, "or a plan whose ranks" (0 to 11) "or parts have
-- a gap or a double" (02.6); "rank runs to 11, arc numbers to 262,143" (02.11)
abbrev pub plan_file : ℕ
plan_file = 16

-- "plan number zero, or on storing not 1 to" 12 "routes, an empty one, slots out of form or such an arc number" (02.6, 02.11)
abbrev pub plan_request : ℕ
plan_request = 17

-- "already there on storing, absent on fetching or withdrawing" (02.6)
abbrev pub plan_there : ℕ
plan_there = 18

-- "fewer free records than needed, and never else" (02.6)
abbrev pub plan_room : ℕ
plan_room = 19

-- "the second table is not the first one's arcs in order of end node and then arc number" (02.9)
abbrev pub second_table : ℕ
second_table = 20

-- "no pair" (02.10)
abbrev pub no_pair : ℕ
no_pair = 21

-- "d outside 1 to 1,000 or c above d" (02.12)
abbrev pub range_out : ℕ
range_out = 22

-- "more such routes than the list has whole slots" (02.12)
abbrev pub list_full : ℕ
list_full = 23

-- "fewer than k of them" (02.12)
abbrev pub too_few : ℕ
too_few = 24

-- "old form" (02.13)
abbrev pub old_form : ℕ
old_form = 25

-- "the writer meets a road number that isn't zero, with the lowest such record" (02.5)
abbrev pub numbered : ℕ
numbered = 27

-- "Where no number is named, 0 is returned beside the outcome."
abbrev pub plain : ℕ → Told
plain n = record { outcome = n; number = 0 }

-- The number beside an outcome: a record's or a round's.
abbrev pub beside : ℕ → ℕ → Told
beside n i = record { outcome = n; number = i }

-- The number of an outcome.
abbrev pub number_of : Outcome → ℕ
number_of Found = found
number_of Fewer = fewer
number_of Node = node
number_of Loop = loop
number_of Length = length_out
number_of Order = order
number_of Ends = ends
number_of Routes = routes
number_of Threshold = threshold
number_of Buffers = buffers
number_of Room = room
number_of Text = text
number_of Size = size
number_of File = file
number_of Closures = closures
number_of PlanFile = plan_file
number_of PlanRequest = plan_request
number_of PlanThere = plan_there
number_of PlanRoom = plan_room
number_of Second = second_table
number_of NoPair = no_pair
number_of Range = range_out
number_of ListFull = list_full
number_of TooFew = too_few
number_of OldForm = old_form
number_of Numbered = numbered

-- What is told of a refusal; and where a call may go on, 0.
abbrev pub told_of : Refusal → Told
told_of refusal = beside (number_of refusal.outcome) refusal.number

abbrev pub told_by : {X : Type 0} → Result X Refusal → Told
told_by (Ok _) = plain found
told_by (Err refusal) = told_of refusal

-- The number of an outcome that may be none: then 0.
abbrev pub number_by : Option Outcome → ℕ
number_by None = 0
number_by (Some outcome) = number_of outcome
