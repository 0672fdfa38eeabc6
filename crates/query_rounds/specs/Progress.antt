-- A query between two rounds.
use Rattle.std.specs.Prelude.{◌≡◌, cond, List, [], ◌∷◌, ◌++◌, map, ℕ, ◌+◌, ◌-◌, ◌*◌, ◌<◌, ◌≤◌, eqb, length, get_or, replicate}
use Rattle.lists.specs.Tests.{up_from}
use Rattle.words.specs.Part.{slot}
use Rattle.net.specs.Limits.{most_labels, most_routes}
use Rattle.net.specs.Round.{Query, Ending, answered, unanswered, refused}
use Rattle.labels.specs.Field.{no_number}
use Rattle.outcome.specs.declared.Told.{Told}
use Rattle.outcome.specs.Outcome.{found, fewer, room, plain, beside}
use Rattle.net.specs.Outcome.{rounds, summary, not_begun}
use Rattle.search_ask.specs.declared.Ask.{Ask}
use Rattle.search_ask.specs.Ask.{Accepted, room_in, width}
use Rattle.search_ask.specs.Earlier.{route_in, earlier_in, Earlier}
use Rattle.round.specs.declared.Ended.{Ended}
use Rattle.round.specs.declared.Ended.TheVariants.{Answer, NoAnswer, Refused}
use Rattle.summary.specs.declared.Summary.{Summary}
use Rattle.summary.specs.declared.Sums.{Sums}
use Rattle.summary.specs.Sums.{firsts}
use Rattle.query_rounds.specs.Area.{area_with}
use Rattle.query_rounds.specs.declared.Added.{Added}
use Rattle.query_rounds.specs.declared.Stage.{Stage}
use Rattle.query_rounds.specs.declared.Stage.TheVariants.{GoesOn, Found, Fewer, NoRoom}

-- How many rounds were answered, the stage, and the summaries.
pub record Progress : Type 0 where
  pub r : ℕ
  pub stage : Stage
  pub sums : Sums

-- The same with the summaries in their rows.
abbrev pub progress : ℕ → Stage → List ℕ → List ℕ → List ℕ → Progress
progress r stage lens arcs labels = record { r = r; stage = stage; sums = record { length = lens; arcs = arcs; labels = labels } }

-- Rows of zeros, one for each route that a query may want.
abbrev pub Zeros : List ℕ → List ℕ → List ℕ → Type 0
Zeros lens arcs labels = (lens ≡ replicate most_routes 0) × (arcs ≡ replicate most_routes 0) × (labels ≡ replicate most_routes 0)

-- What the rounds of a query ask: an accepted ask, no more room than labels may have, and slots for the wanted routes.
pub record Wanted (ask : Ask) (table : List ℕ) (k : ℕ) (labels area : List ℕ) : Type 0 where
  pub accepted : Accepted ask table
  pub room : room_in labels ≤ most_labels
  pub few : k ≤ most_routes
  pub slots : k * width ask ≤ length area

-- A summary of the theory as the record that is lent.
abbrev pub as_record : Rattle.net.specs.Outcome.Summary → Summary
as_record x = record { length = x.len; arcs = x.arcs; labels = x.labels }

-- The rounds that were answered: each by the route in its slot and its label count.
unfoldable pub answered_in : ℕ → List ℕ → Progress → List Ending
unfolding route_in slot up_from
answered_in w area x = map (λ j. answered (route_in (slot w j area)) (get_or x.sums.labels j 0)) (up_from 0 x.r)

-- The round that was not, if there is one: without an answer, or refused for room.
abbrev pub last_round : Stage → Progress → List Ending
last_round GoesOn x = []
last_round Found x = []
last_round Fewer x = unanswered (get_or x.sums.labels x.r 0) ∷ []
last_round NoRoom x = refused ∷ []

-- The rounds still to come: none but where the query goes on.
abbrev pub to_come : Stage → Query → ℕ → List (List ℕ) → Progress → List Ending
to_come GoesOn q k earlier x = rounds q (k - x.r) earlier
to_come Found q k earlier x = []
to_come Fewer q k earlier x = []
to_come NoRoom q k earlier x = []

-- The rounds made so far.
abbrev pub made_in : ℕ → List ℕ → Progress → List Ending
made_in w area x = answered_in w area x ++ last_round x.stage x

-- Between two rounds of a query for k routes: what was made and what is to come are the query's rounds, the summaries are those of what was made, and the slots of
-- what is to come are blank.
pub record Underway (q : Query) (w k : ℕ) (area : List ℕ) (x : Progress) : Type 0 where
  pub going : x.stage ≡ GoesOn → x.r < k
  pub few : x.r ≤ k
  pub rows : (length x.sums.length ≡ most_routes) × (length x.sums.arcs ≡ most_routes) × (length x.sums.labels ≡ most_routes)
  pub earlier : Earlier q.net.arcs w x.r area x.sums.length
  pub blank : (j : ℕ) → x.r ≤ j → j < k → slot w j area ≡ replicate w no_number
  pub made : made_in w area x ++ to_come x.stage q k (earlier_in w x.r area) x ≡ rounds q k []
  pub sums : firsts x.sums most_routes ≡ map as_record (map (summary q) (made_in w area x) ++ replicate (most_routes - length (made_in w area x)) not_begun)

-- The answers so far stand in their slots, over any area l of which it was so before.
abbrev pub Slotted : ℕ → ℕ → List ℕ → ℕ → List ℕ → ℕ → Type 0
Slotted w k area r area' r' = (l : List ℕ) → area ≡ area_with w k l (earlier_in w r area) → area' ≡ area_with w k l (earlier_in w r' area')

-- 1 while a query goes on, and 0 when it is over.
abbrev pub to_end : Stage → ℕ
to_end GoesOn = 1
to_end Found = 0
to_end Fewer = 0
to_end NoRoom = 0

-- What one round more does.
pub record Stepped (q : Query) (w k : ℕ) (area : List ℕ) (x : Progress) (area' : List ℕ) (y : Progress) : Type 0 where
  pub long : length area' ≡ length area
  pub underway : Underway q w k area' y
  pub slots : Slotted w k area x.r area' y.r
  pub less : k - y.r + to_end y.stage < k - x.r + to_end x.stage

-- What a round that ended so adds to a progress of r answers out of k wanted: one answer more, and all found with the last of them; fewer where there is none; no room
-- where it was refused, with the room for labels as its count.
abbrev pub after_of : Ended → ℕ → ℕ → ℕ → Added
after_of (Answer l m n) r k room = record { r = r + 1; stage = cond (eqb (r + 1) k) Found GoesOn; row = record { length = l; arcs = m; labels = n } }
after_of (NoAnswer n) r k room = record { r = r; stage = Fewer; row = record { length = 0; arcs = 0; labels = n } }
after_of Refused r k room = record { r = r; stage = NoRoom; row = record { length = 0; arcs = 0; labels = room } }

-- What each stage that ends a query tells after r answers: 0 after k of them; 1; 11 with the number of the refused round, from 1.
abbrev pub outcome_at : Stage → ℕ → Told
outcome_at GoesOn r = plain found
outcome_at Found r = plain found
outcome_at Fewer r = plain fewer
outcome_at NoRoom r = beside room (r + 1)
