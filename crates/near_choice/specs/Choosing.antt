-- The choice in the buffers: the ranks chosen so far, the best choice so far, and how varied each is, as a fraction that is equal to the definition's though not the
-- same numbers.
use Rattle.std.specs.Prelude.{◌≡◌, ◌⊎◌, None, Some, IfSome, List, [], ◌∷◌, map, Bool, true, false, ℕ, ◌-◌, ◌≤◌, ◌<◌, T, length, get_or, take}
use Rattle.std.proofs.Math.Option.{Option, none, some}
use Rattle.lists.specs.Tests.{distinct, up_from}
use Rattle.words.specs.Part.{slot}
use Rattle.net.specs.Limits.{most_nodes}
use Rattle.net.specs.Route.{length_of}
use Rattle.table.specs.Table.{arcs_of}
use Rattle.table.specs.Fault.{table_fault, good}
use Rattle.search_ask.specs.Earlier.{route_in, earlier_in}
use Rattle.products.specs.Product.{most_factor}
use Rattle.remaining.specs.Standing.{Roomy}
use Rattle.route_list.specs.Listed.{Listed}
use Rattle.route_apart.specs.Marks.{StartsApart, Unmarked, marked_of, apart_by}
use Rattle.products.specs.declared.Fraction.{Fraction}
use Rattle.variety.specs.Choice.{search_from}
use Rattle.variety.specs.Variety.{no_route, less, lower, variety, varied}
use Rattle.variety.proofs.Steps.{Same}
use Rattle.variety.proofs.Fractions.{Proper}
use Rattle.near_choice.specs.Best.{Best}

-- n simple routes stand in the list's slots of w words: none leaves a node twice.
pub record Routes (t : List ℕ) (nodes w n : ℕ) (list : List ℕ) : Type 0 where
  pub fine : table_fault nodes t ≡ good
  pub few : w ≤ most_nodes
  pub listed : Listed t w n list
  pub starts : (i : ℕ) → i < n → StartsApart t (route_in (slot w i list))
  pub once : (i : ℕ) → i < n → T (distinct (route_in (slot w i list)))
  pub long : (i : ℕ) → 0 < length_of (arcs_of t) (get_or (earlier_in w n list) i no_route)

-- The room has a record for each node, and no marks.
pub record Blank (nodes : ℕ) (room : List ℕ) : Type 0 where
  pub roomy : Roomy nodes room
  pub unmarked : Unmarked room

-- Both parts have at most 40 bits.
abbrev pub Few : Fraction → Type 0
Few x = (x.over < most_factor) × (x.under < most_factor)

-- The fraction tells how varied the ranks are.
pub record Tells (t : List ℕ) (w n : ℕ) (list ranks : List ℕ) (x : Fraction) : Type 0 where
  pub same : Same x (variety (arcs_of t) (earlier_in w n list) ranks)
  pub proper : Proper x
  pub over-few : x.over < most_factor
  pub under-few : x.under < most_factor

-- The best choice so far: its ranks stand in `best`.
abbrev pub best_in : Best → List ℕ → Option (List ℕ)
best_in None best = none
best_in (Some x) best = some best

abbrev pub Stands : List ℕ → ℕ → ℕ → List ℕ → Best → List ℕ → Type 0
Stands t w n list b best = IfSome b (Tells t w n list best)

-- A choice as varied as x is better than the best so far.
unfoldable pub hope_by : Best → Fraction → Bool
unfolding less
hope_by None x = true
hope_by (Some y) x = less y x

-- What a whole choice leaves in `best`: itself where it is better, and else what was there.
abbrev pub Weighed : List ℕ → List ℕ → Fraction → Best → List ℕ → Best → Type 0
Weighed ranks best x b best' r =
    ((hope_by b x ≡ true) × (best' ≡ ranks) × (r ≡ Some x)) ⊎ ((hope_by b x ≡ false) × (best' ≡ best) × (r ≡ b))

-- The ranks are of the n listed.
abbrev pub Below : ℕ → List ℕ → Type 0
Below n ranks = (j : ℕ) → j < length ranks → get_or ranks j 0 < n

-- The lowest of a fraction and others, one by one.
unfoldable pub lowest : Fraction → List Fraction → Fraction
unfolding lower
lowest x [] = x
lowest x (y ∷ ys) = lowest (lower x y) ys

-- The dissimilarities of the routes of these ranks and the marked one, of this length.
abbrev pub aparts_by : List ℕ → ℕ → List ℕ → List ℕ → ℕ → List ℕ → List Fraction
aparts_by t w list room size ranks = map (λ i. apart_by t room (slot w i list) size) ranks

-- What each shares with the marked one is no longer than that.
abbrev pub Shares : List ℕ → ℕ → List ℕ → List ℕ → ℕ → List ℕ → Type 0
Shares t w list room size ranks = (j : ℕ) → j < length ranks → marked_of t room (slot w (get_or ranks j 0) list) ≤ size

-- The search of the request from here on.
abbrev pub sought_from : List ℕ → ℕ → ℕ → List ℕ → ℕ → ℕ → List ℕ → Option (List ℕ) → Option (List ℕ)
sought_from t w n list from left ranks best = search_from (varied (arcs_of t) (earlier_in w n list)) (up_from from (n - from)) left ranks best

-- `depth` of the n ranks are chosen, and how varied they are is told; those from `from` on are still to look at.
pub record Seeks (t : List ℕ) (nodes w n : ℕ) (list room ranks best : List ℕ) (depth from : ℕ) (least : Fraction) (b : Best) : Type 0 where
  pub routes : Routes t nodes w n list
  pub blank : Blank nodes room
  pub same-long : length ranks ≡ length best
  pub deep : depth ≤ length ranks
  pub up_to : from ≤ n
  pub below : Below n (take depth ranks)
  pub tells : Tells t w n list (take depth ranks) least
  pub stands : Stands t w n list b best

-- What the search from there leaves.
pub record Sought (t : List ℕ) (nodes w n : ℕ) (list room ranks best : List ℕ) (depth from : ℕ) (b : Best) (room' ranks' best' : List ℕ) (r : Best) : Type 0 where
  pub room-long : length room' ≡ length room
  pub unmarked : Unmarked room'
  pub ranks-long : length ranks' ≡ length ranks
  pub ranks-kept : take depth ranks' ≡ take depth ranks
  pub best-long : length best' ≡ length best
  pub is : best_in r best' ≡ sought_from t w n list from (length ranks - depth) (take depth ranks) (best_in b best)
  pub stands : Stands t w n list r best'

-- Between two ranks: those from i on are left, and the search from there makes the whole.
pub record Turning (t : List ℕ) (nodes w n : ℕ) (list room ranks best : List ℕ) (depth from : ℕ) (b : Best) (i : ℕ) (room' ranks' best' : List ℕ) (r : Best) : Type 0 where
  pub up_to : i ≤ n
  pub room-long : length room' ≡ length room
  pub unmarked : Unmarked room'
  pub ranks-long : length ranks' ≡ length ranks
  pub ranks-kept : take depth ranks' ≡ take depth ranks
  pub best-long : length best' ≡ length best
  pub whole : sought_from t w n list i (length ranks - depth) (take depth ranks) (best_in r best') ≡ sought_from t w n list from (length ranks - depth) (take depth ranks) (best_in b best)
  pub stands : Stands t w n list r best'
