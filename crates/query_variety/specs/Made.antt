-- What is made of a list: the chosen in their slots, or every word blank.
use Rattle.std.specs.Prelude.{◌≡◌, Option, cond, List, ℕ, zero, suc, ◌/◌, ltb, length, drop, replicate}
use Rattle.outcome.specs.declared.Told.{Told}
use Rattle.labels.specs.Field.{no_number}
use Rattle.query_rounds.specs.Area.{area_with}
use Rattle.variety.specs.Variety.{Variety}
use Rattle.near_list.specs.Near.{Lists}

-- The number beside an outcome has 32 bits: no more routes are listed than it can tell.
abbrev pub most_listed : ℕ
most_listed = 4294967295

-- "whole slots" of w words.
unfoldable pub slots_of : ℕ → ℕ → ℕ
slots_of words w = cond (ltb most_listed (words / w)) most_listed (words / w)

-- What the listing leaves, for the routes rs.
pub record Listing (t : List ℕ) (w slots : ℕ) (rs : List (List ℕ)) (l area room m area' room' : List ℕ) (n : Option ℕ) : Type 0 where
  pub lists : Lists t w slots rs l m n
  pub list-long : length m ≡ length l
  pub area-long : length area' ≡ length area
  pub area_on : drop w area' ≡ drop w area
  pub room-is : room' ≡ replicate (length room) 0

-- "Slots of the list past the routes listed are untouched"; "After 23 or 24 every word of the list [..] is 4,294,967,295".
unfoldable pub list_after : ℕ → List ℕ → Variety → ℕ → List ℕ
unfolding area_with
list_after w list v zero = area_with w (length v.listed) list v.listed
list_after w list v (suc n) = replicate (length list) no_number

-- What an answer leaves: the list, "the chosen [..] in slots by rank", and a room of zeros.
pub record Left (v : Variety) (w k : ℕ) (list area room : List ℕ) (x : Told) (list' area' room' : List ℕ) : Type 0 where
  pub told : x ≡ v.told
  pub list-is : list' ≡ list_after w list v v.told.outcome
  pub area-is : area' ≡ area_with w k area v.routes
  pub room-is : room' ≡ replicate (length room) 0
