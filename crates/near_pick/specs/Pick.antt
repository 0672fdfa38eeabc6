-- Routes of a list written to slots of an area.
use Rattle.std.specs.Prelude.{List, map, ℕ, ◌+◌, ◌*◌, ◌≤◌, ◌<◌, length, get_or}
use Rattle.words.specs.Part.{slot}
use Rattle.search_ask.specs.Earlier.{route_in, Formed}

-- The routes in the slots of these ranks.
abbrev pub routes_at : ℕ → List ℕ → List ℕ → List (List ℕ)
routes_at w list ranks = map (λ r. route_in (slot w r list)) ranks

-- The slots of the ranks are the list's and are formed, and the area has as many.
pub record Fits (w : ℕ) (list ranks area : List ℕ) : Type 0 where
  pub ranked : (j : ℕ) → j < length ranks → get_or ranks j 0 * w + w ≤ length list
  pub formed : (j : ℕ) → j < length ranks → Formed (slot w (get_or ranks j 0) list)
  pub words : length ranks * w ≤ length area
