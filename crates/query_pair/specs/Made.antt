-- What is made of a pair: slots, summaries and outcome.
use Rattle.std.specs.Prelude.{◌≡◌, ◌⊎◌, Bool, true, false, List, [], ◌∷◌, map, ℕ, ◌+◌, length, replicate}
use Rattle.std.proofs.Math.Option.{Option, none, some}
use Rattle.outcome.specs.declared.Told.{Told}
use Rattle.outcome.specs.Outcome.{found, no_pair, plain}
use Rattle.net.specs.Limits.{most_routes}
use Rattle.net.specs.Net.{Net}
use Rattle.net.specs.Route.{length_of}
use Rattle.net.specs.Round.{Query, answered}
use Rattle.net.specs.Outcome.{summaries}
use Rattle.summary.specs.declared.Summary.{Summary}
use Rattle.summary.specs.declared.Sums.{Sums}
use Rattle.summary.specs.Sums.{set_entry, firsts}
use Rattle.query_rounds.specs.Area.{area_with}
use Rattle.query_rounds.specs.Progress.{as_record}
use Rattle.query_rounds.specs.declared.Got.{Got}
use Rattle.pair.specs.Pair.{LeastPair, NoPair, least_total}
use Rattle.pair_room.specs.Stages.{Settled}
use Rattle.pair_walks.specs.declared.Way.{Way}
use Rattle.pair_walks.specs.declared.Ways.{Ways}

-- After the two searches: the marks are those of a pair, or there is none.
abbrev pub Prepared : Net → ℕ → ℕ → List ℕ → Bool → Type 0
Prepared net s t l r = ((r ≡ true) × Settled net s t l) ⊎ ((r ≡ false) × NoPair net s t × (least_total net s t ≡ none))

-- "refused exactly if no such pair exists"
unfoldable pub told_for : Option ℕ → Told
told_for none = plain no_pair
told_for (some n) = plain found

-- The routes that stand in the slots: a pair of least total, the one that precedes first; none where no pair exists.
pub record PairOf (net : Net) (s t : ℕ) (p q : List ℕ) : Type 0 where
  pub least : LeastPair net s t p q
  pub total : least_total net s t ≡ some (length_of net.arcs p + length_of net.arcs q)

abbrev pub Answers : Net → ℕ → ℕ → List (List ℕ) → Type 0
Answers net s t ps =
    ((p : List ℕ) × (q : List ℕ) × (ps ≡ p ∷ q ∷ []) × PairOf net s t p q) ⊎ ((ps ≡ []) × NoPair net s t × (least_total net s t ≡ none))

-- "label counts are 0", and without a pair "summaries as for unfilled rounds"
unfoldable pub summaries_for : Query → List (List ℕ) → List Summary
unfolding summaries
summaries_for q ps = map as_record (summaries q 2 (map (λ p. answered p 0) ps))

-- The summaries by value.
abbrev pub zero_sums : Sums
zero_sums = record { length = replicate most_routes 0; arcs = replicate most_routes 0; labels = replicate most_routes 0 }

abbrev pub none_got : Got
none_got = record { told = plain no_pair; sums = zero_sums; n = 2 }

abbrev pub as_summary : Way → Summary
as_summary x = record { length = x.length; arcs = x.arcs; labels = 0 }

abbrev pub got_of : Ways → Got
got_of x = record { told = plain found; sums = set_entry (set_entry zero_sums 0 (as_summary x.first)) 1 (as_summary x.second); n = 2 }

-- What the search for a pair leaves.
pub record Made (q : Query) (w : ℕ) (area room : List ℕ) (g : Got) (area' room' : List ℕ) : Type 0 where
  pub routes : List (List ℕ)
  pub answers : Answers q.net q.s q.t routes
  pub told : g.told ≡ told_for (least_total q.net q.s q.t)
  pub area-is : area' ≡ area_with w 2 area routes
  pub room-is : room' ≡ replicate (length room) 0
  pub two : g.n ≡ 2
  pub sums : firsts g.sums 2 ≡ summaries_for q routes
