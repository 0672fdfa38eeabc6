-- The overlaps are set in order: the first j are those of the candidate's chain with the first j earlier answers.
use Rattle.std.proofs.Common.{◌≡◌, ℕ, List, [], ◌∷◌, ◌++◌, length, take}
use Rattle.labels.specs.Chain.{chain_at}
use Rattle.labels.specs.Rows.{overlaps_of}
use Rattle.search_ask.specs.declared.Ask.{Ask}
use Rattle.search_ask.specs.Ask.{net_for, width}
use Rattle.search_ask.specs.Earlier.{earlier_in}
use Rattle.search_trial.proofs.overlap.of_candidate.Given as goal

abbrev pub sums : List ℕ → Ask → List ℕ → List ℕ → ℕ → ℕ → ℕ → List ℕ
sums table ask area labels r label arc = overlaps_of (net_for ask table []) (earlier_in (width ask) r area) (chain_at labels label ++ (arc ∷ []))

abbrev pub invariant-loop-j : goal.invariant-loop-j
invariant-loop-j l =
    record { long : length l.own ≡ length l.initial.own; so_far : take l.j l.own ≡ take l.j (sums l.table l.ask l.area l.labels l.r l.label l.arc) }
