-- The lowest faulty record of the ordered table, found in file order. F is the fault of an arc by itself, 0 for none.
--   picked      == of the faulty arcs, the first in the file among those of the lowest start node; one pass
--   rank        == how many arcs stand before the picked one after ordering; a second pass
--   first_fault  == the number of the first faulty arc of a list, or the list's length where there is none
use Rattle.std.specs.Prelude.{cond, not, ◌||◌, List, [], ◌∷◌, ℕ, ◌+◌, ltb, eqb, length}
use Rattle.lists.specs.Tests.{lex}
use Rattle.lists.specs.Index.{first_at}
use Rattle.net.specs.Net.{Arc, arc}

-- A faulty arc: its fault, its start node, and its place in the file. Fault 0: none yet.
pub record Pick : Type 0 where
  pub fault : ℕ
  pub start : ℕ
  pub at : ℕ

abbrev pub no_pick : Pick
no_pick = record { fault = 0; start = 0; at = 0 }

-- Arc a, at place i.
abbrev pub pick_of : (Arc → ℕ) → ℕ → Arc → Pick
pick_of F i a = record { fault = F a; start = a.from; at = i }

-- The pick after arc a, at place i, where it was p.
unfoldable pub better : (Arc → ℕ) → ℕ → Pick → Arc → Pick
better F i p a = cond (eqb (F a) 0) p (cond (eqb p.fault 0 || ltb a.from p.start) (pick_of F i a) p)

-- The pick after these arcs, the first of them at place i.
unfoldable pub picked : (Arc → ℕ) → ℕ → Pick → List Arc → Pick
unfolding better
picked F i p [] = p
picked F i p (a ∷ arcs) = picked F (i + 1) (better F i p a) arcs

-- Of these arcs, the first of them at place i, how many stand before p after ordering.
unfoldable pub rank_from : ℕ → Pick → List Arc → ℕ
unfolding lex
rank_from i p [] = 0
rank_from i p (a ∷ arcs) = cond (lex a.from p.start (ltb i p.at)) 1 0 + rank_from (i + 1) p arcs

unfoldable pub rank : Pick → List Arc → ℕ
unfolding rank_from
rank p arcs = rank_from 0 p arcs

unfoldable pub first_fault : (Arc → ℕ) → List Arc → ℕ
unfolding first_at
first_fault F xs = first_at (λ i. not (eqb (F (arc xs i)) 0)) (length xs) 0
