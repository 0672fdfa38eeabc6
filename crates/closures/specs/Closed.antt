-- Roads closed for the day (02.3).
use Rattle.std.specs.Prelude.{Bool, not, ◌||◌, cond, List, ℕ, ltb, eqb, length, get_or}
use Rattle.lists.specs.Tests.{up_from, any}
use Rattle.table.specs.Table.{records, is_open_at}
use Rattle.table.specs.Run.{next_arc}

-- 15: "closure bytes of another number than the arcs or with another value"
unfoldable pub wrong : List ℕ → List ℕ → Bool
unfolding any up_from
wrong table closed = not (eqb (length closed) (records table)) || any (λ i. ltb 1 (get_or closed i 0)) (up_from 0 (length closed))

-- "the next arc from a place in a run then means the next open one"; at the run's end and past it, its end.
unfoldable pub next_open : List ℕ → ℕ → ℕ → ℕ
unfolding next_arc
next_open closed a e = cond (ltb a e) (next_arc (is_open_at closed) a e) e
