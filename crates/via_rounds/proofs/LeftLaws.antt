-- What is left in the queue once a route was kept, and its summary.
use mathlib.Core.Path.{◌≡◌, refl, sym, subst}
use mathlib.Core.Bool.{Bool, true, false}
use mathlib.Core.List.{List}
use Prim.Native.Nat.{ℕ, ◌+◌, ◌*◌, ◌≤◌, ◌<◌}
use native.Mathlib.Omega.{arith}
use lib.Dec.{eqb}
use lib.ListN.{length}
use borrow.Author.Tests.{ne_eqb}
use Rattle.net.specs.Round.{Query}
use Rattle.summary.specs.declared.Sums.{Sums}
use Rattle.summary.specs.Sums.{set_entry}
use Rattle.working_room.specs.Field.{room_bytes}
use Rattle.node_queue.specs.Queue.{Queue}
use Rattle.via_rounds.specs.Turn.{Left}

-- the first node's record lies within the room
pub record-in : {n v : ℕ} {l : List ℕ} → Queue n l v → v * room_bytes + room_bytes ≤ length l
record-in h = omega (arith, h.roomy.enough, h.root.used)

-- the queue is right, whether or not that was the last
pub left-queue : (q : Query) (last : Bool) (route room room' : List ℕ) (root root' : ℕ) → Left q last route room room' root root' → Queue q.net.nodes room root → Queue q.net.nodes room' root'
left-queue q true route room room' root root' l h =
    let e = l.at_last refl in
    subst (λ x. Queue q.net.nodes x root') (sym e.0) (subst (Queue q.net.nodes room) (sym e.1) h)
left-queue q false route room room' root root' l h = (l.before refl).queue

pub not_last : (r k : ℕ) → r + 1 < k → eqb (r + 1) k ≡ false
not_last r k h = ne_eqb (r + 1) k (λ e. omega arith)

pub sums_same : (t : Sums) (r l m l' m' : ℕ) → l ≡ l' → m ≡ m'
    → set_entry t r (record { length = l; arcs = m; labels = 0 }) ≡ set_entry t r (record { length = l'; arcs = m'; labels = 0 })
sums_same t r l m l' m' e i = cc
