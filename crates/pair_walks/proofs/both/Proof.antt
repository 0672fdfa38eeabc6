-- Slot 0 and then slot 1: both stand behind one another.
use mathlib.Core.Path.{ap₂}
use Prim.Native.Nat.{ℕ, ◌-◌, ◌≤◌}
use native.Mathlib.Omega.{arith}
use borrow.Author.Rules.{rules}
use lib.ListN.{length}
use Rattle.table.specs.Table.{arcs_of}
use Rattle.pair_walks.specs.Way.{next_in, way_in}
use Rattle.pair_walks.proofs.FollowLaws.{follow-short, two-slots}
use Rattle.pair_walks.proofs.both.Statement.{statement}
use Rattle.pair_walks.proofs.both.Tie as tie

abbrev start : tie.After-put-first → tie.Start
start c = c.before.before.before.before.before

-- a walk fits a slot
short : (s : tie.Start) (own other : ℕ) → length (way_in s.args.table.now s.args.nodes s.args.s s.args.goal s.args.room.now own other) ≤ s.args.nodes - 1
unfolding way_in
short s own other =
    follow-short (arcs_of s.args.table.now) (next_in own other s.args.nodes s.args.room.now) s.args.goal (s.args.nodes - 1) s.args.s

put-requires : tie.Need-put-first-requires
put-requires c κs = let s = c in (s.requires.0, omega arith, omega (arith, s.requires.2))

put-requires-2 : tie.Need-put-second-requires
put-requires-2 c κs =
    let f = c.before.before.before in
    let s = start f in
    (s.requires.1, omega arith, omega (arith, s.requires.2, f.put-first.auto.area))

returns : tie.Need-returns
returns c =
    let g = c in
    let f = g.before.before.before.before.before.before in
    let s = start f in
    record {
      area-is = two-slots (s.args.nodes - 1) _ _ s.args.area.now _ _ (short s s.args.own s.args.other) s.requires.2 f.put-first.ensures.0 g.put-second.ensures.0;
      ways = ap₂ (λ x y. record { first = x; second = y }) f.put-first.ensures.1 g.put-second.ensures.1;
      p-fits = short s s.args.own s.args.other;
      q-fits = short s s.args.other s.args.own;
    }

pub both_spec : {M : Type 1} → statement M
both_spec = tie.close (tie.spec put-requires put-requires-2 (λ c. search rules) returns)
