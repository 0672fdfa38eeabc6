-- The loop goes on by the arcs picked and writes each behind those before it: what stands in the slot before k, and then what is yet to come from v, is the whole
-- walk. At the goal nothing is.
use mathlib.Core.Path.{◌≡◌, refl, sym, ap, ap₂, ◌∙◌}
use mathlib.Core.List.{List, [], ◌++◌}
use Prim.Native.Nat.{ℕ, ◌+◌, ◌-◌, ◌*◌, ◌≤◌, ◌<◌}
use native.Mathlib.Omega.{arith}
use native.Mathlib.Nat.{zero-add}
use borrow.Author.Rules.{rules}
use lib.ListN.{length, take, length-set}
use lib.Seq.{length-take-le}
use Rattle.net.specs.Limits.{most_nodes, most_length}
use Rattle.net.specs.Route.{length_of}
use Rattle.table.specs.Table.{records, to_at, arcs_of}
use Rattle.pair_walks.specs.Way.{following, Arrives, next_in, way_in}
use Rattle.pair_walks.proofs.FollowLaws.{follow-end, follow-short, follow-all, arrive-all, no_length, Step, step-arc, step-on, write-one, write-end, way-length}
use Rattle.pair_walks.proofs.follow.Statement.{statement}
use Rattle.pair_walks.proofs.follow.Tie as tie

abbrev invariant-loop-v : tie.invariant-loop-v
invariant-loop-v table nodes s goal room own other slot₀ v₀ k₀ len₀ slot v k len =
    (v < nodes) × (k ≤ nodes - 1) × (length slot ≡ length slot₀)
    × (take k slot ++ following (arcs_of table) (next_in own other nodes room) goal (nodes - 1 - k) v ≡ way_in table nodes s goal room own other)
    × (len + length_of (arcs_of table) (following (arcs_of table) (next_in own other nodes room) goal (nodes - 1 - k) v) ≡ length_of (arcs_of table) (way_in table nodes s goal room own other))
    × Arrives (arcs_of table) (next_in own other nodes room) goal (nodes - 1 - k) v

abbrev decreases-loop-v : tie.decreases-loop-v
decreases-loop-v table nodes s goal room own other slot₀ v₀ k₀ len₀ slot v k len = nodes - 1 - k

abbrev start : tie.At-loop-v invariant-loop-v decreases-loop-v → tie.Start invariant-loop-v decreases-loop-v
start a = a.before.before.before.before

abbrev at : tie.After-next-a invariant-loop-v decreases-loop-v → tie.At-loop-v invariant-loop-v decreases-loop-v
at c = c.before.before

abbrev way : tie.Start invariant-loop-v decreases-loop-v → List ℕ
way s = way_in s.args.table.now s.args.nodes s.args.s s.args.goal s.args.room.now s.args.own s.args.other

loop-holds : tie.Need-loop-v-init invariant-loop-v decreases-loop-v
unfolding way_in
loop-holds c =
    let s = c in
    let w = s.requires.0 in
    let arcs = arcs_of s.args.table.now in
    let next = next_in s.args.own s.args.other s.args.nodes s.args.room.now in
    let e = follow-all arcs next s.args.goal (s.args.nodes - 1) s.args.s in
    (w.s-below, omega arith, refl, e, ap (λ p. 0 + length_of arcs p) e ∙ zero-add _, arrive-all arcs next s.args.goal (s.args.nodes - 1) s.args.s w.arrives)

next-requires : tie.Need-next-a-requires invariant-loop-v decreases-loop-v
next-requires c κs =
    let a = c.before in
    let w = (start a).requires.0 in
    (omega (arith, w.roomy.enough, a.loop-v.invariant.0), w.own_in, w.other-in)

arc-in : (c : tie.After-next-a invariant-loop-v decreases-loop-v) → c.next-a.result < records (start (at c)).args.table.now
arc-in c =
    let a = at c in
    let s = start a in
    step-arc s.args.table.now s.args.nodes s.args.goal s.args.room.now s.args.own s.args.other s.requires.0.no-fault a.loop-v.k a.loop-v.v a.loop-v.invariant.0 c.loop-v-test.true a.loop-v.invariant.5
    c.next-a.result c.next-a.ensures

turn : (c : tie.After-next-a invariant-loop-v decreases-loop-v) (w : ℕ) → w ≡ to_at (start (at c)).args.table.now c.next-a.result
    → let s = start (at c) in Step s.args.table.now s.args.nodes s.args.goal s.args.room.now s.args.own s.args.other s.requires.0.no-fault (at c).loop-v.k (at c).loop-v.v c.next-a.result w
turn c w e =
    let a = at c in
    let s = start a in
    step-on s.args.table.now s.args.nodes s.args.goal s.args.room.now s.args.own s.args.other s.requires.0.no-fault a.loop-v.k a.loop-v.v a.loop-v.invariant.0 c.loop-v-test.true a.loop-v.invariant.5
    c.next-a.result c.next-a.ensures w e

room-left : (c : tie.After-next-a invariant-loop-v decreases-loop-v) → (at c).loop-v.k < length (at c).loop-v.slot
room-left c = let a = at c in omega (arith, (turn c _ refl).room, a.loop-v.invariant.2, (start a).requires.1)

-- the whole walk fits 64 bits
total : (s : tie.Start invariant-loop-v decreases-loop-v) → length_of (arcs_of s.args.table.now) (way s) ≤ most_nodes * most_length
unfolding way_in
total s =
    let w = s.requires.0 in
    way-length s.args.table.now s.args.nodes w.no-fault (way s) (follow-short (arcs_of s.args.table.now) (next_in s.args.own s.args.other s.args.nodes s.args.room.now) s.args.goal (s.args.nodes - 1) s.args.s)

add-len : tie.Need-overflow_add-len invariant-loop-v decreases-loop-v
add-len c =
    let n = c.before in
    let a = at n in
    omega (arith, (turn n _ refl).longer, a.loop-v.invariant.4, total (start a))

loop-again : tie.Need-loop-v-preserved invariant-loop-v decreases-loop-v
loop-again c =
    let l = c in
    let n = l.before.before in
    let a = at n in
    let s = start a in
    let t = turn n c.to_of-v.result c.to_of-v.ensures in (
      t.below,
      omega (arith, t.room),
      simp length-set a.loop-v.invariant.2,
      write-one _ _ n.next-a.result a.loop-v.slot a.loop-v.k t.joins (room-left n) ∙ a.loop-v.invariant.3,
      omega (arith, t.longer, a.loop-v.invariant.4),
      t.on,
    )

returns : tie.Need-returns invariant-loop-v decreases-loop-v
returns c =
    let a = c.before in
    let s = start a in
    let e = follow-end (arcs_of s.args.table.now) (next_in s.args.own s.args.other s.args.nodes s.args.room.now) s.args.goal (s.args.nodes - 1 - a.loop-v.k) a.loop-v.v c.loop-v-test.false in
    let w = write-end _ a.loop-v.slot (way s) a.loop-v.k e a.loop-v.invariant.3 in
    (a.loop-v.invariant.2, w, ap₂ (λ x y. record { arcs = x; length = y }) (long a w) (sum a e))
  where
    long : (a : tie.At-loop-v invariant-loop-v decreases-loop-v) → take a.loop-v.k a.loop-v.slot ≡ way (start a) → a.loop-v.k ≡ length (way (start a))
    long a w = sym (length-take-le a.loop-v.k a.loop-v.slot (omega (arith, a.loop-v.invariant.1, a.loop-v.invariant.2, (start a).requires.1))) ∙ ap length w

    sum : (a : tie.At-loop-v invariant-loop-v decreases-loop-v) → following (arcs_of (start a).args.table.now) (next_in (start a).args.own (start a).args.other (start a).args.nodes (start a).args.room.now) (start a).args.goal ((start a).args.nodes - 1 - a.loop-v.k) a.loop-v.v ≡ []
        → a.loop-v.len ≡ length_of (arcs_of (start a).args.table.now) (way (start a))
    sum a e = omega (arith, a.loop-v.invariant.4, no_length (arcs_of (start a).args.table.now) _ e)

pub follow_spec : {M : Type 1} → statement M
follow_spec =
    tie.close
    (tie.spec
    invariant-loop-v
    decreases-loop-v
    loop-holds
    (λ c. search rules)
    next-requires
    (λ c. omega (arith, room-left c, (start (at c)).well_formed.1.1.1.1.1.1.1.0.1))
    (λ c. room-left c)
    (λ c. omega (arith, room-left c, (start (at c)).well_formed.1.1.1.1.1.1.1.0.1))
    (λ c. search rules)
    (λ c κs. arc-in c)
    (λ c. search rules)
    add-len
    (λ c. search rules)
    (λ c κs. arc-in c.before)
    (λ c. omega (arith, (turn c.before.before _ refl).room))
    loop-again
    (λ c. omega (arith, c.loop-v.invariant.2))
    returns)
