-- Where the second of the two blocks has no node below n there is nothing to do (`level-past`). Else the first of the block next to x's own, and the first of its own:
-- the one of them that is chosen is stored where the second begins (`level-up`).
use Prim.Native.Nat.{◌<◌}
use native.Mathlib.Omega.{arith}
use borrow.Author.Rules.{rules}
use Rattle.node_queue.proofs.WinnerLaws.{chosen-used, room_at}
use Rattle.node_queue.proofs.ClimbLaws.{mid, winner-used, climbs-under, climbs-mid, climbs-next, climbs-block, climbs-used, level-past, level-up}
use Rattle.node_queue.proofs.winner.level.Statement.{statement}
use Rattle.node_queue.proofs.winner.level.Tie as tie

returns : tie.Need-returns-then-n-mid
returns c =
    let s = c.before.before in
    level-past _ s.requires.3 s.requires.1 c.if-n-mid.true

below : (e : tie.Else-n-mid) → let s = e.before.before in mid s.args.j s.args.half < s.args.n
below e = omega (arith, e.if-n-mid.false)

first-in-requires : tie.Need-first_in-v-requires
first-in-requires c κs =
    let s = c.before.before in
    (s.requires.0, climbs-under _ s.requires.3, climbs-used _ s.requires.3 (below c), s.requires.2, climbs-block _ s.requires.3)

choose-requires : tie.Need-choose-u-requires
choose-requires c κs =
    let s = c.before.before.before in
    (room_at s.requires.0 _ (winner-used _ s.requires.3), room_at s.requires.0 _ c.first_in-v.ensures.used)

abbrev else1 : tie.After-choose-u → tie.Else-n-mid
else1 c = c.before.before

-- what was chosen is one of the nodes
used : (c : tie.After-choose-u) → c.choose-u.result < (else1 c).before.before.args.n
used c =
    chosen-used _ _ _ _ _ c.choose-u.ensures (winner-used _ (else1 c).before.before.requires.3) c.before.first_in-v.ensures.used

returns-2 : tie.Need-returns
returns-2 c =
    let p = c.before.before in
    let d = p.before.before in
    let s = (else1 d).before.before in
    level-up _ s.requires.3 s.requires.0 (below (else1 d)) _ _ d.choose-u.ensures (used d) _ d.before.first_in-v.ensures p.put_word.ensures

pub level_spec : {M : Type 1} → statement M
level_spec =
    tie.close
    (tie.spec
    (λ c. search rules)
    (λ c. search rules)
    (λ c. let s = c.before in omega (arith, (climbs-mid _ s.requires.3).1, s.requires.1, s.requires.2, s.requires.0.few))
    returns
    (λ c. let s = c.before.before in omega (arith, (climbs-next _ s.requires.3).0, s.requires.1, s.requires.0.few))
    (λ c. search rules)
    (λ c. search rules)
    (λ c. let s = c.before.before in omega (arith, (climbs-next _ s.requires.3).1, s.requires.1, s.requires.2, s.requires.0.few))
    first-in-requires
    choose-requires
    (λ c. omega (arith, used c.before, (else1 c.before).before.before.requires.0.few))
    (λ c κs. let e = else1 c.before in (room_at e.before.before.requires.0 _ (below e), omega arith))
    (λ c. search rules)
    returns-2)
