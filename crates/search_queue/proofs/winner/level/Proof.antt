-- Where label i stands in the second block the other is before it, and the winner is stored where its own begins (`level-right`); where it stands in the first, the
-- other is after it, and has no label below n (`level-past`) or is the one whose beginning gets the winner (`level-left`).
use Prim.Native.Nat.{◌*◌, ◌≤◌, ◌<◌}
use native.Mathlib.Omega.{arith}
use borrow.Author.Rules.{rules}
use Rattle.search_queue.proofs.ClimbLaws.{chosen-used, from_low, winner-used, odd-before, block-before, block-after, level-right, level-left, level-past}
use Rattle.search_queue.proofs.winner.level.Statement.{statement}
use Rattle.search_queue.proofs.winner.level.Tie as tie

low : (s : tie.Start) → s.args.j * s.args.half ≤ s.args.i
low s = from_low _ s.requires.4

sub-first-of : tie.Need-overflow_sub-from
sub-first-of c = odd-before _ c.before.before.requires.4 c.if-j-eq1.true

first-of-requires : tie.Need-first_of-v-requires
first-of-requires c κs =
    let s = c.before.before in
    (s.requires.0, s.requires.1, s.requires.2, s.requires.3, s.requires.4, block-before _ s.requires.4 c.if-j-eq1.true, omega (arith, low s, sub-first-of c))

abbrev start : tie.After-choose-u → tie.Start
start c = c.before.before.before.before

-- what was chosen is one of the labels
used : (c : tie.After-choose-u) → c.choose-u.result < (start c).args.n
used c = chosen-used _ _ _ _ _ c.choose-u.ensures (winner-used _ (start c).requires.4) c.before.first_of-v.ensures.used

returns : tie.Need-returns-then-j-eq1
returns c =
    let d = c.before.before.before.before in
    let s = start d in
    level-right _ s.requires.4 s.requires.0.down.room s.requires.1 s.requires.2 _ _ d.choose-u.ensures (used d) _
    d.before.before.if-j-eq1.true d.before.first_of-v.ensures c.before.before.put_winner.ensures

returns-2 : tie.Need-returns-then-n-mid
returns-2 c = level-past _ c.before.before.before.requires.4 c.before.if-j-eq1.false c.if-n-mid.true

first-of-requires-2 : tie.Need-first_of-v-requires-2
first-of-requires-2 c κs =
    let s = c.before.before.before in
    (s.requires.0, s.requires.1, s.requires.2, s.requires.3, s.requires.4, block-after _ s.requires.4, omega arith)

abbrev start-2 : tie.After-choose-u-2 → tie.Start
start-2 c = c.before.before.before.before.before

used-2 : (c : tie.After-choose-u-2) → c.choose-u-2.result < (start-2 c).args.n
used-2 c = chosen-used _ _ _ _ _ c.choose-u-2.ensures (winner-used _ (start-2 c).requires.4) c.before.first_of-v-2.ensures.used

returns-3 : tie.Need-returns
returns-3 c =
    let d = c.before.before.before.before in
    let s = start-2 d in
    level-left _ s.requires.4 s.requires.0.down.room s.requires.1 s.requires.2 _ _ d.choose-u-2.ensures (used-2 d) _
    d.before.before.before.if-j-eq1.false (omega arith) d.before.first_of-v-2.ensures c.before.before.put_winner-2.ensures

pub level_spec : {M : Type 1} → statement M
level_spec =
    tie.close
    (tie.spec
    (λ c. omega (arith, low c.before))
    sub-first-of
    first-of-requires
    (λ c κs. search rules)
    (λ c. omega (arith, used c.before, (start c.before).requires.1))
    (λ c κs. let s = start c.before in omega (arith, low s, s.requires.0.down.room))
    (λ c. search rules)
    returns
    (λ c. omega (arith, low c.before.before))
    returns-2
    first-of-requires-2
    (λ c κs. search rules)
    (λ c. omega (arith, used-2 c.before, (start-2 c.before).requires.1))
    (λ c κs. search rules)
    (λ c. search rules)
    returns-3)
