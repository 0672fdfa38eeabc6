-- A closed arc and one to a visited node do not go on; else the limit decides. No sum is too large, since no distance is above `far`.
use mathlib.Core.Path.{◌≡◌, sym, ap, ◌∙◌}
use Prim.Native.Nat.{◌+◌, ◌*◌, ◌≤◌}
use native.Mathlib.Omega.{arith}
use native.Mathlib.Nat.{mul-le-mul}
use lib.Dec.{leb}
use borrow.Author.Rules.{rules}
use Rattle.table.specs.Table.{to_at, len_at}
use Rattle.table.proofs.FaultLaws.{all-good}
use Rattle.working_room.specs.Field.{long_at, word_at}
use Rattle.remaining.specs.Standing.{far, field}
use Rattle.remaining.proofs.StandingLaws.{to_in, go-below}
use Rattle.near_routes.specs.Deep.{seen_field}
use Rattle.near_routes.proofs.DeepLaws.{goes-closed, goes-seen, goes-open}
use Rattle.near_routes.proofs.step.goes.Statement.{statement}
use Rattle.near_routes.proofs.step.goes.Tie as tie

abbrev start : tie.After-is_closed → tie.Start
start c = c.before.before.before.before

abbrev entry : tie.After-to_of-u → tie.Start
entry c = start c.before.before

returns : tie.Need-returns-then-is_closed
returns c =
    let s = start c.before in
    sym (goes-closed s.args.table.now s.args.closed.now s.args.x s.args.room.now s.args.a s.args.size (sym c.is_closed.ensures ∙ c.if-is_closed.true))

word-requires : tie.Need-word-requires
word-requires c κs =
    let s = entry c in
    (omega (arith, c.to_of-u.ensures, to_in s.args.x.nodes s.args.table.now s.args.a s.args.room.now s.requires.0 s.requires.2 s.requires.1), omega arith)

returns-2 : tie.Need-returns-then-word-ne0
returns-2 c =
    let k = c in
    let o = k.before.before in
    let s = entry o in
    sym (goes-seen s.args.table.now s.args.closed.now s.args.x s.args.room.now s.args.a s.args.size
    (λ z. c.if-word-ne0.true (k.word.ensures ∙ ap (word_at seen_field s.args.room.now) o.to_of-u.ensures ∙ z)))

long-requires : tie.Need-long-requires
long-requires c κs =
    let o = c.before.before.before in
    let s = entry o in
    (omega (arith, o.to_of-u.ensures, to_in s.args.x.nodes s.args.table.now s.args.a s.args.room.now s.requires.0 s.requires.2 s.requires.1), omega arith)

-- the distance read is that of the arc's end, and none is above `far`
read : (c : tie.After-long) → let o = c.before.before.before.before in c.long.result ≡ long_at field (entry o).args.room.now (to_at (entry o).args.table.now (entry o).args.a)
read c = let o = c.before.before.before.before in c.long.ensures ∙ ap (long_at field (entry o).args.room.now) o.to_of-u.ensures

near : (c : tie.After-long) → c.long.result ≤ far
near c =
    let o = c.before.before.before.before in
    let s = entry o in
    let g = all-good s.args.x.nodes s.args.table.now s.requires.0 s.args.a s.requires.1 in
    omega (arith, read c, go-below s.args.x.nodes s.args.room.now (to_at s.args.table.now s.args.a) g.end, s.requires.5 (to_at s.args.table.now s.args.a))

add-whole : tie.Need-overflow_add-whole
add-whole c = let s = entry c.before.before.before.before in omega (arith, near c, s.requires.3)

mul-result : tie.Need-overflow_mul-result
mul-result c =
    let k = c.before in
    let e = k in
    let s = entry e.before.before.before.before in
    let whole : s.args.size + e.length_of.result + k.long.result ≤ 3000000000000 = omega (arith, near k, s.requires.3) in
    omega (arith, mul-le-mul whole s.requires.4)

returns-3 : tie.Need-returns
returns-3 c =
    let k = c.before.before in
    let e = k in
    let i = e in
    let w = i in
    let o = w.before.before.before.before in
    let s = entry o in
    let sum : s.args.size + e.length_of.result + k.long.result ≡ s.args.size + len_at s.args.table.now s.args.a + long_at field s.args.room.now (to_at s.args.table.now s.args.a) =
    omega (arith, read k, e.length_of.ensures) in
    ap (λ z. leb (z * s.args.x.d) s.args.x.most) sum
    ∙ sym (goes-open s.args.table.now s.args.closed.now s.args.x s.args.room.now s.args.a s.args.size (sym o.is_closed.ensures ∙ o.if-is_closed.false)
    (sym (ap (word_at seen_field s.args.room.now) o.to_of-u.ensures) ∙ sym w.word.ensures ∙ i.if-word-ne0.false))

pub goes_spec : {M : Type 1} → statement M
goes_spec =
    tie.close
    (tie.spec
    (λ c κs. search rules)
    returns
    (λ c κs. search rules)
    (λ c. search rules)
    word-requires
    returns-2
    (λ c κs. search rules)
    (λ c. search rules)
    (λ c. search rules)
    long-requires
    add-whole
    mul-result
    returns-3)
