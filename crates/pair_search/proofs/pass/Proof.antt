-- A closed arc and u's mark are passed by; any other arc is looked at, at its detour.
use mathlib.Core.Path.{◌≡◌, refl, sym, ap, subst, ◌∙◌}
use mathlib.Core.Bool.{true}
use mathlib.Core.Logic.{inl, inr}
use Prim.Native.Nat.{◌+◌, ◌-◌, ◌<◌}
use native.Mathlib.Omega.{arith}
use borrow.Author.Rules.{rules}
use Rattle.table.specs.Table.{to_at, len_at, is_open_at}
use Rattle.table.proofs.FaultLaws.{all-good, good-size}
use Rattle.working_room.specs.Field.{long_at}
use Rattle.reach.specs.Stand.{Stands}
use Rattle.reach.proofs.StandLaws.{record-in}
use Rattle.pair_room.proofs.RoomLaws.{again-stands}
use Rattle.pair_search.proofs.TurnLaws.{looked-is}
use Rattle.pair_search.proofs.pass.Statement.{statement}
use Rattle.pair_search.proofs.pass.Tie as tie

abbrev tested : tie.After-word → tie.After-is_open
tested k = k.before.before

abbrev begun : tie.After-is_open → tie.Start
begun k = k.before.before.before.before

abbrev start : tie.After-to_of-w → tie.Start
start k = begun (tested k.before.before)

returns : tie.Need-returns-then-not-is_open
returns c = inl (inl (sym c.is_open.ensures ∙ c.if-not-is_open.true), refl, refl)

returns-2 : tie.Need-returns-then-word-a
returns-2 c = inl (inr (sym c.word.ensures ∙ c.if-word-a.true), refl, refl)

-- the arc is open, and its end is a node
usable : (k : tie.After-word) → is_open_at (begun (tested k)).args.closed.now (begun (tested k)).args.a ≡ true
usable k = let e = k in sym e.is_open.ensures ∙ e.if-not-is_open.false

end-in : (k : tie.After-to_of-w) → k.to_of-w.result < (start k).args.nodes
end-in k = let s = start k in omega (arith, k.to_of-w.ensures, (all-good s.args.nodes s.args.table.now s.requires.0 s.args.a s.requires.3).end)

long-requires-2 : tie.Need-long-requires-2
long-requires-2 c κs =
    let k = c.before.before in
    let s = start k in
    (record-in s.args.nodes s.args.room.now k.to_of-w.result s.requires.1.roomy (end-in k), omega arith)

sub-detour : tie.Need-overflow_sub-detour
sub-detour c =
    let f = c in
    let g = f in
    let k = g.before.before.before in
    let s = start k in
    omega (arith, s.requires.6 (usable k.before.before), c.long-2.ensures, f.long.ensures, g.length_of-len.ensures, ap (long_at 12 s.args.room.now) k.to_of-w.ensures)

look-requires : tie.Need-look-requires
look-requires c κs =
    let k = c.before.before.before.before.before in
    let s = start k in
    (subst Stands (sym c.again.ensures) again-stands, s.requires.1, end-in k, omega (arith, s.requires.3, (good-size s.args.nodes s.args.table.now s.requires.0).3))

returns-3 : tie.Need-returns
returns-3 c =
    let o = c in
    let h = o in
    let f = h in
    let g = f in
    let k = g.before.before.before.before.before.before.before.before in
    let s = start k in
    let l = s.args.room.now in
    inr (
      usable k.before.before,
      (λ z. k.if-word-a.false (k.word.ensures ∙ z)),
      looked-is s.args.nodes l s.args.root s.args.a o.look.new.room o.look.result o.again.result o.again.ensures k.to_of-w.result
          (to_at s.args.table.now s.args.a) k.to_of-w.ensures (s.args.d + (g.length_of-len.result + f.long.result - h.long-2.result))
          (s.args.d + (len_at s.args.table.now s.args.a + long_at 12 l s.args.u - long_at 12 l (to_at s.args.table.now s.args.a)))
          (omega (arith, g.length_of-len.ensures, f.long.ensures, h.long-2.ensures, ap (long_at 12 l) k.to_of-w.ensures)) o.look.ensures,
    )

pub pass_spec : {M : Type 1} → statement M
pass_spec =
    tie.close
    (tie.spec
    (λ c κs. search rules)
    returns
    (λ c κs. search rules)
    (λ c. search rules)
    (λ c. search rules)
    returns-2
    (λ c κs. search rules)
    (λ c. search rules)
    (λ c κs. search rules)
    (λ c. search rules)
    (λ c κs. search rules)
    (λ c. search rules)
    long-requires-2
    sub-detour
    (λ c κs. search rules)
    (λ c. search rules)
    look-requires
    (λ c. search rules)
    returns-3)
