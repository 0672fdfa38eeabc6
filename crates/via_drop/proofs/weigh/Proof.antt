-- A node without a candidate stays as it is. Else the overlaps of the two ways are taken, which leaves the queue (`queue-kept`) and the ways; by their sum the node keeps
-- its key (`judged-within`) or has none (`judged-dropped`).
use mathlib.Core.Path.{◌≡◌, sym, ◌∙◌}
use mathlib.Core.Bool.{true, false}
use Prim.Native.Nat.{◌<◌}
use native.Mathlib.Omega.{arith}
use borrow.Author.Rules.{rules}
use Rattle.working_room.specs.Field.{Within}
use Rattle.working_room.proofs.RoomLaws.{within-trans}
use Rattle.search_ask.specs.Earlier.{route_in}
use Rattle.first_routes.specs.Firsts.{far}
use Rattle.via_chains.specs.Chains.{both_in}
use Rattle.via_chains.proofs.ChainsLaws.{both-beside}
use Rattle.via_drop.specs.Walks.{total_by, Dropping}
use Rattle.via_drop.proofs.BesideLaws.{numbers-beside, queue-kept, total-beside}
use Rattle.via_drop.proofs.WalkLaws.{dropping-keys}
use Rattle.via_drop.proofs.DropLaws.{both-less, judged-none, judged-within, judged-dropped}
use Rattle.via_drop.proofs.weigh.Statement.{statement}
use Rattle.via_drop.proofs.weigh.Tie as tie

abbrev start : tie.After-has_both → tie.Start
start c = c.before.before.before.before.before.before

returns : tie.Need-returns-then-not-has_both
returns c =
    let h = c.before in
    let s = start h in
    (s.requires.0, judged-none s.args.ask s.args.table.now (route_in s.args.slot.now) s.args.room.now s.args.v s.args.root s.requires.2 (sym h.has_both.ensures ∙ c.if-not-has_both.true))

both : (c : tie.Else-not-has_both) → let s = start c.before in both_in s.args.ask.nodes s.args.room.now s.args.v ≡ true
both c = sym c.has_both.ensures ∙ c.if-not-has_both.false

overlap-requires : tie.Need-overlap-to-requires
overlap-requires c κs =
    let e = c.before in
    let s = start e.before in
    (s.requires.0, s.requires.1, both-less s.args.ask.nodes s.args.room.now s.args.v (both e) false)

abbrev else : tie.After-overlap-to → tie.Else-not-has_both
else c = c.before.before

-- the second way after the first was taken
second : (c : tie.After-overlap-to)
    → let s = start (else c).before in
    (Dropping s.args.ask s.args.table.now s.args.slot.now s.args.marks.now c.overlap-to.new.room)
    × (both_in s.args.ask.nodes c.overlap-to.new.room s.args.v ≡ true)
second c =
    let e = else c in
    let s = start e.before in
    (c.overlap-to.ensures.1, both-beside s.args.ask.nodes s.args.room.now c.overlap-to.new.room (numbers-beside c.overlap-to.ensures.0).field s.args.v ∙ both e)

overlap-requires-2 : tie.Need-overlap-on-requires
overlap-requires-2 c κs =
    let o = c.before.before.before in
    let s = start (else o).before in
    ((second o).0, s.requires.1, both-less s.args.ask.nodes o.overlap-to.new.room s.args.v (second o).1 true)

abbrev first : tie.After-overlap-on → tie.After-overlap-to
first c = c.before.before.before.before

whole : (c : tie.After-overlap-on) → let s = start (else (first c)).before in Within 40 16 s.args.room.now c.overlap-on.new.room
whole c = within-trans (first c).overlap-to.ensures.0 c.overlap-on.ensures.0

on-is : (c : tie.After-overlap-on)
    → let s = start (else (first c)).before in
    c.overlap-on.result ≡ total_by true s.args.ask s.args.table.now (route_in s.args.slot.now) s.args.room.now s.args.v
on-is c =
    let o = first c in
    let s = start (else o).before in
    c.overlap-on.ensures.2 ∙ total-beside (numbers-beside o.overlap-to.ensures.0) true s.args.ask s.args.table.now (route_in s.args.slot.now) s.args.v

small : (c : tie.After-overlap-on) → ((first c).overlap-to.result < far) × (c.overlap-on.result < far)
small c =
    let o = first c in
    let s = start (else o).before in
    let led = s.requires.0.led in
    let less = both-less s.args.ask.nodes s.args.room.now s.args.v (both (else o)) in
    (omega (arith, o.overlap-to.ensures.2, led.small false s.args.v s.requires.1 (less false)), omega (arith, on-is c, led.small true s.args.v s.requires.1 (less true)))

add-is-within : tie.Need-overflow_add-to
add-is-within c = omega (arith, (small c.before.before).0, (small c.before.before).1)

is-within-requires : tie.Need-is_within-requires
is-within-requires c κs =
    let o = c.before.before in
    let k = (start (else (first o)).before).requires.0.accepted in
    (k.a-below, k.b-most, omega (arith, (small o).0, (small o).1))

returns-2 : tie.Need-returns-then-is_within
returns-2 c =
    let w = c in
    let p = w.before.before.before.before in
    let o = first p in
    let s = start (else o).before in (
      p.overlap-on.ensures.1,
      judged-within s.args.ask s.args.table.now (route_in s.args.slot.now) s.args.room.now s.args.v s.args.root s.requires.2 o.overlap-to.result p.overlap-on.result s.args.len
          (both (else o)) o.overlap-to.ensures.2 (on-is p) s.requires.3 (whole p) (sym w.is_within.ensures ∙ c.if-is_within.true),
    )

set-key-requires : tie.Need-set_key-requires
set-key-requires c κs =
    let p = c.before.before.before.before.before in
    let s = start (else (first p)).before in
    (p.overlap-on.ensures.1.led.roomy, s.requires.1, (queue-kept (whole p) s.requires.2).tree)

returns-3 : tie.Need-returns
returns-3 c =
    let k = c in
    let e = k in
    let w = e in
    let p = w.before.before.before.before.before.before.before.before in
    let o = first p in
    let s = start (else o).before in (
      dropping-keys p.overlap-on.ensures.1 k.set_key.ensures.within,
      judged-dropped s.args.ask s.args.table.now (route_in s.args.slot.now) s.args.room.now s.args.v s.args.root s.requires.2 o.overlap-to.result p.overlap-on.result s.args.len
          (both (else o)) o.overlap-to.ensures.2 (on-is p) s.requires.3 (whole p) (sym w.is_within.ensures ∙ e.if-is_within.false) k.set_key.ensures,
    )

pub weigh_spec : {M : Type 1} → statement M
weigh_spec =
    tie.close
    (tie.spec
    (λ c. search rules)
    (λ c κs. let s = c in (s.requires.0.led.roomy, s.requires.1))
    (λ c. search rules)
    returns
    overlap-requires
    overlap-requires-2
    add-is-within
    is-within-requires
    (λ c. omega (arith, (whole c.before.before.before.before).long))
    returns-2
    set-key-requires
    (λ c. omega (arith, (returns-3 c).1.beside.long))
    returns-3)
