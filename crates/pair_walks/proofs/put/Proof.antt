-- Slot r is lent, and comes back with the route in it.
use mathlib.Core.Path.{sym, ap, ◌∙◌}
use Prim.Native.Nat.{◌-◌}
use borrow.Author.Rules.{rules}
use Rattle.labels.specs.Chain.{slot_of}
use Rattle.query_rounds.proofs.SlotLaws.{slot_lent, slot-put}
use Rattle.pair_walks.specs.Way.{way_in}
use Rattle.pair_walks.proofs.put.Statement.{statement}
use Rattle.pair_walks.proofs.put.Tie as tie

walk-requires : tie.Need-walk-requires
walk-requires c κs =
    let s = c in
    (s.requires.0, slot_lent (s.args.nodes - 1) s.args.r s.args.area.now s.requires.2)

returns : tie.Need-returns
returns c =
    let u = c in
    let s = u in
    let p = way_in s.args.table.now s.args.nodes s.args.s s.args.goal s.args.room.now s.args.own s.args.other in
    let w = s.args.nodes - 1 in
    (slot-put w s.args.r s.args.area.now s.requires.2 _ p (u.walk.ensures.0 ∙ ap (λ n. slot_of n p) (sym (slot_lent w s.args.r s.args.area.now s.requires.2))), u.walk.ensures.1)

pub put_spec : {M : Type 1} → statement M
put_spec =
    tie.close
    (tie.spec
    (λ c. search rules)
    (λ c. search rules)
    (λ c. search rules)
    (λ c. search rules)
    (λ c. search rules)
    (λ c. search rules)
    (λ c. search rules)
    walk-requires
    (λ c. search rules)
    returns)
