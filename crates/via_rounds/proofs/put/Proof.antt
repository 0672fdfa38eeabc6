-- Slot r is lent, and comes back with the route in it.
use native.Mathlib.Omega.{arith}
use borrow.Author.Rules.{rules}
use Rattle.search_ask.specs.Ask.{net_for, width}
use Rattle.via_chains.specs.Chains.{joined_in}
use Rattle.query_rounds.proofs.SlotLaws.{slot_lent, slot-put}
use Rattle.via_rounds.proofs.put.Statement.{statement}
use Rattle.via_rounds.proofs.put.Tie as tie

write-requires : tie.Need-write-requires
write-requires c κs =
    let s = c in
    (s.requires.0, s.requires.1, s.requires.2, s.requires.3, omega (arith, s.requires.4, slot_lent (width s.args.ask) s.args.r s.args.area.now s.requires.5))

returns : tie.Need-returns
returns c =
    let u = c in
    let s = u in
    let p = joined_in (net_for s.args.ask s.args.table.now s.args.closed.now) s.args.ask.s s.args.ask.goal s.args.room.now s.args.v in
    (slot-put (width s.args.ask) s.args.r s.args.area.now s.requires.5 _ p u.write.ensures.0, u.write.ensures.1)

pub put_spec : {M : Type 1} → statement M
put_spec =
    tie.close
    (tie.spec
    (λ c. search rules)
    (λ c. search rules)
    (λ c. search rules)
    (λ c. search rules)
    (λ c. search rules)
    (λ c. search rules)
    (λ c. search rules)
    (λ c. search rules)
    write-requires
    (λ c. search rules)
    returns)
