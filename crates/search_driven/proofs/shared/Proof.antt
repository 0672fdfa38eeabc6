-- Where the route drives the arc's road the arc adds its length, which the table has, and else nothing.
use mathlib.Core.Path.{sym, ◌∙◌}
use Prim.Native.Nat.{◌≤◌}
use borrow.Author.Rules.{rules}
use Rattle.net.specs.Limits.{most_arcs}
use Rattle.table.specs.Table.{records}
use Rattle.table.proofs.FaultLaws.{good-size}
use Rattle.search_driven.proofs.DrivenLaws.{shared-some, shared-none}
use Rattle.search_driven.proofs.shared.Statement.{statement}
use Rattle.search_driven.proofs.shared.Tie as tie

few : (c : tie.Start) → records c.args.table.now ≤ most_arcs
few c = (good-size _ _ c.requires.0.no-fault).3

returns : tie.Need-returns-then-drives
returns c =
    let k = c in
    let s = k.before.before.before.before.before in
    c.length_of.ensures
    ∙ sym (shared-some s.args.ask.nodes s.args.table.now s.args.slot.now s.args.arc (few s) s.requires.1 (sym k.drives.ensures ∙ c.if-drives.true))

returns-2 : tie.Need-returns
returns-2 c =
    let k = c in
    let s = k.before.before.before.before in
    sym (shared-none s.args.ask.nodes s.args.table.now s.args.slot.now s.args.arc (few s) s.requires.1 (sym k.drives.ensures ∙ c.if-drives.false))

pub shared_spec : {M : Type 1} → statement M
shared_spec =
    tie.close
    (tie.spec (λ c κs. search rules) (λ c κs. search rules) (λ c. search rules) returns returns-2)
