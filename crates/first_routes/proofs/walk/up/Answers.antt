-- The test is the definition's.
use Rattle.std.proofs.Common.{◌+◌, Some, Option, sym, ap, ◌∙◌}
use Rattle.first_routes.specs.declared.walk.At.{At}
use Rattle.first_routes.proofs.WalkLaws.{up-over, up-back}
use Rattle.first_routes.proofs.walk.up.Goals as goal

pub returns-then-v-s : goal.returns-then-v-s
returns-then-v-s c = sym (up-over c.args.table.now c.args.s c.args.room.now c.args.at c.if-v-s.true)

pub returns : goal.returns
returns c =
    ap {B = Option At} (λ f. Some (record { v = f; arc = c.word-last.result + 1; many = c.args.at.many })) c.from_of.ensures
    ∙ sym (up-back c.args.table.now c.args.s c.args.room.now c.args.at c.word-last.result c.if-v-s.false (sym c.word-last.ensures))
