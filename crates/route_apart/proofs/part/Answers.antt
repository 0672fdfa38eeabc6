-- The mark at the node that the arc leaves tells whether the arc is marked.
use Rattle.std.proofs.Common.{sym, ap, ◌∙◌, arith}
use Rattle.working_room.specs.Field.{word_at}
use Rattle.remaining.proofs.StandingLaws.{from_in}
use Rattle.route_apart.specs.Marks.{mark_field}
use Rattle.route_apart.proofs.MarkLaws.{part-marked, part_none}
use Rattle.route_apart.proofs.part.Goals as goal

pub word-requires : goal.word-requires
word-requires c =
    (omega (arith, c.from_of-v.ensures, from_in c.args.nodes c.args.table.now c.args.a c.args.room.now c.requires.0 c.requires.2 c.requires.1), omega arith)

pub returns-then-word-a : goal.returns-then-word-a
returns-then-word-a c =
    c.length_of.ensures
    ∙ sym (part-marked c.args.table.now c.args.room.now c.args.a (sym (ap (word_at mark_field c.args.room.now) c.from_of-v.ensures) ∙ sym c.word.ensures ∙ c.if-word-a.true))

pub returns-else-word-a : goal.returns-else-word-a
returns-else-word-a c =
    sym (part_none c.args.table.now c.args.room.now c.args.a (λ z. c.if-word-a.false (c.word.ensures ∙ ap (word_at mark_field c.args.room.now) c.from_of-v.ensures ∙ z)))
