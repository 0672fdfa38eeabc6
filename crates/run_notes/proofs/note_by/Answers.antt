-- A note more leaves those of the nodes before (`note-more`).
use Rattle.std.proofs.Common.{◌+◌, ◌*◌, ◌≤◌, ◌<◌, length, arith, sym, subst, ap, ◌∙◌}
use Rattle.working_room.specs.Field.{room_bytes, put_word, Within}
use Rattle.working_room.proofs.RoomLaws.{within_same, within-trans, within_word}
use Rattle.run_notes.specs.Noted.{start_by}
use Rattle.run_notes.proofs.NotedLaws.{start-begin, start-le, note-more}
use Rattle.run_notes.proofs.note_by.Goals as goal

pub loop-v-init : goal.loop-v-init
loop-v-init g c = record {
  at = sym (start-begin g.O.Order.node_at c.args.table.now);
  within = within_same g.O.Order.NOTE 4 c.args.room.now;
  noted = λ v h. absurd (omega arith);
}

pub overflow_cast-first : goal.overflow_cast-first
overflow_cast-first g c =
    omega (arith, c.requires.0, c.loop-v.invariant.at, start-le g.O.Order.node_at c.args.table.now c.loop-v.v)

pub loop-v-preserved : goal.loop-v-preserved
loop-v-preserved g c =
    let l = c.loop-v in
    let o = g.O.Order.NOTE in
    let inside = g.met.O.Order.inside in
    let room : l.v * room_bytes + room_bytes ≤ length l.room = omega (arith, c.requires.1.enough, l.invariant.within.long) in
    let few : l.first < 4294967296 = omega (arith, c.requires.0, l.invariant.at, start-le g.O.Order.node_at c.args.table.now l.v) in
    let stored = c.put_word.ensures ∙ ap (λ x. put_word x l.room l.v l.first) c.NOTE.ensures in
    record {
      at = c.end_by-first.ensures;
      within = within-trans l.invariant.within (subst (Within o 4 l.room) (sym stored) (within_word o l.room l.v l.first inside));
      noted = note-more o inside (start_by g.O.Order.node_at c.args.table.now) l.room l.v l.first room few l.invariant.at l.invariant.noted _ stored;
    }
