-- A node more is unset by a store (`unset-more`).
use Rattle.std.proofs.Common.{◌≡◌, ℕ, ◌+◌, ◌*◌, ◌≤◌, ◌<◌, length, arith, sym, subst}
use Rattle.working_room.specs.Field.{room_bytes, Within}
use Rattle.working_room.proofs.RoomLaws.{within_same}
use Rattle.first_routes.specs.Firsts.{none, rank_in}
use Rattle.first_routes.proofs.EnterLaws.{unset-more}
use Rattle.first_routes.proofs.walk.unset.Goals as goal

pub loop-v-init : goal.loop-v-init
loop-v-init c = record { within = within_same 24 4 c.args.room.now; unset = λ w h. absurd (omega arith) }

pub loop-v-preserved : goal.loop-v-preserved
loop-v-preserved c =
    let l = c.loop-v in
    let room : l.v * room_bytes + room_bytes ≤ length l.room = omega (arith, l.invariant.within.long, c.requires.enough) in
    let w = unset-more c.args.room.now l.room l.v room l.invariant.within l.invariant.unset in
    record {
      within = subst (Within 24 4 c.args.room.now) (sym c.put_word.ensures) w.0;
      unset = subst (λ m. (v : ℕ) → v < l.v + 1 → rank_in m v ≡ none) (sym c.put_word.ensures) w.1;
    }

pub returns : goal.returns
returns c = (c.loop-v.invariant.within, λ v h. c.loop-v.invariant.unset v (omega arith))
