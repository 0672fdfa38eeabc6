-- What was read is the whole buffer or its first part, and what is due for that is due.
use native.Mathlib.Omega.{arith}
use borrow.Author.Rules.{rules}
use mathlib.Core.Path.{◌≡◌, sym, ap}
use lib.ListN.{length, length-take}
use lib.Seq.{take_all}
use Rattle.desk_text.proofs.FinishLaws.{appended-as}
use Rattle.desk_old.specs.Turned.{turned_text}
use Rattle.desk_old.proofs.from_buffer.Statement.{statement}
use Rattle.desk_old.proofs.from_buffer.Tie as tie

part : tie.Need-slice_bounds-turned-end
part c =
    let s = c in
    let z : length s.args.text.now ≡ 262144 = search rules in
    omega (arith, length-take s.args.n s.args.text.now, z)

returns-2 : tie.Need-returns
returns-2 c =
    let s = c in
    let z : length s.args.text.now ≡ 262144 = search rules in
    appended-as _ _ _ _ _ (ap turned_text (sym (take_all s.args.n s.args.text.now (omega (arith, z, c.if-n-lt-MOST_READ.false))))) c.turned-2.ensures

pub from_buffer_spec : {M : Type 1} → statement M
from_buffer_spec = tie.close (tie.spec part (λ c κs. search rules) (λ c. search rules) (λ c κs. search rules) returns-2)
