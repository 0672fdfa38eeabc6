-- The part of the buffer from `at` on that is as long as s is lent, and comes back as s: the whole is then the buffer with s patched in.
use Rattle.std.proofs.Common.{refl, arith, ◌+◌, length}
use Rattle.words.proofs.PartLaws.{back}
use Rattle.text_put.proofs.AppendLaws.{appended-by}
use Rattle.text_put.proofs.bytes.Goals as goal

pub returns : goal.returns
returns c =
    let e = c.args.at + length c.args.s.now in
    appended-by _ _ _ _ _ (refl, cc (back c.args.at e c.args.out.now c.copy_from_slice.new.self (omega arith)))
