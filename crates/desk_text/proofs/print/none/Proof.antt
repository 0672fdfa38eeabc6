-- Each call puts a text where the one before it ended, and the newline is one byte: together one text, by `appended-more`, and that is the line, by
-- `none-parts`. The word has five bytes and the number at most 20, so each has its room.
use Prim.Native.Nat.{◌≤◌}
use native.Mathlib.Omega.{arith}
use lib.ListN.{length, length-set}
use Rattle.numerals.specs.Decimal.{decimal}
use Rattle.numerals.proofs.DecimalLaws.{decimal-length}
use Rattle.text_put.specs.Put.{newline}
use Rattle.desk_text.specs.Desk.{none_word}
use Rattle.text_put.proofs.AppendLaws.{appended-by, appended_one, appended-more}
use Rattle.desk_text.proofs.TextLaws.{none-parts}
use Rattle.desk_text.proofs.print.none.Statement.{statement}
use Rattle.desk_text.proofs.print.none.Tie as tie

-- the places of the calls, each from the one after it
abbrev start : tie.After-bytes-first → tie.Start
start b = b.before.before.before.before.before

abbrev word : tie.After-write-last → tie.After-bytes-first
word w = w.before.before.before.before

slice-write-out : tie.Need-bounds-out-last
slice-write-out c =
    let w = c.before.before in
    omega (arith, w.write-last.ensures.0, (word w).bytes-first.ensures.place, decimal-length (start (word w)).args.labels)

returns : tie.Need-returns
returns c =
    let w = c.before.before in
    let b = word w in
    let s = start b in
    let l = s.args.out.now in
    let at = s.args.at in
    let h : at ≤ length l = omega arith in
    let i = appended-more l at none_word _ _ (decimal s.args.labels) _ _ b.bytes-first.ensures (appended-by _ _ _ _ _ w.write-last.ensures) h in
    rw (← none-parts s.args.labels) (appended-more l at _ _ _ _ _ _ i (appended_one _ _ newline (slice-write-out c)) h)

pub none_spec : {M : Type 1} → statement M
none_spec =
    tie.close
    (tie.spec
    (λ c κs. omega arith)
    (λ c κs. omega (arith, c.bytes-first.ensures.place))
    slice-write-out
    (λ c. omega (arith, slice-write-out c))
    (λ c. simp length-set (omega arith))
    returns)
