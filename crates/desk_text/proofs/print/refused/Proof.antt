-- Each call puts a text where the one before it ended, and the newline is one byte: together one text, by `appended-more`, and that is the line, by
-- `refused-parts`. It has at most 50 bytes, so each part has its room.
use Prim.Native.Nat.{◌≤◌}
use native.Mathlib.Omega.{arith}
use lib.ListN.{length, length-set}
use borrow.Author.Rules.{rules}
use Rattle.numerals.specs.Decimal.{decimal}
use Rattle.numerals.proofs.DecimalLaws.{decimal-length}
use Rattle.text_put.specs.Put.{newline}
use Rattle.desk_text.specs.Desk.{refused_word}
use Rattle.text_put.proofs.AppendLaws.{appended-by, appended_one, appended-more}
use Rattle.desk_text.proofs.TextLaws.{refused-parts, beside-length}
use Rattle.desk_text.proofs.print.refused.Statement.{statement}
use Rattle.desk_text.proofs.print.refused.Tie as tie

-- the places of the calls, each from the one after it
abbrev start : tie.After-bytes-first → tie.Start
start b = b.before.before.before.before.before

abbrev word : tie.After-write-second → tie.After-bytes-first
word w = w.before.before.before.before.before

abbrev told : tie.After-beside-last → tie.After-write-second
told n = n.before.before.before.before

outcome-most : (w : tie.After-write-second) → w.write-second.result ≤ 28
outcome-most w = omega (arith, w.write-second.ensures.0, (word w).bytes-first.ensures.place, decimal-length (start (word w)).args.told.outcome)

slice-write-out : tie.Need-bounds-out-last
slice-write-out c =
    let n = c.before.before in
    let s = start (word (told n)) in
    omega (arith, outcome-most (told n), n.beside-last.ensures.place, beside-length s.args.told.outcome s.args.told.number)

returns : tie.Need-returns
returns c =
    let n = c.before.before in
    let w = told n in
    let b = word w in
    let s = start b in
    let l = s.args.out.now in
    let h : 0 ≤ length l = omega arith in
    let i = appended-more l 0 refused_word _ _ (decimal s.args.told.outcome) _ _ b.bytes-first.ensures (appended-by _ _ _ _ _ w.write-second.ensures) h in
    let ii = appended-more l 0 _ _ _ _ _ _ i n.beside-last.ensures h in
    rw (← refused-parts s.args.told.outcome s.args.told.number) (appended-more l 0 _ _ _ _ _ _ ii (appended_one _ _ newline (slice-write-out c)) h)

pub refused_spec : {M : Type 1} → statement M
refused_spec =
    tie.close
    (tie.spec
    (λ c κs. omega arith)
    (λ c. search rules)
    (λ c κs. omega (arith, c.bytes-first.ensures.place))
    (λ c κs. omega (arith, outcome-most c.before.before.before))
    slice-write-out
    (λ c. omega (arith, slice-write-out c))
    (λ c. simp length-set (omega arith))
    returns)
