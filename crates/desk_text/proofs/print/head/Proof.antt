-- Each call puts a text where the one before it ended, and the newline is one byte: together one text, by `appended-more`, and that is the line, by
-- `head-parts`. It has at most 53 bytes, so each part has its room.
use Prim.Native.Nat.{◌≤◌}
use native.Mathlib.Omega.{arith}
use lib.ListN.{length, length-set}
use Rattle.numerals.specs.Decimal.{decimal}
use Rattle.numerals.proofs.DecimalLaws.{decimal-length}
use Rattle.text_put.specs.Put.{newline}
use Rattle.desk_text.specs.Desk.{end_word, routes_word}
use Rattle.text_put.proofs.AppendLaws.{appended-by, appended_one, appended-more}
use Rattle.desk_text.proofs.TextLaws.{head-parts}
use Rattle.desk_text.proofs.print.head.Statement.{statement}
use Rattle.desk_text.proofs.print.head.Tie as tie

-- the places of the calls, each from the one after it
abbrev start : tie.After-bytes-first → tie.Start
start b = b.before.before.before.before.before

abbrev word : tie.After-write-second → tie.After-bytes-first
word w = w.before.before.before.before

abbrev told : tie.After-bytes-third → tie.After-write-second
told n = n.before.before.before.before.before.before

abbrev routes : tie.After-write-last → tie.After-bytes-third
routes n = n.before.before.before.before

outcome-most : (w : tie.After-write-second) → w.write-second.result ≤ 24
outcome-most w = omega (arith, w.write-second.ensures.0, (word w).bytes-first.ensures.place, decimal-length (start (word w)).args.outcome)

routes-most : (n : tie.After-bytes-third) → n.bytes-third.result ≤ 32
routes-most n = omega (arith, n.bytes-third.ensures.place, outcome-most (told n))

slice-write-out : tie.Need-bounds-out-last
slice-write-out c =
    let n = c.before.before in
    omega (arith, routes-most (routes n), n.write-last.ensures.0, decimal-length (start (word (told (routes n)))).args.count)

returns : tie.Need-returns
returns c =
    let n = c.before.before in
    let r = routes n in
    let w = told r in
    let b = word w in
    let s = start b in
    let l = s.args.out.now in
    let h : 0 ≤ length l = omega arith in
    let i = appended-more l 0 end_word _ _ (decimal s.args.outcome) _ _ b.bytes-first.ensures (appended-by _ _ _ _ _ w.write-second.ensures) h in
    let ii = appended-more l 0 _ _ _ routes_word _ _ i r.bytes-third.ensures h in
    let iii = appended-more l 0 _ _ _ (decimal s.args.count) _ _ ii (appended-by _ _ _ _ _ n.write-last.ensures) h in
    rw (← head-parts s.args.outcome s.args.count) (appended-more l 0 _ _ _ _ _ _ iii (appended_one _ _ newline (slice-write-out c)) h)

pub head_spec : {M : Type 1} → statement M
head_spec =
    tie.close
    (tie.spec
    (λ c κs. omega arith)
    (λ c κs. omega (arith, c.bytes-first.ensures.place))
    (λ c κs. omega (arith, outcome-most c.before.before.before.before.before))
    (λ c κs. omega (arith, routes-most c.before.before.before))
    slice-write-out
    (λ c. omega (arith, slice-write-out c))
    (λ c. simp length-set (omega arith))
    returns)
