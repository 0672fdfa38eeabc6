-- Each call puts a text where the one before it ended, and the newline is one byte: together one text, by `appended-more`, and that is the route's line, by
-- `route-parts`. A number has at most 20 digits, and 21 bytes with its space, so each call has its room.
use Prim.Native.Nat.{◌+◌, ◌≤◌}
use native.Mathlib.Omega.{arith}
use lib.ListN.{length, length-set}
use Rattle.numerals.specs.Decimal.{decimal}
use Rattle.numerals.proofs.DecimalLaws.{decimal-length}
use Rattle.text_put.specs.Put.{newline}
use Rattle.text_put.proofs.AppendLaws.{appended-by, appended_one, appended-more}
use Rattle.desk_output.proofs.TextLaws.{numbers-length, route-parts}
use Rattle.desk_output.proofs.route.Statement.{statement}
use Rattle.desk_output.proofs.route.Tie as tie

-- the places of the calls, each from the one after it
abbrev start : tie.After-write-first → tie.Start
start w = w.before.before.before.before

abbrev first : tie.After-spaced-second → tie.After-write-first
first x = x.before.before.before.before

abbrev second : tie.After-spaced-third → tie.After-spaced-second
second y = y.before.before.before.before

abbrev third : tie.After-numbers-last → tie.After-spaced-third
third n = n.before.before.before.before

-- each number has its room
round-most : (w : tie.After-write-first) → w.write-first.result ≤ (start w).args.at + 20
round-most w = omega (arith, w.write-first.ensures.0, decimal-length (start w).args.round)

len-most : (x : tie.After-spaced-second) → x.spaced-second.result ≤ (start (first x)).args.at + 41
len-most x = omega (arith, round-most (first x), x.spaced-second.ensures.place, decimal-length (start (first x)).args.len)

labels-most : (y : tie.After-spaced-third) → y.spaced-third.result ≤ (start (first (second y))).args.at + 62
labels-most y = omega (arith, len-most (second y), y.spaced-third.ensures.place, decimal-length (start (first (second y))).args.labels)

slice-write-out : tie.Need-bounds-out-last
slice-write-out c =
    let n = c.before.before in
    omega (arith, labels-most (third n), n.numbers-last.ensures.place, numbers-length (start (first (second (third n)))).args.arcs.now)

returns : tie.Need-returns
returns c =
    let n = c.before.before in
    let y = third n in
    let x = second y in
    let w = first x in
    let s = start w in
    let l = s.args.out.now in
    let at = s.args.at in
    let h : at ≤ length l = omega arith in
    let i = appended-by l at (decimal s.args.round) _ _ w.write-first.ensures in
    let ii = appended-more l at _ _ _ _ _ _ i x.spaced-second.ensures h in
    let iii = appended-more l at _ _ _ _ _ _ ii y.spaced-third.ensures h in
    let iv = appended-more l at _ _ _ _ _ _ iii n.numbers-last.ensures h in
    rw (← route-parts s.args.round s.args.len s.args.labels s.args.arcs.now)
    (appended-more l at _ _ _ _ _ _ iv (appended_one _ _ newline (slice-write-out c)) h)

pub route_spec : {M : Type 1} → statement M
route_spec =
    tie.close
    (tie.spec
    (λ c κs. omega arith)
    (λ c κs. let w = c.before.before.before in omega (arith, round-most w, decimal-length (start w).args.len))
    (λ c κs. let x = c.before.before.before in omega (arith, len-most x, decimal-length (start (first x)).args.labels))
    (λ c κs. omega (arith, labels-most c.before.before.before))
    slice-write-out
    (λ c. omega (arith, slice-write-out c))
    (λ c. simp length-set (omega arith))
    returns)
