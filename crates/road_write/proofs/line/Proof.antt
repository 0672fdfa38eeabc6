-- Each call puts a text where the one before it ended, and the newline is one byte: together one text, by `appended-more`, and that is the line, by
-- `line-parts`. Its length is the sum of the parts', so each part has its room.
use mathlib.Core.Path.{◌≡◌}
use Prim.Native.Nat.{◌+◌, ◌≤◌}
use native.Mathlib.Omega.{arith}
use lib.ListN.{length, length-set}
use Rattle.numerals.specs.Decimal.{decimal}
use Rattle.text_put.specs.Put.{newline}
use Rattle.text_put.proofs.AppendLaws.{appended-by, appended_one, appended-more}
use Rattle.road_line.specs.Line.{arc_start}
use Rattle.road_write.specs.Text.{line_text, ended}
use Rattle.road_write.proofs.TextLaws.{line-parts, line-length}
use Rattle.road_write.proofs.line.Statement.{statement}
use Rattle.road_write.proofs.line.Tie as tie

-- the places of the calls, each from the one after it
abbrev start : tie.After-bytes-first → tie.Start
start b = b.before.before.before.before.before

abbrev word : tie.After-put-second → tie.After-bytes-first
word w = w.before.before.before.before

abbrev tail : tie.After-spaced-third → tie.After-put-second
tail x = x.before.before.before.before

abbrev head : tie.After-spaced-last → tie.After-spaced-third
head y = y.before.before.before.before

-- the length of the whole
abbrev whole : (s : tie.Start) → length (ended (line_text s.args.tail s.args.head s.args.len)) ≡ length (decimal s.args.tail) + length (decimal s.args.head) + length (decimal s.args.len) + 5
whole s = line-length s.args.tail s.args.head s.args.len

put-requires : tie.Need-put-second-requires
put-requires c κs =
    let b = c.before.before.before in
    omega (arith, whole (start b), b.bytes-first.ensures.place)

spaced-requires : tie.Need-spaced-third-requires
spaced-requires c κs =
    let w = c.before.before.before in
    omega (arith, whole (start (word w)), (word w).bytes-first.ensures.place, w.put-second.ensures.0)

spaced-requires-2 : tie.Need-spaced-last-requires
spaced-requires-2 c κs =
    let x = c.before.before.before in
    let w = tail x in
    omega (arith, whole (start (word w)), (word w).bytes-first.ensures.place, w.put-second.ensures.0, x.spaced-third.ensures.place)

slice-write-out : tie.Need-bounds-out-last
slice-write-out c =
    let y = c.before.before in
    let x = head y in
    let w = tail x in
    omega (arith, whole (start (word w)), (word w).bytes-first.ensures.place, w.put-second.ensures.0, x.spaced-third.ensures.place, y.spaced-last.ensures.place)

returns : tie.Need-returns
returns c =
    let y = c.before.before in
    let x = head y in
    let w = tail x in
    let b = word w in
    let s = start b in
    let l = s.args.out.now in
    let at = s.args.at in
    let h : at ≤ length l = omega arith in
    let i = appended-more l at arc_start _ _ (decimal s.args.tail) _ _ b.bytes-first.ensures (appended-by _ _ _ _ _ w.put-second.ensures) h in
    let ii = appended-more l at _ _ _ _ _ _ i x.spaced-third.ensures h in
    let iii = appended-more l at _ _ _ _ _ _ ii y.spaced-last.ensures h in
    rw (← line-parts s.args.tail s.args.head s.args.len) (appended-more l at _ _ _ _ _ _ iii (appended_one _ _ newline (slice-write-out c)) h)

pub line_spec : {M : Type 1} → statement M
line_spec =
    tie.close
    (tie.spec
    (λ c κs. omega (arith, whole c.before.before.before.before))
    put-requires
    spaced-requires
    spaced-requires-2
    slice-write-out
    (λ c. omega (arith, slice-write-out c))
    (λ c. simp length-set (omega arith))
    returns)
