-- Each call puts a text where the one before it ended, and the newline is one byte: together one text, by `appended-more`, and that is the first line, by
-- `sizes-parts`. Its length is the sum of the parts', so each part has its room.
use Prim.Native.Nat.{◌≤◌}
use native.Mathlib.Omega.{arith}
use lib.ListN.{length, length-set}
use Rattle.numerals.specs.Decimal.{decimal}
use Rattle.text_put.specs.Put.{newline}
use Rattle.text_put.proofs.AppendLaws.{appended-by, appended_one, appended-more}
use Rattle.road_line.specs.Line.{sizes_start}
use Rattle.road_write.proofs.TextLaws.{sizes-parts, sizes-length}
use Rattle.road_write.proofs.sizes.Statement.{statement}
use Rattle.road_write.proofs.sizes.Tie as tie

-- the places of the calls, each from the one after it
abbrev start : tie.After-bytes-first → tie.Start
start b = b.before.before.before.before.before

abbrev word : tie.After-put-second → tie.After-bytes-first
word w = w.before.before.before.before

abbrev nodes : tie.After-spaced-last → tie.After-put-second
nodes x = x.before.before.before.before

put-requires : tie.Need-put-second-requires
put-requires c κs =
    let b = c in
    omega (arith, sizes-length b.args.nodes b.args.arcs, b.bytes-first.ensures.place)

spaced-requires : tie.Need-spaced-last-requires
spaced-requires c κs =
    let w = c.before.before.before in
    let s = start (word w) in
    omega (arith, sizes-length s.args.nodes s.args.arcs, (word w).bytes-first.ensures.place, w.put-second.ensures.0)

slice-write-out : tie.Need-bounds-out-last
slice-write-out c =
    let x = c.before.before in
    let w = nodes x in
    let s = start (word w) in
    omega (arith, sizes-length s.args.nodes s.args.arcs, (word w).bytes-first.ensures.place, w.put-second.ensures.0, x.spaced-last.ensures.place)

returns : tie.Need-returns
returns c =
    let x = c.before.before in
    let w = nodes x in
    let b = word w in
    let s = start b in
    let l = s.args.out.now in
    let at = s.args.at in
    let h : at ≤ length l = omega arith in
    let i = appended-more l at sizes_start _ _ (decimal s.args.nodes) _ _ b.bytes-first.ensures (appended-by _ _ _ _ _ w.put-second.ensures) h in
    let ii = appended-more l at _ _ _ _ _ _ i x.spaced-last.ensures h in
    rw (← sizes-parts s.args.nodes s.args.arcs) (appended-more l at _ _ _ _ _ _ ii (appended_one _ _ newline (slice-write-out c)) h)

pub sizes_spec : {M : Type 1} → statement M
sizes_spec =
    tie.close
    (tie.spec
    (λ c κs. let s = c in omega (arith, sizes-length s.args.nodes s.args.arcs))
    put-requires
    spaced-requires
    slice-write-out
    (λ c. omega (arith, slice-write-out c))
    (λ c. simp length-set (omega arith))
    returns)
