-- The count is that of the leading records with arcs, which are the answers. The first line, the answers' lines and the last line are put one after the other:
-- one text by `appended-more`, and for any rounds that the summaries and the area show it is the text that is due, by `end-full` and `end-less`.
use mathlib.Core.Path.{ap}
use Prim.Native.Nat.{◌≤◌}
use native.Mathlib.Nat.{mul-le-mul_right}
use native.Mathlib.Omega.{arith}
use borrow.Author.Rules.{rules}
use Rattle.summary.specs.declared.Summary.{Summary}
use Rattle.text_put.proofs.AppendLaws.{appended-more}
use Rattle.desk_text.proofs.TextLaws.{head-length, lines-length}
use Rattle.desk_text.proofs.RoundsLaws.{end-full, end-less}
use Rattle.desk_text.proofs.print.ended.Statement.{statement}
use Rattle.desk_text.proofs.print.ended.Tie as tie

-- the places of the calls, each from the one after it
abbrev start : tie.After-leading-count → tie.Start
start n = n.before.before.before

abbrev counted : tie.After-head-first → tie.After-leading-count
counted h = h.before.before

abbrev headed : tie.After-lines-second → tie.After-head-first
headed l = l.before.before.before.before

head-most : (h : tie.After-head-first) → h.head-first.result ≤ 53
head-most h = omega (arith, h.head-first.ensures.place, head-length (start (counted h)).args.outcome (counted h).leading-count.result)

lines-requires : tie.Need-lines-second-requires
lines-requires c κs =
    let h = c.before.before.before in
    let n = counted h in
    let s = start n in
    let f = n.leading-count.ensures.few in (
      omega arith,
      omega (arith, head-most h),
      omega arith,
      omega arith,
      omega (arith, mul-le-mul_right {m = n.leading-count.result} {n = s.args.k} s.args.w f),
      λ j g. s.requires.4 j (omega arith),
    )

none-requires : tie.Need-none-requires
none-requires c κs =
    let l = c.before.before.before.before.before in
    let h = headed l in
    let n = counted h in
    let s = start n in
    let f = n.leading-count.ensures.few in
    omega (arith, head-most h, l.lines-second.ensures.place, lines-length s.args.sums s.args.w s.args.area.now n.leading-count.result (λ j g. s.requires.4 j (omega arith)) (omega arith))

returns : tie.Need-returns-then-count-k
returns c =
    let z = c in
    let l = z.before.before.before.before.before.before.before.before in
    let h = headed l in
    let n = counted h in
    let s = start n in
    let b = s.args.out.now in
    let e = ap (λ (x : Summary). x.labels) z.at-s.ensures in (
      omega arith,
      λ q rs m.
          let i = appended-more b 0 _ _ _ _ _ _ h.head-first.ensures l.lines-second.ensures (omega arith) in
          rw (end-less q rs s.args.w s.args.k s.args.sums s.args.area.now n.leading-count.result m n.leading-count.ensures s.args.outcome z.if-count-k.true, ← e)
          (appended-more b 0 _ _ _ _ _ _ i z.none.ensures (omega arith)),
    )

returns-2 : tie.Need-returns
returns-2 c =
    let l = c.before.before.before in
    let h = headed l in
    let n = counted h in
    let s = start n in
    let f = n.leading-count.ensures.few in (
      omega arith,
      λ q rs m.
          rw (end-full q rs s.args.w s.args.k s.args.sums s.args.area.now n.leading-count.result m n.leading-count.ensures s.args.outcome (omega arith))
          (appended-more s.args.out.now 0 _ _ _ _ _ _ h.head-first.ensures l.lines-second.ensures (omega arith)),
    )

pub ended_spec : {M : Type 1} → statement M
ended_spec =
    tie.close
    (tie.spec
    (λ c κs. search rules)
    (λ c κs. search rules)
    lines-requires
    (λ c κs. search rules)
    none-requires
    (λ c. search rules)
    returns
    (λ c. search rules)
    returns-2)
