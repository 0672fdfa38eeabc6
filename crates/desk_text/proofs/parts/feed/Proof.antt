-- What is fed is the whole part or its front, behind any input.
use mathlib.Core.Path.{◌≡◌}
use native.Mathlib.Omega.{arith}
use lib.ListN.{length, length-take}
use borrow.Author.Rules.{rules}
use Rattle.desk_text.proofs.FinishLaws.{part-fed, part-whole}
use Rattle.desk_text.proofs.parts.feed.Statement.{statement}
use Rattle.desk_text.proofs.parts.feed.Tie as tie

part : tie.Need-slice_bounds-feed-end
part c =
    let s = c in
    let z : length s.args.part.now ≡ 65536 = search rules in
    omega (arith, length-take s.args.n s.args.part.now, z)

returns : tie.Need-returns-then-n-lt-PART
returns c = part-fed _ _ _ _ _ _ _ c.feed.ensures

returns-2 : tie.Need-returns
returns-2 c =
    let e = c in
    let s = e in
    let z : length s.args.part.now ≡ 65536 = search rules in
    part-whole _ _ _ _ _ _ _ s.args.n (omega (arith, z, e.if-n-lt-PART.false)) c.feed-2.ensures

pub feed_spec : {M : Type 1} → statement M
feed_spec = tie.close (tie.spec part (λ c κs. search rules) returns (λ c κs. search rules) returns-2)
