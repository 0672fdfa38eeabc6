-- An arc line before the `p` line, or one too many, is not permitted.
use mathlib.Core.Path.{ap₂, ◌∙◌}
use Prim.Native.Nat.{◌+◌, ◌-◌}
use borrow.Author.Rules.{rules}
use borrow.Author.Tests.{lt-ltb, le-ltb, not-true, not-false}
use Rattle.road_file.specs.Reader.{extended_by}
use Rattle.road_file.specs.declared.Reader.{Reader}
use Rattle.road_file.proofs.extend.Statement.{statement}
use Rattle.road_file.proofs.extend.Tie as tie

returns : tie.Need-returns-then-not-r
unfolding extended_by
returns c = let r = c.before.before.before.args.r in c.refuse.ensures ∙ rw (not-true r.begun c.before.if-not-r.true)

returns-2 : tie.Need-returns-then-r
unfolding extended_by
returns-2 c =
    let t = c.before in
    let e = t.before.before in
    let r = e.before.before.args.r in
    c.refuse-then-r.ensures ∙ rw (not-false r.begun e.if-not-r.false, le-ltb r.count r.wanted t.if-r.true)

returns-3 : tie.Need-returns
unfolding extended_by
returns-3 c =
    let n₀ = c.before in
    let e₂ = n₀.before.before in
    let e = e₂.before.before in
    let s₀ = e.before.before in
    let r = s₀.args.r in
    ap₂ {C = Reader} (λ s n. record { scan = s; lines = n; begun = r.begun; nodes = r.nodes; wanted = r.wanted; count = r.count + 1; from = s₀.args.tail - 1; to = s₀.args.head - 1; len = s₀.args.length; wrong = r.wrong }) n₀.before.start.ensures n₀.next_line.ensures
    ∙ rw (not-false r.begun e.if-not-r.false, lt-ltb r.count r.wanted e₂.if-r.false)

pub extend_spec : {M : Type 1} → statement M
extend_spec =
    tie.close
    (tie.spec
    (λ c κs. search rules)
    returns
    (λ c κs. search rules)
    returns-2
    (λ c κs. search rules)
    (λ c κs. search rules)
    (λ c. search rules)
    (λ c. search rules)
    (λ c. search rules)
    returns-3)
