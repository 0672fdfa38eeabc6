-- The line is `a `, three numbers with a space between, and a newline: 5 bytes and the digits, of which each number has at most 20.
use mathlib.Core.Path.{ap}
use Prim.Native.Nat.{◌+◌, ◌≤◌}
use native.Mathlib.Omega.{arith}
use borrow.Author.Rules.{rules}
use lib.ListN.{length}
use Rattle.numerals.specs.Decimal.{decimal}
use Rattle.numerals.proofs.DecimalLaws.{decimal-length}
use Rattle.table.specs.Table.{from_at, to_at, len_at}
use Rattle.road_write.proofs.TextLaws.{line-length}
use Rattle.road_write.proofs.arc_bytes.Statement.{statement}
use Rattle.road_write.proofs.arc_bytes.Tie as tie

-- the places of the counts, each from the one after it
abbrev tail : tie.After-digit_count-to → tie.After-digit_count-from
tail b = b.before.before

abbrev head : tie.After-digit_count-len → tie.After-digit_count-to
head c = c.before.before

-- each count is small
small : (c : tie.After-digit_count-len)
    → ((tail (head c)).digit_count-from.result ≤ 20) × ((head c).digit_count-to.result ≤ 20) × (c.digit_count-len.result ≤ 20)
small c =
    let b = head c in
    let a = tail b in (
      omega (arith, a.digit_count-from.ensures, decimal-length (a.from_of.result + 1)),
      omega (arith, b.digit_count-to.ensures, decimal-length (b.to_of.result + 1)),
      omega (arith, c.digit_count-len.ensures, decimal-length c.length_of.result),
    )

returns : tie.Need-returns
returns c =
    let b = head c in
    let a = tail b in
    let s = a in
    let t = s.args.table.now in
    let i = s.args.i in
    omega (
      arith,
      line-length (from_at t i + 1) (to_at t i + 1) (len_at t i),
      a.digit_count-from.ensures,
      b.digit_count-to.ensures,
      c.digit_count-len.ensures,
      ap (λ v. length (decimal (v + 1))) a.from_of.ensures,
      ap (λ v. length (decimal (v + 1))) b.to_of.ensures,
      ap (λ v. length (decimal v)) c.length_of.ensures,
    )

pub arc_bytes_spec : {M : Type 1} → statement M
arc_bytes_spec =
    tie.close
    (tie.spec
    (λ c κs. search rules)
    (λ c. search rules)
    (λ c. search rules)
    (λ c κs. search rules)
    (λ c κs. search rules)
    (λ c. search rules)
    (λ c. search rules)
    (λ c κs. search rules)
    (λ c κs. search rules)
    (λ c. search rules)
    (λ c κs. search rules)
    (λ c. omega (arith, small c))
    (λ c. omega (arith, small c))
    (λ c. omega (arith, small c))
    returns)
