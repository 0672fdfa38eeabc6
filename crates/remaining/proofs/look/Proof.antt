-- A closed arc changes nothing; of an open one both nodes have their records, and the sum fits, since no distance is above `far`.
use mathlib.Core.Path.{◌≡◌, refl, sym, ap, ◌∙◌}
use mathlib.Core.Logic.{inl, inr}
use native.Mathlib.Omega.{arith}
use borrow.Author.Rules.{rules}
use Rattle.table.specs.Table.{from_at, to_at, is_open_at}
use Rattle.working_room.specs.Field.{long_at}
use Rattle.remaining.specs.Standing.{field}
use Rattle.remaining.proofs.StandingLaws.{from_in, to_in, sum_fits, not-open, is_open}
use Rattle.remaining.proofs.look.Statement.{statement}
use Rattle.remaining.proofs.look.Tie as tie

abbrev begun : tie.After-is_closed → tie.Start
begun c = c.before.before.before.before

abbrev went : tie.After-to_of-w → tie.Start
went c = begun c.before.before.before

-- the numbers read are those of the arc's nodes
read-to : (x : tie.After-to_of-w) → long_at field (went x).args.room.now x.to_of-w.result ≡ long_at field (went x).args.room.now (to_at (went x).args.table.now (went x).args.a)
read-to x = ap (long_at field (went x).args.room.now) x.to_of-w.ensures

read-from : (x : tie.After-to_of-w) → long_at field (went x).args.room.now x.from_of-u.result ≡ long_at field (went x).args.room.now (from_at (went x).args.table.now (went x).args.a)
read-from x = ap (long_at field (went x).args.room.now) x.from_of-u.ensures

returns : tie.Need-returns-then-is_closed
returns c =
    let s = begun c.before in
    inl (refl, refl, λ e. absurd (not-open (is_open_at s.args.closed.now s.args.a) (sym c.is_closed.ensures ∙ c.if-is_closed.true) e))

long-requires : tie.Need-long-requires
long-requires c κs =
    let s = went c in
    let p = s.requires in
    (omega (arith, to_in s.args.nodes s.args.table.now s.args.a s.args.room.now p.0 p.1 p.2), omega arith)

add-by : tie.Need-overflow_add-by
add-by c =
    let x = c.before.before in
    let s = went x in
    let p = s.requires in
    omega (arith, read-to x, sum_fits s.args.nodes s.args.table.now s.args.a s.args.room.now p.0 p.1 p.2 p.3)

long-requires-2 : tie.Need-long-requires-2
long-requires-2 c κs =
    let s = went c.before.before in
    let p = s.requires in
    (omega (arith, from_in s.args.nodes s.args.table.now s.args.a s.args.room.now p.0 p.1 p.2), omega arith)

returns-2 : tie.Need-returns-then-long-by
returns-2 c = let x = c.before.before.before.before in inl (refl, refl, λ e. omega (arith, read-to x, read-from x))

put-long-requires : tie.Need-put_long-requires
put-long-requires c κs =
    let s = went c.before.before.before.before.before in
    let p = s.requires in
    (omega (arith, from_in s.args.nodes s.args.table.now s.args.a s.args.room.now p.0 p.1 p.2), omega arith)

returns-3 : tie.Need-returns
returns-3 c =
    let e = c.before.before.before.before in
    let x = e.before.before.before.before in
    let o = x.before.before in
    let s = begun o.before in
    inr (
      refl,
      is_open (is_open_at s.args.closed.now s.args.a) (sym o.is_closed.ensures ∙ o.if-is_closed.false),
      omega (arith, read-to x, read-from x),
      cc (read-to x, read-from x, x.to_of-w.ensures, x.from_of-u.ensures),
    )

pub look_spec : {M : Type 1} → statement M
look_spec =
    tie.close
    (tie.spec
    (λ c κs. search rules)
    returns
    (λ c κs. search rules)
    (λ c. search rules)
    (λ c κs. search rules)
    (λ c. search rules)
    long-requires
    (λ c κs. search rules)
    (λ c. search rules)
    add-by
    long-requires-2
    (λ c. search rules)
    returns-2
    put-long-requires
    (λ c. search rules)
    returns-3)
