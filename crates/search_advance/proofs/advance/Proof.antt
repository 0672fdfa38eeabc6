-- By the batch or by a pass over the run: either leaves the cursor right, and which it is does not matter.
use native.Mathlib.Omega.{arith}
use borrow.Author.Rules.{rules}
use mathlib.Core.Path.{◌≡◌, sym, subst, ap, ◌∙◌}
use mathlib.Core.Logic.{◌≢◌}
use Prim.Native.Nat.{◌≤◌, ◌<◌}
use lib.ListN.{length}
use Rattle.net.specs.Limits.{most_arcs}
use Rattle.table.specs.Table.{records, arcs_of}
use Rattle.table.specs.Fault.{table_fault, good}
use Rattle.table.specs.Run.{run_start}
use Rattle.table.proofs.FaultLaws.{good-size}
use Rattle.table.proofs.NetLaws.{arcs-length, table-sound}
use Rattle.table.proofs.RunLaws.{run-le}
use Rattle.labels.specs.Field.{no_number}
use Rattle.labels.specs.Chain.{chain_at, chains_in}
use Rattle.search_ask.specs.Ask.{net_for, query_for, end_in}
use Rattle.search_ask.specs.Earlier.{earlier_of}
use Rattle.search_batch.specs.Batch.{Came}
use Rattle.search_advance.specs.Own.{rank_from}
use Rattle.search_advance.proofs.RankLaws.{came-at}
use Rattle.search_advance.proofs.advance.Statement.{statement}
use Rattle.search_advance.proofs.advance.Tie as tie

abbrev start : tie.After-end-v → tie.Start
start c = c.before.before.before.before.before.before.before.before

ok : (s : tie.Start) → table_fault s.args.ask.nodes s.args.table.now ≡ good
ok s = s.requires.0.searching.accepted.no-fault

size : (s : tie.Start) → records s.args.table.now ≤ most_arcs
size s = (good-size s.args.ask.nodes s.args.table.now (ok s)).3

few : (s : tie.Start) → length (arcs_of s.args.table.now) ≤ most_arcs
few s = omega (arith, size s, arcs-length s.args.table.now)

small : (s : tie.Start) → s.args.x.from ≢ no_number → s.args.x.from < most_arcs
small s ne = omega (arith, s.requires.2 ne, size s)

-- v is the end of the label's chain, and its run is the label's
v-is : (c : tie.After-end-v) → c.end-v.result ≡ end_in c.args.ask c.args.table.now c.args.labels.now c.args.x.label
v-is c = c.end-v.ensures ∙ c.requires.0.searching.standing.ends c.args.x.label c.requires.1

first-is : (c : tie.After-run-first) → c.run-first.result ≡ run_start c.args.table.now c.end-v.result
first-is c =
    let s = start c.before in
    c.run-first.ensures ∙ s.requires.0.runs s.args.x.label s.requires.1 ∙ ap (run_start s.args.table.now) (sym c.end-v.ensures)

by-batch-requires : tie.Need-by_batch-requires
by-batch-requires c κs =
    let r = c in
    let s = start r.before in
    (s.requires.2, size s, omega (arith, first-is r, run-le s.args.table.now r.end-v.result), s.requires.3.long, omega (arith, s.requires.3.at_most, s.requires.3.count_most))

rank-from-requires : tie.Need-rank_from-rank-requires
rank-from-requires c κs = let s = start c.before.before.before in (s.requires.2, size s)

after-requires : tie.Need-after-requires
after-requires c κs =
    let r = c.before.before.before.before in
    let s = start r.before in
    (ok s, first-is r, s.requires.3)

returns : tie.Need-returns-then-by_batch
returns c =
    let d = c in
    let k = d in
    let r = k in
    let e = r.before.before.before.before.before.before.before.before in
    let s = start e in
    let t = s.args.table.now in
    let net = net_for s.args.ask t s.args.closed.now in
    let y = d.after.result in
    let w = d.after.new.ahead in
    let came = subst (λ low. Came net (records t) e.end-v.result low y w) k.rank_from-rank.ensures d.after.ensures in (
      came-at (query_for s.args.ask t s.args.closed.now s.args.labels.now) (few s) (table-sound s.args.ask.nodes t (ok s) s.args.closed.now).positive
          (earlier_of s.args.ask s.args.area.now s.args.lens.now) (chains_in s.args.labels.now s.args.x.n) (chain_at s.args.labels.now s.args.x.label) s.args.x.from (small s) (records t) y w
          (subst (λ v. Came net (records t) v (rank_from (arcs_of t) s.args.x.from) y w) (v-is e) came),
      d.after.ensures.ahead,
    )

pass-requires : tie.Need-pass-requires
pass-requires c κs =
    let r = c.before.before in
    let s = start r.before in
    (s.requires.0, s.requires.1, s.requires.2, v-is r.before, first-is r)

pub advance_spec : {M : Type 1} → statement M
advance_spec =
    tie.close
    (tie.spec
    (λ c κs. search rules)
    (λ c κs. search rules)
    (λ c. search rules)
    by-batch-requires
    rank-from-requires
    after-requires
    (λ c. search rules)
    returns
    pass-requires
    (λ c. search rules)
    (λ c. (c.pass.ensures, c.requires.3)))
