-- The head of the node's list has the same run (`head-run`); where there is none the run is found by halves.
use mathlib.Core.Path.{◌≡◌, sym, ap, subst, ◌∙◌}
use Prim.Native.Nat.{ℕ, ◌+◌, ◌-◌, ◌*◌, ◌<◌}
use native.Mathlib.Omega.{arith}
use lib.ListN.{get_or}
use borrow.Author.Rules.{rules}
use Rattle.table.specs.Run.{run_start}
use Rattle.table.proofs.FaultLaws.{good-size}
use Rattle.table.proofs.RunLaws.{run-le}
use Rattle.labels.specs.Field.{end_at}
use Rattle.search_ask.specs.Ask.{width}
use Rattle.search_lists.specs.Listed.{place_of, head_of, head_at}
use Rattle.search_lists.specs.Run.{run_at, put_run}
use Rattle.search_lists.proofs.RunLaws.{head-run}
use Rattle.search_lists.proofs.start.Statement.{statement}
use Rattle.search_lists.proofs.start.Tie as tie

abbrev start : tie.After-head-h → tie.Start
start c = c.before.before.before.before.before.before.before

abbrev node : tie.After-head-h → ℕ
node c = end_at (start c).args.labels.now (start c).args.n

head-is : (c : tie.After-head-h) → let s = start c in c.head-h.result ≡ head_at s.args.ask s.args.r s.args.area.now (node c)
head-is c =
    let s = start c in
    let p = c in
    c.head-h.ensures
    ∙ ap (λ x. head_of (get_or s.args.area.now x 0))
    (p.place-place.ensures.0 ∙ ap (λ v. s.args.r * width s.args.ask + place_of s.args.ask.s v) p.end-v.ensures)

cast-put-run : tie.Need-overflow_cast-run_start
cast-put-run c =
    let s = start c.before.before.before in
    omega (arith, c.run_start.ensures, run-le s.args.table.now c.end-v.result, (good-size s.args.ask.nodes s.args.table.now s.requires.0).3)

returns : tie.Need-returns-then-h-eq0
returns c =
    let p = c in
    let f = p in
    let h = f.before.before.before.before.before.before in
    let s = start h in
    p.put_run.ensures ∙ ap (put_run s.args.labels.now s.args.n) (f.run_start.ensures ∙ ap (run_start s.args.table.now) h.end-v.ensures)

-- the head is a label at the node
same : (e : tie.Else-h-eq0) → let h = e.before in let s = start h in
    (h.head-h.result - 1 < s.args.n) × (run_at s.args.labels.now (h.head-h.result - 1) ≡ run_start s.args.table.now (node h))
same e =
    let h = e.before in
    let s = start h in
    subst (λ k. (k - 1 < s.args.n) × (run_at s.args.labels.now (k - 1) ≡ run_start s.args.table.now (node h))) (sym (head-is h))
    (head-run s.args.ask s.args.table.now s.args.area.now s.args.labels.now s.args.r s.args.n (node h) s.requires.1 s.requires.2 s.requires.4 s.requires.5 (λ z. e.if-h-eq0.false (head-is h ∙ z)))

run-requires : tie.Need-run-start-requires
run-requires c κs = let e = c in omega (arith, (same e).0, (start e.before).requires.3)

returns-2 : tie.Need-returns
returns-2 c =
    let p = c in
    let f = p in
    let e = f.before.before.before.before.before in
    let s = start e.before in
    p.put_run-2.ensures ∙ ap (put_run s.args.labels.now s.args.n) (f.run-start.ensures ∙ (same e).1)

pub start_spec : {M : Type 1} → statement M
start_spec =
    tie.close
    (tie.spec
    (λ c κs. search rules)
    (λ c κs. search rules)
    (λ c. search rules)
    (λ c. search rules)
    (λ c κs. search rules)
    (λ c κs. search rules)
    cast-put-run
    (λ c κs. search rules)
    (λ c. search rules)
    returns
    (λ c. search rules)
    run-requires
    (λ c κs. search rules)
    (λ c. search rules)
    returns-2)
