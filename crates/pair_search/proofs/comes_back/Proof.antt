-- The three parts of the test, one after the other.
use mathlib.Core.Path.{sym, ap, ◌∙◌}
use mathlib.Core.Bool.{Bool}
use Prim.Native.Nat.{ℕ, ◌<◌}
use native.Mathlib.Omega.{arith}
use borrow.Author.Rules.{rules}
use Rattle.table.specs.Table.{arcs_of}
use Rattle.table.proofs.FaultLaws.{all-good}
use Rattle.reach.proofs.StandLaws.{record-in}
use Rattle.pair.specs.Walked.{comes_back}
use Rattle.pair_room.specs.Room.{kept_in}
use Rattle.pair_room.proofs.RoomLaws.{mark-node}
use Rattle.pair_search.proofs.TurnLaws.{comes-past, comes-other, comes-mark}
use Rattle.pair_search.proofs.comes_back.Statement.{statement}
use Rattle.pair_search.proofs.comes_back.Tie as tie

abbrev begun : tie.After-word-b → tie.Start
begun k = k.before.before.before

abbrev kept : tie.Start → ℕ → ℕ
kept s = kept_in s.args.nodes s.args.room.now

abbrev answer : tie.Start → ℕ → Bool
answer s b = comes_back (arcs_of s.args.table.now) (kept s) s.args.u b

returns : tie.Need-returns-then-table-b
returns c =
    let k = c.before in
    let s = begun k in
    comes-past s.args.table.now (kept s) s.args.u k.word-b.result c.if-table-b.true ∙ ap (answer s) k.word-b.ensures

returns-2 : tie.Need-returns-then-to_of-u
returns-2 c =
    let e = c in
    let k = e.before.before.before in
    let s = begun k in
    comes-other s.args.table.now (kept s) s.args.u k.word-b.result (omega (arith, e.if-table-b.false)) (λ z. c.if-to_of-u.true (c.to_of.ensures ∙ z))
    ∙ ap (answer s) k.word-b.ensures

-- the arc's start is a node
start-in : (c : tie.After-from_of-w) → c.from_of-w.result < (begun c.before.before.before.before).args.nodes
start-in c =
    let e = c in
    let s = begun e.before.before.before.before in
    omega (arith, c.from_of-w.ensures, (all-good s.args.nodes s.args.table.now s.requires.0 e.word-b.result (omega (arith, e.if-table-b.false))).start)

word-requires-2 : tie.Need-word-requires
word-requires-2 c κs =
    let s = begun c.before.before.before.before in
    (record-in s.args.nodes s.args.room.now c.from_of-w.result s.requires.1 (start-in c), omega arith)

returns-3 : tie.Need-returns
returns-3 c =
    let f = c.before in
    let g = f in
    let e = g in
    let k = e.before.before.before.before in
    let s = begun k in
    comes-mark s.args.table.now (kept s) s.args.u k.word-b.result (omega (arith, e.if-table-b.false)) (sym g.to_of.ensures ∙ g.if-to_of-u.false) c.word.result
    (c.word.ensures ∙ sym (mark-node 36 s.args.nodes s.args.room.now f.from_of-w.result (start-in f)) ∙ ap (kept s) f.from_of-w.ensures)
    ∙ ap (answer s) k.word-b.ensures

pub comes_back_spec : {M : Type 1} → statement M
comes_back_spec =
    tie.close
    (tie.spec
    (λ c κs. search rules)
    (λ c. search rules)
    returns
    (λ c. search rules)
    (λ c κs. search rules)
    (λ c. search rules)
    returns-2
    (λ c. search rules)
    (λ c κs. search rules)
    (λ c. search rules)
    word-requires-2
    returns-3)
