-- The first of the block before label n's own, and label n, which is alone in its own: the one of them that comes first is stored in label n (`enters-join`).
use mathlib.Core.Path.{sym, subst}
use Prim.Native.Nat.{◌+◌, ◌-◌, ◌≤◌, ◌<◌}
use native.Mathlib.Omega.{arith}
use borrow.Author.Rules.{rules}
use Rattle.search_tree.specs.Tree.{Block}
use Rattle.search_queue.proofs.ClimbLaws.{chosen-used, odd-before, block-before}
use Rattle.search_queue.proofs.EnterLaws.{enters-join}
use Rattle.search_queue.proofs.winner.join.Statement.{statement}
use Rattle.search_queue.proofs.winner.join.Tie as tie

small : (s : tie.Start) → s.args.half ≤ s.args.n
small s = omega (arith, odd-before _ s.requires.3 s.requires.5, s.requires.4)

first-of-requires : tie.Need-first_of-v-requires
first-of-requires c κs =
    let s = c.before in (
      s.requires.0,
      omega arith,
      omega arith,
      omega (arith, small s),
      s.requires.3,
      subst (λ e. Block (e - s.args.half) s.args.half) (sym s.requires.4) (block-before _ s.requires.3 s.requires.5),
      omega arith,
    )

abbrev start : tie.After-choose-u → tie.Start
start c = c.before.before.before

used : (c : tie.After-choose-u) → c.choose-u.result < (start c).args.n + 1
used c = chosen-used _ _ _ _ _ c.choose-u.ensures c.before.first_of-v.ensures.used (omega arith)

returns : tie.Need-returns
returns c =
    let d = c.before.before.before.before in
    let s = start d in
    enters-join _ s.requires.3 s.requires.2 (omega (arith, s.requires.0.down.room)) s.requires.1 s.requires.4 s.requires.5 _ _
    d.before.first_of-v.ensures d.choose-u.ensures (used d) _ c.before.before.put_winner.ensures

pub join_spec : {M : Type 1} → statement M
join_spec =
    tie.close
    (tie.spec
    (λ c. search rules)
    (λ c. omega (arith, small c.before))
    first-of-requires
    (λ c. search rules)
    (λ c κs. search rules)
    (λ c. omega (arith, used c.before, (start c.before).requires.1))
    (λ c κs. search rules)
    (λ c. search rules)
    returns)
