-- The link is stored, and no list has begun (`listed-first`).
use mathlib.Core.Path.{refl, sym, subst}
use native.Mathlib.Omega.{arith}
use borrow.Author.Rules.{rules}
use Rattle.search_queue.specs.Only.{Only}
use Rattle.search_queue.proofs.OnlyLaws.{only-put}
use Rattle.search_lists.specs.Listed.{Listed}
use Rattle.search_lists.proofs.ListedLaws.{listed-first}
use Rattle.search_lists.proofs.begin.Statement.{statement}
use Rattle.search_lists.proofs.begin.Tie as tie

returns : tie.Need-returns
returns c =
    let p = c in
    let s = p in
    let l = s.args.labels.now in (
      subst (Only 30 2 1 l) (sym p.put_link.ensures) (only-put 30 2 1 l 0 0 refl (omega arith)),
      subst (λ m. Listed s.args.ask s.args.r s.args.area.now m 1) (sym p.put_link.ensures)
          (listed-first s.args.ask s.args.r s.args.area.now l s.requires.0 s.requires.1 s.requires.2 s.requires.3),
    )

pub begin_spec : {M : Type 1} → statement M
begin_spec = tie.close (tie.spec (λ c κs. search rules) (λ c. search rules) returns)
