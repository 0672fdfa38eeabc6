-- The overlaps are looked at in order, and each is compared as the definition has it.
use Rattle.std.proofs.Common.{ℕ, Bool, leb, length, get_or, sym, ◌∙◌, arith, rules, tests}
use Rattle.std.proofs.lemmas.Iterator.{YieldsList-from_range}
use Rattle.std.proofs.lemmas.Iterator.Search.{all_from_yields_List}
use Rattle.lists.proofs.StdLaws.{all-each}
use Rattle.labels.specs.Field.{overlap_at}
use Rattle.search_lists.specs.Listed.{none_greater}
use Rattle.search_lists.proofs.list.no_greater.Goals as goal

pub returns : goal.returns
unfolding none_greater
returns c =
    let n = length c.args.own.now in
    let test : ℕ → Bool = λ j. leb (overlap_at c.args.labels.now c.args.k j) (get_or c.args.own.now j 0) in
    all_from_yields_List test _ _ _ c.all.ensures.ran (YieldsList-from_range 0 n n (cc) (omega arith)) (λ x b q k. search (rules, tests))
    ∙ all-each test n
