-- The overlaps are looked at in order, and each is compared as the definition has it.
use Rattle.std.proofs.Common.{ℕ, Bool, leb, sym, ◌∙◌, arith, rules, tests}
use Rattle.std.proofs.lemmas.Iterator.{YieldsList-from_range}
use Rattle.std.proofs.lemmas.Iterator.Search.{all_from_yields_List}
use Rattle.lists.proofs.StdLaws.{all-each}
use Rattle.labels.specs.Field.{overlap_at}
use Rattle.search_lists.specs.Link.{covers_at}
use Rattle.search_lists.proofs.list.covers.Goals as goal

pub returns : goal.returns
unfolding covers_at
returns c =
    let test : ℕ → Bool = λ j. leb (overlap_at c.args.labels.now c.args.k j) (overlap_at c.args.labels.now c.args.i j) in
    all_from_yields_List test _ _ _ c.all.ensures.ran (YieldsList-from_range 0 c.args.r c.args.r (cc) (omega arith)) (λ x b q k. search (rules, tests))
    ∙ all-each test c.args.r
