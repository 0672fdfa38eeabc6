-- The library compares two lists of numbers place by place, as `numbers_first` does.
use Rattle.std.proofs.Common.{refl, arith}
use Rattle.std.specs.Ordering.{nat_cmp, is_lt}
use Rattle.std.proofs.lemmas.Cmp.{same_from_slice_cmp_tested}
use Rattle.std.proofs.lemmas.Bool.Decides.{nat_tests}
use Rattle.net.specs.Route.{numbers_first}
use Rattle.lists.specs.Tests.{lex}
use Rattle.pair_walks.proofs.numbers_first.Goals as goal

pub returns : goal.returns
unfolding numbers_first lex
returns c =
    same_from_slice_cmp_tested nat_cmp is_lt numbers_first refl (λ _ _. refl) (λ _ _. refl)
    (λ x y xs ys o h. grind (arith, nat_tests)) c.args.p.now c.args.q.now _ c.lt.ensures
