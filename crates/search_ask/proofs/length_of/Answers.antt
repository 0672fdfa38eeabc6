-- A candidate's length is its label's and its arc's.
use Rattle.search_ask.proofs.CandidateLaws.{candidate-sum}
use Rattle.search_ask.proofs.length_of.Goals as goal

pub returns : goal.returns
returns c =
    candidate-sum c.args.table.now c.requires.0.standing c.args.c.label c.args.c.arc _ _
    c.requires.1.label-below c.requires.1.arc-below c.length.ensures c.length_of.ensures
