-- A node more is `blank-more`; at the end no number has a mark.
use Rattle.pair_marks.proofs.MarkLaws.{blank_none, blank-more, blank-kept, blank-added}
use Rattle.pair_marks.proofs.blank.Goals as goal

pub loop-v-init : goal.loop-v-init
loop-v-init c = blank_none _

pub loop-v-preserved : goal.loop-v-preserved
loop-v-preserved c =
    blank-more _ _ _ _ c.requires c.loop-v-test.true c.loop-v.invariant _ _ c.put_word.ensures c.put_word-in-loop-v.ensures

pub returns : goal.returns
returns c =
    let blank = c.loop-v.invariant in
    let past = c.loop-v-test.false in
    (blank.within, blank-kept c.args.n _ _ _ past blank, blank-added c.args.n _ _ _ past blank)
