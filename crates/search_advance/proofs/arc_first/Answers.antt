-- The lengths of both are compared first, and at equal length their numbers.
use Rattle.search_advance.proofs.OwnLaws.{arc-apart, arc-even}
use Rattle.search_advance.proofs.arc_first.Goals as goal

pub returns-then-l-m : goal.returns-then-l-m
returns-then-l-m c = arc-apart _ _ _ _ _ c.requires.0 c.requires.1 c.length_of-l.ensures c.length_of-m.ensures c.if-l-m.true

pub returns : goal.returns
returns c = arc-even _ _ _ _ _ c.requires.0 c.requires.1 c.length_of-l.ensures c.length_of-m.ensures c.if-l-m.false
