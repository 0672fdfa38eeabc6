-- None has the rank below all.
use mathlib.Core.Path.{sym, ◌∙◌}
use Rattle.search_advance.proofs.RankLaws.{rank-none, rank-some}
use Rattle.search_advance.proofs.rank_from.Statement.{statement}
use Rattle.search_advance.proofs.rank_from.Tie as tie

returns : tie.Need-returns-then-from-eq-NO_ARC
returns c = sym (rank-none _ _ c.if-from-eq-NO_ARC.true)

rank-of-requires : tie.Need-rank_of-requires
rank-of-requires c κs = let s = c in (s.requires.0 c.if-from-eq-NO_ARC.false, s.requires.1)

returns-2 : tie.Need-returns
returns-2 c = c.rank_of.ensures ∙ sym (rank-some _ _ c.if-from-eq-NO_ARC.false)

pub rank_from_spec : {M : Type 1} → statement M
rank_from_spec = tie.close (tie.spec returns rank-of-requires returns-2)
