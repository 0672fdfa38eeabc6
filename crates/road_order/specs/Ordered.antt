-- "Arcs may come in any order; ours are put in order of start node, those of one start node staying in file order."
use Rattle.std.specs.Prelude.{cond, List, [], ◌∷◌, leb}
use Rattle.net.specs.Net.{Arc}

-- An arc before the first of those, all behind it in the file, that do not start below it.
unfoldable pub insert_arc : Arc → List Arc → List Arc
insert_arc x [] = x ∷ []
insert_arc x (y ∷ ys) = cond (leb x.from y.from) (x ∷ y ∷ ys) (y ∷ insert_arc x ys)

unfoldable pub ordered : List Arc → List Arc
unfolding insert_arc
ordered [] = []
ordered (x ∷ xs) = insert_arc x (ordered xs)
