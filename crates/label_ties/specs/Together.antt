-- Rule 3's "compared from the start as numbers", for two lists of one length.
use Rattle.std.specs.Prelude.{List, [], ◌∷◌, Bool, ℕ}
use Rattle.lists.specs.Tests.{lex}

-- The first two numbers that differ decide; where all are equal, `after` does: what stands behind the lists.
unfoldable pub together : List ℕ → List ℕ → Bool → Bool
unfolding lex
together [] q after = after
together (a ∷ p) [] after = after
together (a ∷ p) (b ∷ q) after = lex a b (together p q after)
