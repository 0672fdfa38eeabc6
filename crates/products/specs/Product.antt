-- How large the factors are that are compared.
use Rattle.std.specs.Prelude.{ℕ}

-- A factor has at most 40 bits, so that its cast to a float is exact.
abbrev pub most_factor : ℕ
most_factor = 1099511627776
