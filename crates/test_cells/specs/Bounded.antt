-- Sums and products that stay at a bound, so that no test program's number wraps; and parts that stay within a list.
use Rattle.std.specs.Prelude.{◌&&◌, cond, List, [], ℕ, ◌+◌, ◌-◌, ◌*◌, ltb, leb, length, take, drop}

-- 2 ^ 40, far above every true sum of a test program.
abbrev pub most_sum : ℕ
most_sum = 1099511627776

-- 2 ^ 32, above both factors of every product of a test program.
abbrev pub most_factor : ℕ
most_factor = 4294967296

unfoldable pub sum : ℕ → ℕ → ℕ
sum a b = cond (ltb a most_sum && ltb b most_sum) (a + b) most_sum

unfoldable pub product : ℕ → ℕ → ℕ
product a b = cond (ltb a most_factor && ltb b most_factor) (a * b) 18446744073709551615

unfoldable pub part : List ℕ → ℕ → ℕ → List ℕ
part l i e = cond (leb i e && leb e (length l)) (take (e - i) (drop i l)) []
