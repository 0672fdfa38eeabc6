-- What each case of a read means.
use Rattle.std.proofs.Math.Option.{Option as Maybe, none, some}
use Rattle.std.specs.Prelude.{ℕ, ◌-◌, Option, None, Some}
use Rattle.numerals.specs.Decimal.{Number}
use Rattle.numerals.specs.declared.Numeral.{Numeral}

-- A read from place `at`: the number, and how many bytes it took.
abbrev pub read_of : ℕ → Option Numeral → Maybe Number
read_of at (Some numeral) = some (record { is = numeral.value; takes = numeral.next - at })
read_of at None = none
