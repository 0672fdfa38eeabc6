-- How varied the best choice so far is, if there is one.
use Rattle.std.specs.Prelude.{Option}
use Rattle.products.specs.declared.Fraction.{Fraction}

abbrev pub Best : Type 0
Best = Option Fraction
