-- A test in the code and the test of the definition that it stands for.
use native.Mathlib.Omega.{arith}
use borrow.Author.Tests.{le-leb, lt-leb, eq-eqb, ne_eqb}

pub ruleset tests = (le-leb, lt-leb, eq-eqb, ne_eqb, arith)
