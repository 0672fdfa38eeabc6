-- A test in the code and the test of the definition that it stands for.
use native.Mathlib.Omega.{arith}
use borrow.Author.Tests.{lt-ltb, le-ltb, eq-eqb, ne_eqb}

pub ruleset tests = (lt-ltb, le-ltb, eq-eqb, ne_eqb, arith)
