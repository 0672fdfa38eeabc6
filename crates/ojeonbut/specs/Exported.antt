-- The version of the exported calls. What each of them answers is said by the definitions of the calls inside.
use Rattle.std.specs.Prelude.{ℕ}

-- It goes up with every change that a caller can see.
abbrev pub version : ℕ
version = 10
