-- What a line is that ends with given bytes after a state: once it is spoilt it is other, whatever follows. A line that comes in parts is scanned as it is whole.
use mathlib.Core.Path.{◌≡◌, refl, ap, ◌∙◌}
use mathlib.Core.List.{List, [], ◌∷◌, ◌++◌}
use Prim.Native.Nat.{ℕ}
use Rattle.road_line.specs.Line.{Line, other}
use Rattle.road_line.specs.Scan.{start_of, expected_at, unknown, numbered, commented, whole_as, started, spoilt, scan_byte, scan_from, scanned, read_of}
use Rattle.road_line.specs.declared.Scan.{Scan}

-- the line that ends with l, from the state x on
abbrev pub ending : Scan → List ℕ → Line
ending x l = read_of (scan_from x l)

pub other-stays : (l : List ℕ) → ending spoilt l ≡ other
unfolding scan_from scan_byte unknown numbered commented expected_at start_of read_of whole_as
other-stays [] = refl
other-stays (b ∷ l) = other-stays l

pub moves : {x y : Scan} (l : List ℕ) → x ≡ y → ending x l ≡ ending y l
moves l e = ap (λ z. ending z l) e

pub spoils : {x : Scan} (l : List ℕ) → x ≡ spoilt → ending x l ≡ other
spoils l e = moves l e ∙ other-stays l

-- ---- a text in parts

scan-more : (x : Scan) (l : List ℕ) (b : ℕ) → scan_from x (l ++ (b ∷ [])) ≡ scan_byte (scan_from x l) b
unfolding scan_from
scan-more x [] b = refl
scan-more x (d ∷ l) b = scan-more (scan_byte x d) l b

pub scanned-more : (l : List ℕ) (b : ℕ) → scanned (l ++ (b ∷ [])) ≡ scan_byte (scanned l) b
scanned-more l b = scan-more started l b
