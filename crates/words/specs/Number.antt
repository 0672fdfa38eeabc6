-- Numbers in bytes, little-endian, at any width.
use Rattle.std.specs.Prelude.{List, [], ◌∷◌, ◌++◌, ℕ, zero, suc, ◌+◌, ◌*◌, ◌/◌, ◌%◌, ◌^◌, get_or, set}

-- the number that the k bytes from `at` hold
unfoldable pub num : ℕ → List ℕ → ℕ → ℕ
num zero l at = 0
num (suc k) l at = num k l at + get_or l (at + k) 0 * 2 ^ (8 * k)

-- l with the k bytes from `at` holding v
unfoldable pub put : ℕ → List ℕ → ℕ → ℕ → List ℕ
put zero l at v = l
put (suc k) l at v = set (put k l at v) (at + k) (v / 2 ^ (8 * k) % 256)

-- the k bytes that hold v
unfoldable pub bytes_of : ℕ → ℕ → List ℕ
bytes_of zero v = []
bytes_of (suc k) v = bytes_of k v ++ (v / 2 ^ (8 * k) % 256 ∷ [])
