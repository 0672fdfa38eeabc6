-- A winner tree over the numbers below n, in order. Blocks have 1, 2, 4, .. numbers; of each two that stand side by side, the second of which begins below n, the
-- number at which the second begins keeps the winner. `le a b`: a does not come after b.
--   side k          == how many numbers a block of level k has
--   First           == a first of a range
--   Joins           == the winner of two blocks is right
--   Tree, TreeBut   == all winners are right; all but those over x
--   Climb, Climbs   == on the way up from x: the winners are right below a level and apart from x
--   Enter, Enters   == on the way up from n, which came in: those from that level on are right without it
--   Block, Narrowed == a block by where it begins and how many numbers it has; its part that matters
use Rattle.std.specs.Prelude.{◌≡◌, ◌⊎◌, ℕ, zero, suc, ◌+◌, ◌*◌, ◌/◌, ◌≤◌, ◌<◌}

unfoldable pub side : ℕ → ℕ
side zero = 1
side (suc k) = 2 * side k

-- w is a first of the numbers from lo to hi that are below n.
pub record First (le : ℕ → ℕ → Type 0) (n lo hi w : ℕ) : Type 0 where
  pub low : lo ≤ w
  pub high : w < hi
  pub used : w < n
  pub least : (j : ℕ) → lo ≤ j → j < hi → j < n → le w j

-- Blocks 2 i and 2 i + 1 of level k have their first where block 2 i + 1 begins.
abbrev pub Joins : (ℕ → ℕ → Type 0) → (ℕ → ℕ) → ℕ → ℕ → ℕ → Type 0
Joins le winner n k i = First le n (2 * i * side k) ((2 * i + 2) * side k) (winner ((2 * i + 1) * side k))

pub record Tree (le : ℕ → ℕ → Type 0) (winner : ℕ → ℕ) (n : ℕ) : Type 0 where
  pub joins : (k i : ℕ) → (2 * i + 1) * side k < n → Joins le winner n k i

-- x is none of the numbers of blocks 2 i and 2 i + 1 of level k.
abbrev pub Apart : ℕ → ℕ → ℕ → Type 0
Apart x k i = (x < 2 * i * side k) ⊎ ((2 * i + 2) * side k ≤ x)

-- The tree but for the winners that x has a part in.
pub record TreeBut (le : ℕ → ℕ → Type 0) (winner : ℕ → ℕ) (n x : ℕ) : Type 0 where
  pub joins : (k i : ℕ) → (2 * i + 1) * side k < n → Apart x k i → Joins le winner n k i

-- The way up from x: w is a first of block m of level k, which x stands in, and the winners below that level are right.
pub record Climb (le : ℕ → ℕ → Type 0) (winner : ℕ → ℕ) (n x k m w : ℕ) : Type 0 where
  pub low : m * side k ≤ x
  pub high : x < m * side k + side k
  pub wins : First le n (m * side k) (m * side k + side k) w
  pub joins : (l i : ℕ) → (2 * i + 1) * side l < n → (l < k) ⊎ Apart x l i → Joins le winner n l i

-- The way up, by how many numbers the block has.
pub record Climbs (le : ℕ → ℕ → Type 0) (winner : ℕ → ℕ) (n x size m w : ℕ) : Type 0 where
  pub level : ℕ
  pub sized : size ≡ side level
  pub climb : Climb le winner n x level m w

-- n came in: the way up from it has come to block m of level k, of which u is a first; from that level on the winners are right among the numbers below n.
pub record Enter (le : ℕ → ℕ → Type 0) (winner : ℕ → ℕ) (n k m u : ℕ) : Type 0 where
  pub climb : Climb le winner (n + 1) n k m u
  pub above : (l i : ℕ) → k ≤ l → (2 * i + 1) * side l < n + 1 → Joins le winner n l i

pub record Enters (le : ℕ → ℕ → Type 0) (winner : ℕ → ℕ) (n size m u : ℕ) : Type 0 where
  pub level : ℕ
  pub sized : size ≡ side level
  pub enter : Enter le winner n level m u

-- A block of s numbers begins at e.
pub record Block (e s : ℕ) : Type 0 where
  pub level : ℕ
  pub number : ℕ
  pub sized : s ≡ side level
  pub place : e ≡ number * side level

-- Of the block of `size` numbers from e on, the block of s from e on has all that are below n, and, if it has more than one number, one in its second half.
pub record Narrowed (n e size s : ℕ) : Type 0 where
  pub block : Block e s
  pub inside : s ≤ size
  pub all : (s ≡ size) ⊎ (n ≤ e + s)
  pub half : (s ≡ 1) ⊎ ((1 < s) × (e + s / 2 < n))
