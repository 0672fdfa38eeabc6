-- A small filter over the roads that the earlier answers drive: one bit for each of some thousand places, by an arc's key. A bit that is not set says that no
-- earlier answer drives the arc's road; one that is set says nothing.
use Rattle.std.specs.Prelude.{◌≡◌, Bool, true, cond, ℕ, ◌/◌, ◌%◌, ◌^◌, ◌<◌, ltb, eqb, length, get_or, set}
use mathlib.Core.List.{List, [], ◌∷◌, Memᴰ}
use Rattle.std.specs.Int.Bits.{bit_or}
use Rattle.net.specs.Net.{driven}
use Rattle.table.specs.Table.{records, road_at, roads_of}

abbrev pub mark_words : ℕ
mark_words = 32

abbrev pub mark_bits : ℕ
mark_bits = 2048

-- An arc's key: its road number, or its own where it is a road of its own. Arcs of one road have one key.
unfoldable pub key_at : List ℕ → ℕ → ℕ
key_at t a = cond (eqb (road_at t a) 0) a (road_at t a)

abbrev pub place_at : List ℕ → ℕ → ℕ
place_at t a = key_at t a % mark_bits

-- Bit h is set; bit h set.
unfoldable pub marked : List ℕ → ℕ → Bool
marked marks h = eqb (get_or marks (h / 64) 0 / 2 ^ (h % 64) % 2) 1

unfoldable pub with_mark : List ℕ → ℕ → List ℕ
with_mark marks h = set marks (h / 64) (bit_or (get_or marks (h / 64) 0) (2 ^ (h % 64)))

-- The bits of all words that are numbers of arcs set.
unfoldable pub with_marks : List ℕ → List ℕ → List ℕ → List ℕ
unfolding with_mark key_at
with_marks t [] marks = marks
with_marks t (x ∷ words) marks = with_marks t words (cond (ltb x (records t)) (with_mark marks (place_at t x)) marks)

-- Each arc whose road an earlier answer drives has its bit set.
pub record Filter (t : List ℕ) (earlier : List (List ℕ)) (marks : List ℕ) : Type 0 where
  pub long : length marks ≡ mark_words
  pub marks-all : (a : ℕ) → a < records t → (p : List ℕ) → Memᴰ p earlier → driven (roads_of t) p a ≡ true → marked marks (place_at t a) ≡ true
