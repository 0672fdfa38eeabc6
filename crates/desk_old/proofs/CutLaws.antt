-- What stands past place c of a text changes nothing of what is due for it, where c lies past every well-formed text: what the text says is the same, and what is due
-- is told by that alone.
use mathlib.Core.Path.{◌≡◌, ap}
use mathlib.Core.List.{List}
use Prim.Native.Nat.{ℕ, ◌≤◌}
use lib.ListN.{length, take}
use Rattle.desk_old_input.proofs.CutLaws.{said-cut}
use Rattle.desk_old.specs.Turned.{turned_for, turned_text}

pub turned-cut : (c : ℕ) (text : List ℕ) → 135246 ≤ c → c ≤ length text → turned_text (take c text) ≡ turned_text text
unfolding turned_text
turned-cut c text h k = ap turned_for (said-cut c text h k)
