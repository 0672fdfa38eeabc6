-- The lists of a search's labels, with their heads in the round's own slot of the route area.
use Rattle.std.specs.Prelude.{◌≡◌, List, ℕ, ◌+◌, ◌*◌, ◌≤◌, length, take, drop, replicate}
use Rattle.words.specs.Part.{slot}
use Rattle.labels.specs.Field.{no_number}
use Rattle.search_ask.specs.declared.Ask.{Ask}
use Rattle.search_ask.specs.Ask.{width}
use Rattle.search_lists.specs.Listed.{Listed}
use Rattle.search_lists.specs.Run.{Runs}
use Rattle.round_label.specs.declared.State.{State}
use Rattle.round_label.specs.declared.Stage.TheVariants.{GoesOn}

-- Slot r of w words is in the area, and blank.
pub record Blank (w r : ℕ) (area : List ℕ) : Type 0 where
  pub room : r * w + w ≤ length area
  pub blank : slot w r area ≡ replicate w no_number

-- Of the area no words but those of slot r have changed.
pub record ButSlot (w r : ℕ) (area area' : List ℕ) : Type 0 where
  pub long : length area' ≡ length area
  pub front : take (r * w) area' ≡ take (r * w) area
  pub back : drop (r * w + w) area' ≡ drop (r * w + w) area

-- While the search goes on its labels are listed, and have their runs; after r earlier answers nothing but slot r of the area is used for that.
pub record Listing (ask : Ask) (table : List ℕ) (r : ℕ) (area area' labels : List ℕ) (x : State) : Type 0 where
  pub around : ButSlot (width ask) r area area'
  pub listed : x.stage ≡ GoesOn → Listed ask r area' labels x.n
  pub runs : x.stage ≡ GoesOn → Runs table labels x.n
