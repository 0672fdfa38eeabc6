-- What a round leaves behind.
use Rattle.std.specs.Prelude.{◌≡◌, List, [], ℕ, ◌+◌, ◌*◌, ◌<◌, length, get_or, take}
use Rattle.net.specs.Route.{length_of}
use Rattle.net.specs.Round.{Query, counted, Ending, answered, unanswered, refused, ending}
use Rattle.net.specs.Labels.{held}
use Rattle.words.specs.Part.{patch}
use Rattle.labels.specs.Chain.{slot_of, labels_in}
use Rattle.labels.specs.Field.{overlaps_at}
use Rattle.labels.specs.Rows.{overlaps_of, labelled}
use Rattle.search_clear.specs.Clear.{clear_work}
use Rattle.round.specs.declared.Ended.{Ended}
use Rattle.round.specs.declared.Ended.TheVariants.{Answer, NoAnswer, Refused}

-- The case of each ending of the theory.
unfoldable pub shown : Query → Ending → Ended
unfolding length_of
shown q (answered p n) = Answer (length_of q.net.arcs p) (length p) n
shown q (unanswered n) = NoAnswer n
shown q refused = Refused

-- The route area after round r, from 0: the answer stands in its own slot of w words, every other word is untouched.
unfoldable pub area_after : ℕ → ℕ → List ℕ → Ending → List ℕ
unfolding patch
area_after w r area (answered p n) = patch (r * w) (r * w + w) area (slot_of w p)
area_after w r area (unanswered n) = area
area_after w r area refused = area

-- What round r of a query leaves: how it ended; the labels, "when a round ends and before its labels are cleared", each by its last arc and the label it extends,
-- and with "its overlap with each earlier route"; every byte of the label buffer, where the working bytes of those labels are zero; and the route area.
pub record Rounded (q : Query) (earlier : List (List ℕ)) (w r : ℕ) (area area' labels labels' : List ℕ) (x : Ended) : Type 0 where
  pub ends : x ≡ shown q (ending q earlier)
  pub holds : labels_in labels' (length (held q earlier)) ≡ held q earlier
  pub overlaps : (i : ℕ) → i < length (held q earlier) → overlaps_at labels' i (length earlier) ≡ overlaps_of q.net earlier (get_or (counted q earlier) i [])
  pub bytes : labels' ≡ clear_work (length (held q earlier)) (labelled q.net q.s earlier labels (take q.room (counted q earlier)))
  pub slot : area' ≡ area_after w r area (ending q earlier)
