-- The start of a search, over lists. Without room for one label it is refused, since what the round counts, at least the empty chain, exceeds the room. With room
-- label 0 is the empty chain: the one live partial route not after it. Nothing here reads code.
use mathlib.Core.Path.{◌≡◌, refl, sym, ap, subst, ◌∙◌}
use mathlib.Core.Logic.{◌≢◌}
use mathlib.Core.List.Memᴰ
use mathlib.Core.List.{List, [], Memᴰ}
use Prim.Native.Nat.{ℕ, ◌-◌, ◌^◌, ◌≤◌, ◌<◌}
use native.Mathlib.Omega.{arith}
use lib.ListN.{length, take, replicate}
use Rattle.lists.specs.Tests.{up_from}
use Rattle.lists.proofs.IndexLaws.{take-replicate}
use Rattle.net.specs.Net.{Net}
use Rattle.net.specs.Route.{end_of}
use Rattle.net.specs.Round.{Query, refused}
use Rattle.net.specs.Labels.{labels}
use Rattle.net.specs.Search.{up_to}
use Rattle.net.proofs.Valid.{Valid}
use Rattle.net.proofs.Guide.{by_length}
use Rattle.net.proofs.Step.{step_start}
use Rattle.net.proofs.Ends.{ends-refused, ends_held}
use Rattle.labels.specs.Field.{label_bytes, most_earlier, no_number, put_row}
use Rattle.labels.specs.Chain.{chains_in, labels_in}
use Rattle.labels.specs.Rows.{overlaps_of, labelled}
use Rattle.labels.proofs.OverlapLaws.{length-overlaps_of, overlaps-empty}
use Rattle.labels.proofs.StoreLaws.{last-arc-same, length-put_row, chains-first, labels-in-first}
use Rattle.labels.proofs.StandingLaws.{empty_row, fits-empty, standing-none, standing-first, holding-first}
use Rattle.labels.proofs.RowLaws.{labelled-first, labelled-none}
use Rattle.search_ask.proofs.CandidateLaws.{last_none}
use Rattle.search_queue.specs.Only.{Only}
use Rattle.search_cursor.specs.Queue.{Queued}
use Rattle.search_clear.proofs.RowsLaws.{only_row}
use Rattle.round_label.specs.declared.Stage.TheVariants.{GoesOn, NoRoom}
use Rattle.round_label.specs.Stage.{guide, Going, Over, Keeps, Searched}
use Rattle.round_label.proofs.StageLaws.{going-only, keeps-only}

-- as many of an array of zeros as there are earlier routes: the overlaps of the empty chain
pub zeros : (net : Net) (earlier : List (List ℕ)) (r : ℕ) → length earlier ≤ most_earlier → length earlier ≡ r → take (r - 0) (replicate most_earlier 0) ≡ overlaps_of net earlier []
zeros net earlier r few e =
    let n : r - 0 ≡ length earlier = omega arith in
    ap (λ k. take k (replicate most_earlier 0)) n ∙ take-replicate (length earlier) most_earlier 0 few ∙ sym (overlaps-empty net earlier)

module _ (q : Query) (earlier : List (List ℕ)) (v : Valid q) (few : length earlier ≤ most_earlier) (l : List ℕ) where
  abbrev opened : List ℕ
  opened = put_row l 0 (empty_row q.net q.s earlier)

  begin-refused : q.room ≡ 0 → Over q earlier l 0 refused
  unfolding chains_in labels_in up_from labels
  begin-refused e =
      let w = ends-refused q earlier v (guide q) (by_length q.net q.s) [] [] (step_start q earlier v (guide q) (by_length q.net q.s)) (λ p m. absurd (Memᴰ.not-nil m)) (sym e) in
      record {
        standing = standing-none q.net.arcs q.s l;
        holding = record { few = few; overlaps = λ i h. absurd (omega arith) };
        ends = w.0;
        chains = sym w.1;
        holds = sym (ends_held q earlier v (guide q) [] w.1);
      }

  begin-going : q.s < 2 ^ 16 → label_bytes ≤ length l → 1 ≤ q.room → q.s ≢ q.t → Going q earlier opened (record { n = 1; last = record { label = 0; arc = no_number }; root = 0; stage = GoesOn })
  unfolding end_of labels
  begin-going s bytes room apart =
      record {
        standing = standing-first q.net q.s earlier l s bytes few;
        holding = holding-first q.net q.s earlier l s bytes few;
        begun = λ e. omega arith;
        fits = room;
        points = record { label-below = λ e. absurd (e refl); arc-below = λ e. absurd (e refl) };
        taken = chains-first opened ∙ step_start q earlier v (guide q) (by_length q.net q.s) ∙ sym (ap (up_to (guide q) q earlier) (last_none opened (record { label = 0; arc = no_number }) refl));
        read = labels-in-first opened (last-arc-same l 0 (empty_row q.net q.s earlier) bytes (fits-empty q.net q.s earlier s few)) ∙ sym (ap labels (chains-first opened));
        short = λ p m e. apart (subst (λ z. end_of q.net.arcs q.s z ≡ q.t) (Memᴰ.eq_of_singleton (subst (Memᴰ p) (chains-first opened) m)) e);
      }

  begin-keeps : Keeps q earlier l 0 opened 1
  unfolding chains_in up_from
  begin-keeps l₀ h =
      let row = empty_row q.net q.s earlier in
      subst (λ z. Only 20 20 1 z opened)
      (ap (λ b. put_row b 0 row) (labelled-none q.net q.s earlier l₀) ∙ sym (labelled-first q.net q.s earlier l₀) ∙ ap (labelled q.net q.s earlier l₀) (sym (chains-first opened)))
      (only_row h row (omega (arith, length-overlaps_of q.net earlier [])))

  pub begun-refused : q.room ≡ 0 → Searched q earlier l l (record { n = 0; last = record { label = 0; arc = no_number }; root = 0; stage = NoRoom })
  begun-refused e = record { long = refl; stage = begin-refused e; keeps = λ l₀ k. k }

  -- its cursor is set
  pub begun_first : (l' : List ℕ) → Only 20 20 1 opened l' → Queued q earlier [] l' 1 0 → q.s < 2 ^ 16 → label_bytes ≤ length l → 1 ≤ q.room → q.s ≢ q.t
      → Searched q earlier l l' (record { n = 1; last = record { label = 0; arc = no_number }; root = 0; stage = GoesOn })
  begun_first l' o qu s bytes room apart =
      record {
        long = o.long ∙ length-put_row l 0 (empty_row q.net q.s earlier);
        stage = (
          going-only o q earlier (record { n = 1; last = record { label = 0; arc = no_number }; root = 0; stage = GoesOn }) (begin-going s bytes room apart),
          subst (λ z. Queued q earlier z l' 1 0) (sym (last_none l' (record { label = 0; arc = no_number }) refl)) qu,
        );
        keeps = λ l₀ h. keeps-only q earlier 1 o l₀ (begin-keeps l₀ h);
      }
