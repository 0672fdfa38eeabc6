-- What each end of a write has to show. A table is good or it is not, it has a road number or it has none, and its text fits the buffer or it does not, so of the four
-- cases of `Written` the other three ask nothing; and what one of them says of the answer and the buffer leaves no choice. A text at the front of a buffer is that text
-- and then what followed.
use mathlib.Core.Path.{◌≡◌, refl, sym, ap, ◌∙◌}
use mathlib.Core.List.{List, ◌++◌}
use mathlib.Core.Logic.{◌≢◌, ⊎_elim}
use Prim.Native.Nat.{ℕ, ◌+◌, ◌≤◌, ◌<◌}
use native.Mathlib.Nat.{zero-add}
use native.Mathlib.Omega.{arith}
use lib.Dec.{eqb}
use lib.ListN.{length, drop}
use borrow.Author.Tests.{eqb-true, eqb-false}
use Rattle.lists.proofs.Cases.{cases, order}
use Rattle.std.proofs.Common.{Result, Ok, Err}
use Rattle.outcome.specs.declared.Told.{Told}
use Rattle.outcome.specs.declared.Refusal.{Refusal}
use Rattle.outcome.specs.Outcome.{buffers, numbered, plain, beside, told_of as told_by_refusal}
use Rattle.outcome.proofs.OutcomeLaws.{refused_not_zero}
use Rattle.words.specs.Part.{patch}
use Rattle.text_put.specs.Put.{Appended}
use Rattle.table.specs.Table.{records}
use Rattle.table.specs.Fault.{table_fault, good}
use Rattle.table.proofs.FaultLaws.{told-good}
use Rattle.road_made.specs.declared.Made.{Made}
use Rattle.road_made.specs.Made.{told_of, bytes_made, nodes_made, Unchanged}
use Rattle.road_write.specs.Written.{text_of, first_road, Written}
use Rattle.road_write.proofs.RoadLaws.{road-le}

-- a text at the front
front : (l x : List ℕ) → patch 0 (0 + length x) l x ≡ x ++ drop (length x) l
unfolding patch
front l x = rw zero-add

module _ (nodes : ℕ) (t text : List ℕ) where
  pub written-faulty : (refusal : Refusal) → told_by_refusal refusal ≡ table_fault nodes t → Written nodes t text (Err (told_by_refusal refusal)) text
  written-faulty refusal e =
      let no : table_fault nodes t ≢ good = λ g. refused_not_zero refusal (ap (λ x. x.outcome) (e ∙ g)) in
      record {
        faulty = λ f. record { told_is = e; bytes-is = refl; nodes-is = refl; area-is = refl };
        on-roads = λ g h. absurd (no g);
        small = λ g n h. absurd (no g);
        done = λ g n h. absurd (no g);
      }

  module _ (g : table_fault nodes t ≡ good) where
    pub written-on-roads : (told : Told) → told ≡ beside numbered (first_road t) → first_road t < records t → Written nodes t text (Err told) text
    written-on-roads told e h = record {
      faulty = λ f. absurd (f g);
      on-roads = λ k w. record { told_is = e; bytes-is = refl; nodes-is = refl; area-is = refl };
      small = λ k n w. absurd (omega arith);
      done = λ k n w. absurd (omega arith);
    }

    module _ (none : first_road t ≡ records t) where
      pub written_small : (told : Told) → told ≡ plain buffers → length text < length (text_of nodes t) → Written nodes t text (Err told) text
      written_small told e h = record {
        faulty = λ f. absurd (f g);
        on-roads = λ k w. absurd (omega arith);
        small = λ k n w. record { told_is = e; bytes-is = refl; nodes-is = refl; area-is = refl };
        done = λ k n w. absurd (omega arith);
      }

      pub written-done : (text' : List ℕ) (r : ℕ) → length (text_of nodes t) ≤ length text → Appended text 0 (text_of nodes t) text' r
          → Written nodes t text (Ok (record { bytes = r; nodes = 0 })) text'
      written-done text' r h a = record {
        faulty = λ f. absurd (f g);
        on-roads = λ k w. absurd (omega arith);
        small = λ k n w. absurd (omega arith);
        done = λ k n w. record { told_is = refl; bytes-is = a.place ∙ zero-add (length (text_of nodes t)); nodes-is = refl; area-is = a.is ∙ front text (text_of nodes t) };
      }

-- two refusals with one outcome
unchanged-same : (told : Told) (text : List ℕ) (a b : Result Made Told) (x y : List ℕ) → Unchanged told text a x → Unchanged told text b y
    → (told_of a ≡ told_of b) × (bytes_made a ≡ bytes_made b) × (nodes_made a ≡ nodes_made b) × (x ≡ y)
unchanged-same told text a b x y p q = (p.told_is ∙ sym q.told_is, p.bytes-is ∙ sym q.bytes-is, p.nodes-is ∙ sym q.nodes-is, p.area-is ∙ sym q.area-is)

-- two writes of one table into one buffer tell the same, and leave the same
pub written_same : (nodes : ℕ) (t text : List ℕ) (a b : Result Made Told) (x y : List ℕ) → Written nodes t text a x → Written nodes t text b y
    → (told_of a ≡ told_of b) × (bytes_made a ≡ bytes_made b) × (nodes_made a ≡ nodes_made b) × (x ≡ y)
written_same nodes t text a b x y v w =
    ⊎_elim
    (λ e.
    let g = told-good nodes t (eqb-true _ _ e) in
    ⊎_elim
    (λ n.
    let none : first_road t ≡ records t = omega (arith, road-le t) in
    ⊎_elim
    (λ h.
    let p = v.done g none h in
    let q = w.done g none h in
    (p.told_is ∙ sym q.told_is, p.bytes-is ∙ sym q.bytes-is, p.nodes-is ∙ sym q.nodes-is, p.area-is ∙ sym q.area-is))
    (λ h. unchanged-same (plain buffers) text a b x y (v.small g none h) (w.small g none h))
    (order (length (text_of nodes t)) (length text)))
    (λ n. unchanged-same (beside numbered (first_road t)) text a b x y (v.on-roads g n) (w.on-roads g n))
    (order (records t) (first_road t)))
    (λ e.
    let f : table_fault nodes t ≢ good = λ z. eqb-false (table_fault nodes t).outcome 0 e (ap (λ k. k.outcome) z) in
    unchanged-same (table_fault nodes t) text a b x y (v.faulty f) (w.faulty f))
    (cases (eqb (table_fault nodes t).outcome 0))
