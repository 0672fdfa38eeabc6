-- The runs start at 0 and end where all records do. A note for one node more leaves those of the nodes before; what changes other bytes than the notes' leaves all.
use mathlib.Core.Path.{◌≡◌, sym, subst, ◌∙◌}
use mathlib.Core.Bool.{true}
use mathlib.Core.List.{List}
use mathlib.Core.Logic.{⊎_elim}
use Prim.Native.Nat.{ℕ, ◌+◌, ◌-◌, ◌*◌, ◌^◌, ◌≤◌, ◌<◌}
use native.Mathlib.Decide.{ℕ_discrete}
use native.Mathlib.Omega.{arith}
use lib.Dec.{leb}
use lib.ListN.{length}
use borrow.Author.Tests.{le-leb, leb-true, leb-false}
use Rattle.lists.proofs.Cases.{order}
use Rattle.lists.proofs.IndexLaws.{first-le, first-is, first_below, first-at, first-mono}
use Rattle.table.specs.Table.{records}
use Rattle.table.specs.Fault.{table_fault, good}
use Rattle.table.specs.Run.{run_start}
use Rattle.table.proofs.FaultLaws.{all-good}
use Rattle.table.proofs.RunLaws.{run-le, run_past}
use Rattle.working_room.specs.Field.{room_bytes, word_at, put_word}
use Rattle.working_room.proofs.RoomLaws.{word-put, word-put-node}
use Rattle.run_notes.specs.Noted.{LeavingNoted, start_by}

-- ---- where the records of a node start, by either of their nodes

module _ (key : List ℕ → ℕ → ℕ) (t : List ℕ) where
  pub start-begin : start_by key t 0 ≡ 0
  unfolding start_by
  start-begin = first-is (λ i. leb 0 (key t i)) (records t) 0 0 (omega arith) (omega arith) (λ j h g. absurd (omega arith)) (λ h. le-leb 0 (key t 0) (omega arith))

  module _ (v : ℕ) where
    pub start-le : start_by key t v ≤ records t
    unfolding start_by
    start-le = omega (arith, first-le (λ i. leb v (key t i)) (records t) 0)

    pub start-mono : start_by key t v ≤ start_by key t (v + 1)
    unfolding start_by
    start-mono =
        first-mono (λ i. leb v (key t i)) (λ i. leb (v + 1) (key t i)) (records t) 0
        (λ j e. le-leb v (key t j) (omega (arith, leb-true (v + 1) (key t j) e)))

    -- no later than a record at v or above
    pub start-to : (i : ℕ) → v ≤ key t i → start_by key t v ≤ i
    unfolding start_by
    start-to i h =
        ⊎_elim (λ w. w)
        (λ w. absurd (omega (arith, leb-false v (key t i) (first_below (λ i. leb v (key t i)) (records t) 0 i (omega arith) w))))
        (order (start_by key t v) i)

    -- behind a record below v, where it is no earlier than that
    pub start-past : (i : ℕ) → i < records t → i ≤ start_by key t v → key t i < v → i + 1 ≤ start_by key t v
    unfolding start_by
    start-past i h k g =
        ⊎_elim
        (λ w.
        let e : start_by key t v ≡ i = omega arith in
        let at = leb-true v (key t (start_by key t v)) (first-at (λ i. leb v (key t i)) (records t) 0 (omega arith)) in
        absurd (omega (arith, rw e at at)))
        (λ w. omega arith)
        (order (start_by key t v) i)

-- no arc starts past the nodes
pub run_end : (nodes : ℕ) (t : List ℕ) → table_fault nodes t ≡ good → (v : ℕ) → nodes ≤ v → records t ≡ run_start t v
run_end nodes t ok v h =
    ⊎_elim (λ w. omega (arith, run-le t v))
    (λ w.
    let i = records t - 1 in
    let k : i < records t = omega arith in
    omega (arith, run-le t v, run_past nodes t ok v i k (omega (arith, (all-good nodes t ok i k).start))))
    (order (records t) 0)

-- ---- one note more, x of node v at offset o

module _ (o : ℕ) (inside : leb (o + 4) room_bytes ≡ true) (start : ℕ → ℕ) (l : List ℕ) (v x : ℕ) (room : v * room_bytes + room_bytes ≤ length l) (few : x < 2 ^ 32) (is : x ≡ start v)
    (before : (w : ℕ) → w < v → word_at o l w ≡ start w) where
  pub note-more : (m : List ℕ) → m ≡ put_word o l v x → (w : ℕ) → w < v + 1 → word_at o m w ≡ start w
  note-more m e w h = rw e (go (ℕ_discrete w v))
    where
      go : Dec (w ≡ v) → word_at o (put_word o l v x) w ≡ start w
      go (yes y) = subst (λ y. word_at o (put_word o l v x) y ≡ start y) (sym y) (word-put o l v x inside room few ∙ is)
      go (no ne) = word-put-node o l v x inside w ne ∙ before w (omega arith)

-- ---- what leaves the notes

module _ (nodes : ℕ) (t l m : List ℕ) where
  pub leaving-same : ((v : ℕ) → word_at 56 m v ≡ word_at 56 l v) → LeavingNoted nodes t l → LeavingNoted nodes t m
  leaving-same f n = record { at = λ v h. f v ∙ n.at v h }
