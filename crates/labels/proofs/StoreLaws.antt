-- A row stored as label n. Its fields are read back, and those of the labels below it are as they were: a store changes its own bytes only, and two fields lie
-- apart. So the first n labels stand for the chains that they stood for, and label n stands for the chain of the label that it extends and one arc more.
use mathlib.Core.Path.{◌≡◌, refl, ap, ap₂, ◌∙◌}
use mathlib.Core.Bool.{true}
use mathlib.Core.List.{List, [], ◌∷◌, ◌++◌}
use mathlib.Core.Logic.{inl, ⊎_elim}
use Prim.Native.Nat.{ℕ, zero, suc, ◌+◌, ◌*◌, ◌^◌, ◌≤◌, ◌<◌}
use native.Mathlib.Omega.{arith}
use lib.Dec.{leb}
use lib.ListN.{length, get_or, drop}
use lib.Seq.{ext_get_or}
use borrow.Author.Tests.{le-leb, eq-eqb, ne_eqb}
use Rattle.lists.specs.Tests.{up_from}
use Rattle.lists.proofs.Cases.{order}
use Rattle.lists.proofs.IndexLaws.{length-tab, get_or-tab, tab-cong}
use Rattle.lists.proofs.LoopLaws.{map-up_from-more, map-up_from-cong, length-map-up_from, get_or-map-up_from}
use Rattle.words.specs.Number.{num, put}
use Rattle.words.proofs.NumberLaws.{length-put, num-put-other}
use Rattle.words.proofs.RecordLaws.{num-put-near, num-put-in, drop-put}
use Rattle.net.specs.Labels.{start, extend}
use Rattle.labels.specs.Field.{label_bytes, head_bytes, most_earlier, no_number, last_arc_at, extends_at, length_at, end_at, depth_at, far_at, far_of, depth_of, overlap_at, overlaps_at, Row, put_head, puts, put_row}
use Rattle.labels.specs.Chain.{steps, chain_at, chains_in, label_at, labels_in}
use Rattle.labels.specs.Standing.{Down}
use Rattle.labels.proofs.PutsLaws.{length-puts, num-puts-other, drop-puts, num-puts}
use Rattle.labels.proofs.ChainLaws.{chain-empty, chain_more}

-- each number fits its field, and there are no more overlaps than a label holds
pub record Fits (x : Row) : Type 0 where
  pub last-arc : x.last-arc < 2 ^ 32
  pub extends : x.extends < 2 ^ 16
  pub len : x.len < 2 ^ 64
  pub end : x.end < 2 ^ 16
  pub few : length x.overlaps ≤ most_earlier
  pub overlaps : (r : ℕ) → r < length x.overlaps → get_or x.overlaps r 0 < 2 ^ 64

-- as the code stores a head, field by field
pub head-put : (l m₀ m₁ m₂ m₃ m₄ m₅ : List ℕ) (n arc extends far len end depth : ℕ) → far ≡ far_of l n extends → depth ≡ depth_of l n extends
    → m₀ ≡ put 4 l (n * label_bytes + 0) arc → m₁ ≡ put 2 m₀ (n * label_bytes + 4) extends → m₂ ≡ put 2 m₁ (n * label_bytes + 6) far → m₃ ≡ put 8 m₂ (n * label_bytes + 8) len
    → m₄ ≡ put 2 m₃ (n * label_bytes + 16) end → m₅ ≡ put 2 m₄ (n * label_bytes + 18) depth → m₅ ≡ put_head l n arc extends len end
unfolding put_head
head-put l m₀ m₁ m₂ m₃ m₄ m₅ n arc extends far len end depth f d e₀ e₁ e₂ e₃ e₄ e₅ = rw (e₅, e₄, e₃, e₂, e₁, e₀, f, d)

module _ (l : List ℕ) (n : ℕ) (x : Row) where
  abbrev headed : List ℕ
  headed = put_head l n x.last-arc x.extends x.len x.end

  length-put_head : length headed ≡ length l
  unfolding put_head
  length-put_head = simp length-put

  pub length-put_row : length (put_row l n x) ≡ length l
  unfolding put_row
  length-put_row = length-puts headed (n * label_bytes + head_bytes) x.overlaps ∙ length-put_head

  drop-put_head : (m : ℕ) → (n + 1) * label_bytes ≤ m → drop m headed ≡ drop m l
  unfolding put_head
  drop-put_head m h =
      let a : n * label_bytes + 0 + 4 ≤ m = omega arith in
      let b : n * label_bytes + 4 + 2 ≤ m = omega arith in
      let c : n * label_bytes + 6 + 2 ≤ m = omega arith in
      let d : n * label_bytes + 8 + 8 ≤ m = omega arith in
      let e : n * label_bytes + 16 + 2 ≤ m = omega arith in
      let f : n * label_bytes + 18 + 2 ≤ m = omega arith in
      simp drop-put

  pub drop-put_row : length x.overlaps ≤ most_earlier → (m : ℕ) → (n + 1) * label_bytes ≤ m → drop m (put_row l n x) ≡ drop m l
  unfolding put_row
  drop-put_row few m h = drop-puts m headed (n * label_bytes + head_bytes) x.overlaps (omega arith) ∙ drop-put_head m h

  -- as the code stores it: the head, then the overlaps
  pub row_put : (m m' : List ℕ) → m ≡ headed → m' ≡ puts m (n * label_bytes + head_bytes) x.overlaps → m' ≡ put_row l n x
  unfolding put_row
  row_put m m' e e' = e' ∙ ap (λ b. puts b (n * label_bytes + head_bytes) x.overlaps) e

  -- ---- the label stored

  -- the overlaps lie behind the head
  in_head : (k o : ℕ) → o + k ≤ head_bytes → num k (put_row l n x) (n * label_bytes + o) ≡ num k headed (n * label_bytes + o)
  unfolding put_row
  in_head k o h = num-puts-other k headed (n * label_bytes + head_bytes) x.overlaps (n * label_bytes + o) (inl (omega arith))

  module _ (room : n * label_bytes + label_bytes ≤ length l) (f : Fits x) where
    fits_in : leb (n * label_bytes + label_bytes) (length l) ≡ true
    fits_in = le-leb (n * label_bytes + label_bytes) (length l) room

    pub last-arc-same : last_arc_at (put_row l n x) n ≡ x.last-arc
    unfolding put_head
    last-arc-same = in_head 4 0 (omega arith) ∙ simp (num-put-near, num-put-in label_bytes, fits_in, f.last-arc)

    pub extends-same : extends_at (put_row l n x) n ≡ x.extends
    unfolding put_head
    extends-same = in_head 2 4 (omega arith) ∙ simp (num-put-near, num-put-in label_bytes, length-put, fits_in, f.extends)

    pub length-same : length_at (put_row l n x) n ≡ x.len
    unfolding put_head
    length-same = in_head 8 8 (omega arith) ∙ simp (num-put-near, num-put-in label_bytes, length-put, fits_in, f.len)

    pub end_same : end_at (put_row l n x) n ≡ x.end
    unfolding put_head
    end_same = in_head 2 16 (omega arith) ∙ simp (num-put-near, num-put-in label_bytes, length-put, fits_in, f.end)

    pub far-same : far_of l n x.extends < 2 ^ 16 → far_at (put_row l n x) n ≡ far_of l n x.extends
    unfolding put_head
    far-same h = in_head 2 6 (omega arith) ∙ simp (num-put-near, num-put-in label_bytes, length-put, fits_in, h)

    pub depth_same : depth_of l n x.extends < 2 ^ 16 → depth_at (put_row l n x) n ≡ depth_of l n x.extends
    unfolding put_head
    depth_same h = in_head 2 18 (omega arith) ∙ simp (num-put-in label_bytes, length-put, fits_in, h)

    pub overlaps-same : overlaps_at (put_row l n x) n (length x.overlaps) ≡ x.overlaps
    unfolding put_row
    overlaps-same =
        ext_get_or 0 (overlaps_at (put_row l n x) n (length x.overlaps)) x.overlaps (length-tab (length x.overlaps) (overlap_at (put_row l n x) n))
        (λ r h.
        let b : r < length x.overlaps = omega (arith, length-tab (length x.overlaps) (overlap_at (put_row l n x) n)) in
        let e : n * label_bytes + (head_bytes + 8 * r) ≡ n * label_bytes + head_bytes + 8 * r = omega arith in
        get_or-tab (length x.overlaps) (overlap_at (put_row l n x) n) r 0 b ∙ ap (num 8 (put_row l n x)) e
        ∙ num-puts headed (n * label_bytes + head_bytes) x.overlaps r b (omega (arith, length-put_head, f.few)) f.overlaps)

  -- ---- a label below it

  module _ (i : ℕ) (below : i < n) where
    -- a field of it
    pub as_before : (k o : ℕ) → o + k ≤ label_bytes → num k (put_row l n x) (i * label_bytes + o) ≡ num k l (i * label_bytes + o)
    unfolding put_row put_head
    as_before k o h =
        num-puts-other k headed (n * label_bytes + head_bytes) x.overlaps (i * label_bytes + o) (inl (omega arith))
        ∙ num-put-other 2 k _ (n * label_bytes + 18) (i * label_bytes + o) (depth_of l n x.extends) (inl (omega arith))
        ∙ num-put-other 2 k _ (n * label_bytes + 16) (i * label_bytes + o) x.end (inl (omega arith))
        ∙ num-put-other 8 k _ (n * label_bytes + 8) (i * label_bytes + o) x.len (inl (omega arith))
        ∙ num-put-other 2 k _ (n * label_bytes + 6) (i * label_bytes + o) (far_of l n x.extends) (inl (omega arith))
        ∙ num-put-other 2 k _ (n * label_bytes + 4) (i * label_bytes + o) x.extends (inl (omega arith))
        ∙ num-put-other 4 k l (n * label_bytes + 0) (i * label_bytes + o) x.last-arc (inl (omega arith))

    pub last-arc-other : last_arc_at (put_row l n x) i ≡ last_arc_at l i
    last-arc-other = as_before 4 0 (omega arith)

    pub extends-other : extends_at (put_row l n x) i ≡ extends_at l i
    extends-other = as_before 2 4 (omega arith)

    pub length-other : length_at (put_row l n x) i ≡ length_at l i
    length-other = as_before 8 8 (omega arith)

    pub end-other : end_at (put_row l n x) i ≡ end_at l i
    end-other = as_before 2 16 (omega arith)

    pub far-other : far_at (put_row l n x) i ≡ far_at l i
    far-other = as_before 2 6 (omega arith)

    pub depth-other : depth_at (put_row l n x) i ≡ depth_at l i
    depth-other = as_before 2 18 (omega arith)

    pub overlaps-other : (r : ℕ) → r ≤ most_earlier → overlaps_at (put_row l n x) i r ≡ overlaps_at l i r
    overlaps-other r few = tab-cong r (overlap_at (put_row l n x) i) (overlap_at l i) (λ j h. as_before 8 (head_bytes + 8 * j) (omega arith))

  -- ---- the label read as a label of the theory

  label_at-other : (i : ℕ) → i < n → label_at (put_row l n x) i ≡ label_at l i
  unfolding label_at
  label_at-other i h = cc (last-arc-other i h, extends-other i h)

  pub labels-in-more : n * label_bytes + label_bytes ≤ length l → Fits x → (x.last-arc ≡ no_number → ⊥)
      → labels_in (put_row l n x) (n + 1) ≡ labels_in l n ++ (extend x.extends x.last-arc ∷ [])
  unfolding labels_in label_at
  labels-in-more room f ne =
      map-up_from-more (label_at (put_row l n x)) n
      ∙ ap₂ ◌++◌ (map-up_from-cong (label_at (put_row l n x)) (label_at l) 0 n (λ i a b. label_at-other i (omega arith)))
      (rw (last-arc-same room f, extends-same room f, ne_eqb x.last-arc no_number ne))

pub labels-in-first : (l : List ℕ) → last_arc_at l 0 ≡ no_number → labels_in l 1 ≡ start ∷ []
unfolding labels_in label_at up_from
labels-in-first l e = rw (eq-eqb (last_arc_at l 0) no_number e)

-- ---- the chains

pub chains-first : (l : List ℕ) → chains_in l 1 ≡ [] ∷ []
unfolding chains_in up_from
chains-first l = ap (λ p. p ∷ []) (chain-empty l)

pub length-chains_in : (l : List ℕ) (n : ℕ) → length (chains_in l n) ≡ n
unfolding chains_in
length-chains_in l n = length-map-up_from (chain_at l) 0 n

pub get_or-chains_in : (l : List ℕ) (n i : ℕ) → i < n → get_or (chains_in l n) i [] ≡ chain_at l i
unfolding chains_in
get_or-chains_in l n i h =
    let e : 0 + i ≡ i = omega arith in
    rw e at (get_or-map-up_from (chain_at l) 0 n i [] h)

module _ {l : List ℕ} {n : ℕ} (x : Row) (d : Down l n) where
  steps-other : (f i : ℕ) → i < n → steps f (put_row l n x) i ≡ steps f l i
  unfolding steps
  steps-other zero i h = refl
  steps-other (suc f) zero h = refl
  steps-other (suc f) (suc i) h =
      let w : extends_at l (suc i) < suc i = d.lower (suc i) h (λ e. omega arith) in
      rw (extends-other l n x (suc i) h, last-arc-other l n x (suc i) h, steps-other f (extends_at l (suc i)) (omega arith))

  pub chain-other : (i : ℕ) → i < n → chain_at (put_row l n x) i ≡ chain_at l i
  unfolding chain_at
  chain-other i h = steps-other i i h

  pub down-more : n * label_bytes + label_bytes ≤ length l → Fits x → ((n ≡ 0 → ⊥) → x.extends < n) → Down (put_row l n x) (n + 1)
  down-more room f low =
      record {
        room = rw length-put_row (omega arith);
        lower = λ i h ne. ⊎_elim
            (λ w.
            let e : i ≡ n = omega arith in
            rw (e, extends-same l n x room f) (low (λ z. ne (omega arith))))
            (λ w. rw (extends-other l n x i w) (d.lower i w ne))
            (order n i);
      }

  module _ (room : n * label_bytes + label_bytes ≤ length l) (f : Fits x) (ne : n ≡ 0 → ⊥) (low : x.extends < n) where
    -- the chain of the label stored
    pub chain-new : chain_at (put_row l n x) n ≡ chain_at l x.extends ++ (x.last-arc ∷ [])
    chain-new =
        chain_more (down-more room f (λ z. low)) n (omega arith) ne ∙ rw (extends-same l n x room f, last-arc-same l n x room f, chain-other x.extends low)

    pub chains-more : chains_in (put_row l n x) (n + 1) ≡ chains_in l n ++ ((chain_at l x.extends ++ (x.last-arc ∷ [])) ∷ [])
    unfolding chains_in
    chains-more =
        map-up_from-more (chain_at (put_row l n x)) n
        ∙ ap₂ ◌++◌ (map-up_from-cong (chain_at (put_row l n x)) (chain_at l) 0 n (λ i a b. chain-other i (omega arith))) (ap (λ p. p ∷ []) chain-new)
