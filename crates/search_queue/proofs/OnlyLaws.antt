-- A store into some bytes of some labels, and what it leaves: any number that does not meet these bytes, so the rows of the labels, their chains and overlaps, where
-- only working bytes changed.
use mathlib.Core.Path.{◌≡◌, refl, sym, subst, ap, ◌∙◌}
use mathlib.Core.Logic.{◌⊎◌, inl, inr, ⊎_elim}
use mathlib.Core.Bool.{Bool, true, false, ◌||◌}
use mathlib.Core.List.{List}
use Prim.Native.Nat.{ℕ, zero, suc, ◌+◌, ◌*◌, ◌≤◌, ◌<◌}
use native.Mathlib.Nat.{mul-le-mul_right}
use native.Mathlib.Decide.{ℕ_discrete}
use native.Mathlib.Omega.{arith}
use lib.Dec.{leb}
use lib.ListN.{length}
use borrow.Author.Tests.{le-leb, leb-true}
use Rattle.words.specs.Number.{num, put}
use Rattle.words.proofs.NumberLaws.{length-put}
use Rattle.words.proofs.RecordLaws.{apart, num-put-near, num-put-far, drop-put}
use Rattle.lists.proofs.IndexLaws.{tab-cong}
use Rattle.lists.proofs.LoopLaws.{map-up_from-cong}
use Rattle.net.specs.Net.{Net, Arc}
use Rattle.labels.specs.Field.{label_bytes, head_bytes, most_earlier, last_arc_at, extends_at, length_at, end_at, depth_at, far_at, far_from, far_of, overlap_at, overlaps_at}
use Rattle.labels.specs.Chain.{steps, chain_at, chains_in, label_at, labels_in}
use Rattle.labels.specs.Standing.{Down, Jumping, Comparable, Standing, Holding}
use Rattle.search_queue.specs.Only.{Only}

pub only_same : (o k n : ℕ) (l : List ℕ) → Only o k n l l
only_same o k n l = record { long = refl; field = λ j i p a b. refl; past = refl }

pub only-trans : {o k n : ℕ} {l m r : List ℕ} → Only o k n l m → Only o k n m r → Only o k n l r
only-trans f g = record { long = g.long ∙ f.long; field = λ j i p a b. g.field j i p a b ∙ f.field j i p a b; past = g.past ∙ f.past }

or_cases : (a b : Bool) → (a || b) ≡ true → (a ≡ true) ⊎ (b ≡ true)
or_cases true b h = inl refl
or_cases false b h = inr h

or_right : (a b : Bool) → b ≡ true → (a || b) ≡ true
or_right true b h = refl
or_right false b h = h

-- what changed only in the w bytes from p on changed only in the k bytes from o on, among which those are
pub only-wide : {o k n : ℕ} {l m : List ℕ} (p w : ℕ) → Only p w n l m → leb o p ≡ true → leb (p + w) (o + k) ≡ true → Only o k n l m
only-wide {o} {k} p w f lo hi =
    record {
      long = f.long;
      field = λ j i y a b. f.field j i y
          (⊎_elim
          (λ z. rw (le-leb (y + j) p (omega (arith, leb-true (y + j) o z, leb-true o p lo))))
          (λ z. or_right (leb (y + j) p) (leb (p + w) y) (le-leb (p + w) y (omega (arith, leb-true (o + k) y z, leb-true (p + w) (o + k) hi))))
          (or_cases (leb (y + j) o) (leb (o + k) y) a)) b;
      past = f.past;
    }

-- a store into a field of label x
pub only-put : (o k n : ℕ) (l : List ℕ) (x v : ℕ) → leb (o + k) label_bytes ≡ true → x < n → Only o k n l (put k l (x * label_bytes + o) v)
only-put o k n l x v ho h =
    record {
      long = length-put k l (x * label_bytes + o) v;
      field = λ j i p a b. go j i p a b (ℕ_discrete x i);
      past = drop-put (n * label_bytes) k l (x * label_bytes + o) v
          (omega (arith, leb-true (o + k) label_bytes ho, mul-le-mul_right {m = suc x} {n = n} label_bytes h));
    }
  where
    go : (j i p : ℕ) → apart o k p j ≡ true → leb (p + j) label_bytes ≡ true → Dec (x ≡ i)
        → num j (put k l (x * label_bytes + o) v) (i * label_bytes + p) ≡ num j l (i * label_bytes + p)
    go j i p a b (yes e) =
        subst (λ y. num j (put k l (x * label_bytes + o) v) (y * label_bytes + p) ≡ num j l (y * label_bytes + p)) e (num-put-near k j l (x * label_bytes) o p v a)
    go j i p a b (no ne) = num-put-far label_bytes k j l x i o p v ne ho b

-- ---- what stays where working bytes changed

module _ {n : ℕ} {l m : List ℕ} (o : Only 20 20 n l m) where
  pub last-arc-only : (i : ℕ) → last_arc_at m i ≡ last_arc_at l i
  last-arc-only i = o.field 4 i 0 refl refl

  pub extends-only : (i : ℕ) → extends_at m i ≡ extends_at l i
  extends-only i = o.field 2 i 4 refl refl

  pub far-only : (i : ℕ) → far_at m i ≡ far_at l i
  far-only i = o.field 2 i 6 refl refl

  pub length-only : (i : ℕ) → length_at m i ≡ length_at l i
  length-only i = o.field 8 i 8 refl refl

  pub end-only : (i : ℕ) → end_at m i ≡ end_at l i
  end-only i = o.field 2 i 16 refl refl

  pub depth-only : (i : ℕ) → depth_at m i ≡ depth_at l i
  depth-only i = o.field 2 i 18 refl refl

  -- the overlaps stand behind the head
  pub overlap-only : (i r : ℕ) → r < most_earlier → overlap_at m i r ≡ overlap_at l i r
  overlap-only i r h =
      let p : ℕ = head_bytes + 8 * r in
      o.field 8 i p (or_right (leb (p + 8) 20) (leb 40 p) (le-leb 40 p (omega arith))) (le-leb (p + 8) label_bytes (omega arith))

  pub overlaps-only : (i r : ℕ) → r ≤ most_earlier → overlaps_at m i r ≡ overlaps_at l i r
  overlaps-only i r few = tab-cong r (overlap_at m i) (overlap_at l i) (λ j h. overlap-only i j (omega arith))

  -- the chains
  steps-only : (f i : ℕ) → steps f m i ≡ steps f l i
  unfolding steps
  steps-only zero i = refl
  steps-only (suc f) zero = refl
  steps-only (suc f) (suc i) = rw (extends-only (suc i), last-arc-only (suc i), steps-only f (extends_at l (suc i)))

  pub chain-only : (i : ℕ) → chain_at m i ≡ chain_at l i
  unfolding chain_at
  chain-only i = steps-only i i

  pub chains-only : (k : ℕ) → chains_in m k ≡ chains_in l k
  unfolding chains_in
  chains-only k = map-up_from-cong (chain_at m) (chain_at l) 0 k (λ i a b. chain-only i)

  pub labels-only : (k : ℕ) → labels_in m k ≡ labels_in l k
  unfolding labels_in label_at
  labels-only k = map-up_from-cong (label_at m) (label_at l) 0 k (λ i a b. cc (last-arc-only i, extends-only i))

  -- the rule of far ancestors
  far-from-only : (x : ℕ) → far_from m x ≡ far_from l x
  unfolding far_from
  far-from-only x =
      let e = far-only x in
      let f : far_at m (far_at m x) ≡ far_at l (far_at l x) = far-only (far_at m x) ∙ ap (far_at l) e in
      rw (f, e, depth-only x, depth-only (far_at l x), depth-only (far_at l (far_at l x)))

  pub far-of-only : (i x : ℕ) → far_of m i x ≡ far_of l i x
  unfolding far_of
  far-of-only zero x = refl
  far-of-only (suc i) x = far-from-only x

  -- what is said of the first k labels
  module _ (k : ℕ) where
    pub down-only : Down l k → Down m k
    down-only d = record { room = rw o.long d.room; lower = λ i h ne. rw (extends-only i) (d.lower i h ne) }

    pub jumping-only : Jumping l k → Jumping m k
    jumping-only g =
        record {
          depths = λ i h. depth-only i ∙ g.depths i h ∙ ap length (sym (chain-only i));
          far = λ i h. far-only i ∙ g.far i h ∙ sym (far-of-only i (extends_at l i)) ∙ ap (far_of m i) (sym (extends-only i));
        }

    pub comparable-only : Comparable l k → Comparable m k
    comparable-only c =
        record {
          down = down-only c.down;
          jumping = jumping-only c.jumping;
          once = λ i j hi hj e. c.once i j hi hj (sym (chain-only i) ∙ e ∙ chain-only j);
        }

    pub standing-only : {arcs : List Arc} {s : ℕ} → Standing arcs s l k → Standing arcs s m k
    standing-only st =
        record {
          down = down-only st.down;
          jumping = jumping-only st.jumping;
          few = st.few;
          is-arc = λ i h ne. rw (last-arc-only i) (st.is-arc i h ne);
          lengths = λ i h. rw (length-only i, chain-only i) (st.lengths i h);
          ends = λ i h. rw (end-only i, chain-only i) (st.ends i h);
          short = λ i h. rw (chain-only i) (st.short i h);
          most = λ i h. rw (length-only i) (st.most i h);
        }

    pub holding-only : {net : Net} {earlier : List (List ℕ)} → Holding net earlier l k → Holding net earlier m k
    holding-only {net} {earlier} hold =
        record { few = hold.few; overlaps = λ i h. rw (chain-only i) (overlaps-only i (length earlier) hold.few ∙ hold.overlaps i h) }
