-- A row stored as label n keeps what stands while a search goes on: the chains' lengths, ends and overlaps, the numbers of their arcs, and the far ancestors,
-- which the rule finds among labels that are as they were.
use mathlib.Core.Path.{◌≡◌, refl, sym, ap, ◌∙◌}
use mathlib.Core.List.{List, [], ◌∷◌, ◌++◌}
use mathlib.Core.Logic.{⊎_elim}
use Prim.Native.Nat.{ℕ, ◌+◌, ◌*◌, ◌^◌, ◌≤◌, ◌<◌}
use native.Mathlib.Omega.{arith}
use native.Mathlib.Decide.{ℕ_discrete}
use lib.ListN.{length, length-append}
use Rattle.lists.proofs.Cases.{order}
use Rattle.net.specs.Net.{Arc, Net}
use Rattle.net.specs.Route.{end_of, length_of}
use Rattle.net.specs.Limits.{most_nodes, most_length, most_labels}
use Rattle.net.specs.Labels.{place_of}
use Rattle.net.proofs.Sorted.{Increasing}
use Rattle.net.proofs.Labels.{place_of-get_or}
use Rattle.labels.specs.Field.{label_bytes, most_earlier, no_number, extends_at, length_at, depth_at, far_at, far_from, far_of, depth_of, overlaps_at, Row, put_row}
use Rattle.labels.specs.Chain.{chain_at, chains_in}
use Rattle.labels.specs.Rows.{overlaps_of}
use Rattle.labels.specs.Standing.{Down, Jumping, Comparable, Standing, Holding}
use Rattle.labels.proofs.OverlapLaws.{length-overlaps_of, overlaps-most}
use Rattle.labels.proofs.ChainLaws.{chain-none, chain-short}
use Rattle.labels.proofs.FarLaws.{far-first, far-later, depth-first, depth-later, far-le, from_le}
use Rattle.labels.proofs.StoreLaws.{Fits, length-put_row, last-arc-same, extends-same, length-same, end_same, far-same, depth_same, overlaps-same, last-arc-other, extends-other, length-other, end-other, far-other, depth-other, overlaps-other, chain-other, chain-new, down-more, length-chains_in, get_or-chains_in}

-- what holds of the labels below n and of label n
below_next : {P : ℕ → Type 0} (n : ℕ) → ((i : ℕ) → i < n → P i) → P n → (i : ℕ) → i < n + 1 → P i
below_next {P} n h k i b = ⊎_elim (λ w. let e : i ≡ n = omega arith in rw e k) (λ w. h i w) (order n i)

-- ---- far ancestors and numbers of arcs

module _ {l : List ℕ} {n : ℕ} (x : Row) (d : Down l n) (g : Jumping l n) where
  abbrev m : List ℕ
  m = put_row l n x

  from-other : (i : ℕ) → i < n → far_from m i ≡ far_from l i
  unfolding far_from
  from-other i h =
      let j = far_at l i in
      let hj : j < n = omega (arith, far-le d g i h) in
      let hk : far_at l j < n = omega (arith, far-le d g j hj) in
      rw (far-other l n x i h, far-other l n x j hj, depth-other l n x i h, depth-other l n x j hj, depth-other l n x (far_at l j) hk)

  of_other : (i : ℕ) → i < n → far_of m i (extends_at m i) ≡ far_of l i (extends_at l i)
  of_other i h = go (ℕ_discrete i 0)
    where
      go : Dec (i ≡ 0) → far_of m i (extends_at m i) ≡ far_of l i (extends_at l i)
      go (yes z) = far-first m i (extends_at m i) z ∙ sym (far-first l i (extends_at l i) z)
      go (no ne) =
          far-later m i (extends_at m i) ne ∙ ap (far_from m) (extends-other l n x i h) ∙ from-other (extends_at l i) (omega (arith, d.lower i h ne))
          ∙ sym (far-later l i (extends_at l i) ne)

  pub jumping-more : n * label_bytes + label_bytes ≤ length l → n < most_labels → (n ≡ 0 → ⊥) → Fits x → x.extends < n → Jumping m (n + 1)
  jumping-more room few ne f low =
      let e = x.extends in
      let deep : depth_of l n e ≡ length (chain_at l e) + 1 = depth-later l n e ne ∙ ap (λ k. k + 1) (g.depths e low) in
      let far : far_of l n e ≡ far_from l e = far-later l n e ne in
      record {
        depths = below_next n (λ i b. rw (depth-other l n x i b, chain-other x d i b) (g.depths i b))
            (depth_same l n x room f (omega (arith, deep, chain-short l e)) ∙ deep ∙ sym (ap length (chain-new x d room f ne low) ∙ length-append (chain_at l e) (x.last-arc ∷ [])));
        far = below_next n (λ i b. far-other l n x i b ∙ g.far i b ∙ sym (of_other i b))
            (far-same l n x room f (omega (arith, far, from_le d g e low)) ∙ far ∙ sym (from-other e low)
            ∙ ap (far_from m) (sym (extends-same l n x room f)) ∙ sym (far-later m n (extends_at m n) ne));
      }

pub jumping-first : (l : List ℕ) (x : Row) → label_bytes ≤ length l → Fits x → Jumping (put_row l 0 x) 1
jumping-first l x room f =
    let m = put_row l 0 x in
    let deep : depth_of l 0 x.extends ≡ 0 = depth-first l 0 x.extends refl in
    let far : far_of l 0 x.extends ≡ 0 = far-first l 0 x.extends refl in
    record {
      depths = λ i b.
          let e : i ≡ 0 = omega arith in
          ap (depth_at m) e ∙ depth_same l 0 x (omega arith) f (omega (arith, deep)) ∙ deep ∙ sym (ap length (chain-none m i e));
      far = λ i b.
          let e : i ≡ 0 = omega arith in
          ap (far_at m) e ∙ far-same l 0 x (omega arith) f (omega (arith, far)) ∙ far ∙ sym (far-first m i (extends_at m i) e);
    }

-- ---- what stands

-- the row of the empty chain from s
abbrev pub empty_row : Net → ℕ → List (List ℕ) → Row
empty_row net s earlier = record { last-arc = no_number; extends = 0; len = 0; end = s; overlaps = overlaps_of net earlier [] }

pub fits-empty : (net : Net) (s : ℕ) (earlier : List (List ℕ)) → s < 2 ^ 16 → length earlier ≤ most_earlier → Fits (empty_row net s earlier)
unfolding length_of
fits-empty net s earlier h few =
    record {
      last-arc = omega arith;
      extends = omega arith;
      len = omega arith;
      end = h;
      few = omega (arith, length-overlaps_of net earlier []);
      overlaps = λ r b. omega (arith, overlaps-most net earlier [] r);
    }

pub standing-none : (arcs : List Arc) (s : ℕ) (l : List ℕ) → Standing arcs s l 0
standing-none arcs s l =
    record {
      down = record { room = omega arith; lower = λ i h. absurd (omega arith) };
      jumping = record { depths = λ i h. absurd (omega arith); far = λ i h. absurd (omega arith) };
      few = omega arith;
      is-arc = λ i h. absurd (omega arith);
      lengths = λ i h. absurd (omega arith);
      ends = λ i h. absurd (omega arith);
      short = λ i h. absurd (omega arith);
      most = λ i h. absurd (omega arith);
    }

module _ (net : Net) (s : ℕ) (earlier : List (List ℕ)) (l : List ℕ) (h : s < 2 ^ 16) (g : label_bytes ≤ length l) (few : length earlier ≤ most_earlier) where
  abbrev x : Row
  x = empty_row net s earlier

  room : 0 * label_bytes + label_bytes ≤ length l
  room = omega arith

  none : (i : ℕ) → i < 1 → chain_at (put_row l 0 x) i ≡ []
  none i b = chain-none (put_row l 0 x) i (omega arith)

  pub standing-first : Standing net.arcs s (put_row l 0 x) 1
  unfolding length_of end_of
  standing-first =
      let f = fits-empty net s earlier h few in
      let len : length_at (put_row l 0 x) 0 ≡ 0 = length-same l 0 x room f in
      record {
        down = record { room = rw length-put_row (omega arith); lower = λ i b ne. absurd (ne (omega arith)) };
        jumping = jumping-first l x g f;
        few = omega arith;
        is-arc = λ i b ne. absurd (ne (omega arith));
        lengths = λ i b. let e : i ≡ 0 = omega arith in rw (none i b, e) len;
        ends = λ i b. let e : i ≡ 0 = omega arith in rw (none i b, e) (end_same l 0 x room f);
        short = λ i b. rw (none i b) (omega arith);
        most = λ i b. let e : i ≡ 0 = omega arith in rw e (omega (arith, len));
      }

  pub holding-first : Holding net earlier (put_row l 0 x) 1
  holding-first =
      let f = fits-empty net s earlier h few in
      record {
        few = few;
        overlaps = λ i b.
            let e : i ≡ 0 = omega arith in
            rw (none i b, e) (ap (overlaps_at (put_row l 0 x) 0) (sym (length-overlaps_of net earlier [])) ∙ overlaps-same l 0 x room f);
      }

pub standing-more : {arcs : List Arc} {s : ℕ} {l : List ℕ} {n : ℕ} (x : Row) → Standing arcs s l n → n * label_bytes + label_bytes ≤ length l → n < most_labels → (n ≡ 0 → ⊥)
    → Fits x → x.extends < n → x.last-arc < length arcs
    → x.len ≡ length_of arcs (chain_at l x.extends ++ (x.last-arc ∷ [])) → x.end ≡ end_of arcs s (chain_at l x.extends ++ (x.last-arc ∷ []))
    → length (chain_at l x.extends ++ (x.last-arc ∷ [])) < most_nodes → x.len ≤ most_nodes * most_length → Standing arcs s (put_row l n x) (n + 1)
standing-more {arcs} {s} {l} {n} x st room few ne f low arc len end short most =
    let m = put_row l n x in
    let new : chain_at m n ≡ chain_at l x.extends ++ (x.last-arc ∷ []) = chain-new x st.down room f ne low in
    let old : (i : ℕ) → i < n → chain_at m i ≡ chain_at l i = chain-other x st.down in
    record {
      down = down-more x st.down room f (λ z. low);
      jumping = jumping-more x st.down st.jumping room few ne f low;
      few = omega arith;
      is-arc = below_next n (λ i b z. rw (last-arc-other l n x i b) (st.is-arc i b z)) (λ z. rw (last-arc-same l n x room f) arc);
      lengths = below_next n (λ i b. rw (length-other l n x i b, old i b) (st.lengths i b)) (rw (length-same l n x room f, new) len);
      ends = below_next n (λ i b. rw (end-other l n x i b, old i b) (st.ends i b)) (rw (end_same l n x room f, new) end);
      short = below_next n (λ i b. rw (old i b) (st.short i b)) (rw new short);
      most = below_next n (λ i b. rw (length-other l n x i b) (st.most i b)) (rw (length-same l n x room f) most);
    }

pub holding-more : {net : Net} {earlier : List (List ℕ)} {l : List ℕ} {n : ℕ} (x : Row) → Down l n → Holding net earlier l n → n * label_bytes + label_bytes ≤ length l
    → (n ≡ 0 → ⊥) → Fits x → x.extends < n → x.overlaps ≡ overlaps_of net earlier (chain_at l x.extends ++ (x.last-arc ∷ [])) → Holding net earlier (put_row l n x) (n + 1)
holding-more {net} {earlier} {l} {n} x d hold room ne f low os =
    let new = chain-new x d room f ne low in
    let k : length earlier ≡ length x.overlaps = sym (ap length os ∙ length-overlaps_of net earlier (chain_at l x.extends ++ (x.last-arc ∷ []))) in
    record {
      few = hold.few;
      overlaps = below_next n (λ i b. rw (chain-other x d i b) (overlaps-other l n x i b (length earlier) hold.few ∙ hold.overlaps i b))
          (rw new (ap (overlaps_at (put_row l n x) n) k ∙ overlaps-same l n x room f ∙ os));
    }

-- in the order of a search no two chains are one
pub comparable-increasing : (f : List ℕ → ℕ) {arcs : List Arc} {s : ℕ} {l : List ℕ} {n : ℕ} → Standing arcs s l n → Increasing f (chains_in l n) → Comparable l n
comparable-increasing f {arcs} {s} {l} {n} st inc =
    let ps = chains_in l n in
    let place : (i : ℕ) → i < n → place_of (chain_at l i) ps ≡ i =
    λ i h. ap (λ p. place_of p ps) (sym (get_or-chains_in l n i h)) ∙ place_of-get_or f ps inc i (omega (arith, length-chains_in l n)) in
    record { down = st.down; jumping = st.jumping; once = λ i j hi hj e. sym (place i hi) ∙ ap (λ p. place_of p ps) e ∙ place j hj }
