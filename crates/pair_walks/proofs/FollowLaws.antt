-- A walk by marks, arc by arc: what is written and what is yet to come are the whole walk, and while it is not at t there is an arc to go on by.
use mathlib.Core.Path.{◌≡◌, refl, sym, ap, ap₂, subst, ◌∙◌}
use mathlib.Core.List.{List, [], ◌∷◌, ◌++◌, append-nil, append_assoc, Memᴰ}
use mathlib.Core.Bool.{Bool, true, false, cond}
use Prim.Native.Nat.{ℕ, zero, suc, ◌+◌, ◌-◌, ◌*◌, ◌≤◌, ◌<◌}
use native.Mathlib.Omega.{arith}
use lib.Dec.{eqb}
use lib.ListN.{length, set, take, drop, replicate}
use lib.Seq.{take-suc-set, drop-length, take_at, drop_at, drop-drop}
use borrow.Author.Tests.{eq-eqb, ne_eqb}
use Rattle.net.specs.Net.{Arc, arc}
use Rattle.net.specs.Limits.{most_nodes, most_length}
use Rattle.net.specs.Route.{end_of, length_of}
use Rattle.net.proofs.Lengths.{length_of-most}
use Rattle.table.specs.Table.{records, to_at, len_at, arcs_of}
use Rattle.table.specs.Fault.{table_fault, good}
use Rattle.table.proofs.FaultLaws.{all-good, good-size}
use Rattle.table.proofs.NetLaws.{arcs-length, arc-is, len-most}
use Rattle.words.specs.Part.{patch}
use Rattle.labels.specs.Field.{no_number}
use Rattle.labels.specs.Chain.{slot_of}
use Rattle.round.proofs.EarlierLaws.{length-slot_of}
use Rattle.query_rounds.specs.Area.{area_with}
use Rattle.working_room.specs.Field.{word_at}
use Rattle.pair.specs.Walked.{pick}
use Rattle.pair_room.specs.Room.{none}
use Rattle.pair_room.proofs.RoomLaws.{mark-node}
use Rattle.pair_walks.specs.Way.{following, Arrives, next_in}

-- the arc picked at a node
pub next-is : (own other n : ℕ) (l : List ℕ) (v : ℕ) → v < n → next_in own other n l v ≡ pick none (word_at own l v) (word_at other l v)
next-is own other n l v h = ap₂ (pick none) (mark-node own n l v h) (mark-node other n l v h)

pub pick-none : (a b : ℕ) → a ≡ none → pick none a b ≡ b
unfolding pick
pick-none a b e = rw (eq-eqb a none e)

pub pick_some : (a b : ℕ) → (a ≡ none → ⊥) → pick none a b ≡ a
unfolding pick
pick_some a b n = rw (ne_eqb a none n)

module _ (arcs : List Arc) (next : ℕ → ℕ) (t : ℕ) where
  pub follow-end : (f v : ℕ) → v ≡ t → following arcs next t f v ≡ []
  unfolding following
  follow-end zero v e = refl
  follow-end (suc f) v e = rw (eq-eqb v t e)

  pub follow-more : (f v : ℕ) → (v ≡ t → ⊥) → following arcs next t (suc f) v ≡ next v ∷ following arcs next t f (arc arcs (next v)).to
  unfolding following
  follow-more f v n = rw (ne_eqb v t n)

  pub follow-short : (f v : ℕ) → length (following arcs next t f v) ≤ f
  unfolding following
  follow-short zero v = omega arith
  follow-short (suc f) v = go (eqb v t) (follow-short f (arc arcs (next v)).to)
    where
      go : (b : Bool) → length (following arcs next t f (arc arcs (next v)).to) ≤ f → length (cond b [] (next v ∷ following arcs next t f (arc arcs (next v)).to)) ≤ suc f
      go true h = omega arith
      go false h = omega arith

  -- a step of the walk, where f may still come: one less after it
  pub record Goes (f g v : ℕ) : Type 0 where
    pub some : f ≡ suc g
    pub is-arc : next v < length arcs
    pub joins : following arcs next t f v ≡ next v ∷ following arcs next t g (arc arcs (next v)).to
    pub on : Arrives arcs next t g (arc arcs (next v)).to

  pub follow-on : (f g v : ℕ) → g ≡ f - 1 → (v ≡ t → ⊥) → Arrives arcs next t f v → Goes f g v
  unfolding end_of following
  follow-on zero g v e n a = absurd (n a.ends)
  follow-on (suc f) g v e n a =
      let z : f ≡ g = omega arith in
      subst (λ y. Goes (suc f) y v) z (record { some = refl; is-arc = inside (next v) (Memᴰ.head refl); joins = j; on = record { ends = ends; inside = λ x m. inside x (Memᴰ.tail m) } })
    where
      rest : List ℕ
      rest = following arcs next t f (arc arcs (next v)).to

      j : following arcs next t (suc f) v ≡ next v ∷ rest
      j = follow-more f v n

      ends : end_of arcs (arc arcs (next v)).to rest ≡ t
      ends = sym (ap (end_of arcs v) j) ∙ a.ends

      inside : (x : ℕ) → Memᴰ x (next v ∷ rest) → x < length arcs
      inside x m = a.inside x (subst (Memᴰ x) (sym j) m)

  -- none is written yet
  pub follow-all : (f v : ℕ) → following arcs next t (f - 0) v ≡ following arcs next t f v
  follow-all f v = let e : f - 0 ≡ f = omega arith in ap (λ g. following arcs next t g v) e

  pub arrive-all : (f v : ℕ) → Arrives arcs next t f v → Arrives arcs next t (f - 0) v
  arrive-all f v a = let e : f ≡ f - 0 = omega arith in subst (λ g. Arrives arcs next t g v) e a

pub no_length : (arcs : List Arc) (p : List ℕ) → p ≡ [] → length_of arcs p ≡ 0
unfolding length_of
no_length arcs p e = ap (length_of arcs) e

-- ---- in the loop: k arcs are written

module _ (t : List ℕ) (n goal : ℕ) (l : List ℕ) (own other : ℕ) (ok : table_fault n t ≡ good) (k v : ℕ) where
  abbrev next : ℕ → ℕ
  next = next_in own other n l

  abbrev ahead : ℕ → ℕ → List ℕ
  ahead j u = following (arcs_of t) next goal (n - 1 - j) u

  -- a turn: the arc picked, a, leads to w
  pub record Step (a w : ℕ) : Type 0 where
    pub room : k < n - 1
    pub is-arc : a < records t
    pub below : w < n
    pub joins : ahead k v ≡ a ∷ ahead (k + 1) w
    pub longer : length_of (arcs_of t) (ahead k v) ≡ len_at t a + length_of (arcs_of t) (ahead (k + 1) w)
    pub on : Arrives (arcs_of t) next goal (n - 1 - (k + 1)) w

  module _ (below : v < n) (away : v ≡ goal → ⊥) (arrives : Arrives (arcs_of t) next goal (n - 1 - k) v) (a : ℕ) (e : a ≡ pick none (word_at own l v) (word_at other l v)) where
    goes : Goes (arcs_of t) next goal (n - 1 - k) (n - 1 - (k + 1)) v
    goes = follow-on (arcs_of t) next goal (n - 1 - k) (n - 1 - (k + 1)) v (omega arith) away arrives

    next-a : next v ≡ a
    next-a = next-is own other n l v below ∙ sym e

    pub step-arc : a < records t
    step-arc = omega (arith, goes.is-arc, next-a, arcs-length t)

    pub step-on : (w : ℕ) → w ≡ to_at t a → Step a w
    unfolding length_of
    step-on w i =
        let g = goes in
        let z : (arc (arcs_of t) (next v)).to ≡ w = ap (λ y. (arc (arcs_of t) y).to) next-a ∙ ap (λ y. y.to) (arc-is t a step-arc) ∙ sym i in
        let j : ahead k v ≡ a ∷ ahead (k + 1) w = g.joins ∙ ap₂ (λ x y. x ∷ following (arcs_of t) next goal (n - 1 - (k + 1)) y) next-a z in
        record {
          room = omega (arith, g.some);
          is-arc = step-arc;
          below = omega (arith, i, (all-good n t ok a step-arc).end);
          joins = j;
          longer = ap (length_of (arcs_of t)) j ∙ ap (λ y. y.len + length_of (arcs_of t) (ahead (k + 1) w)) (arc-is t a step-arc);
          on = subst (Arrives (arcs_of t) next goal (n - 1 - (k + 1))) z g.on;
        }

-- the arc picked is written behind the k before it
pub write-one : (p q : List ℕ) (a : ℕ) (s : List ℕ) (k : ℕ) → q ≡ a ∷ p → k < length s → take (k + 1) (set s k a) ++ p ≡ take k s ++ q
write-one p q a s k e h =
    let n : k + 1 ≡ suc k = omega arith in
    ap (λ j. take j (set s k a) ++ p) n ∙ ap (λ x. x ++ p) (take-suc-set s k a h) ∙ append_assoc (take k s) (a ∷ []) p ∙ ap (λ x. take k s ++ x) (sym e)

-- nothing is yet to come
pub write-end : (p s r : List ℕ) (k : ℕ) → p ≡ [] → take k s ++ p ≡ r → take k s ≡ r
write-end p s r k e h = sym (ap (λ x. take k s ++ x) e ∙ append-nil (take k s)) ∙ h

-- a walk of n - 1 arcs at most is short
pub way-length : (t : List ℕ) (n : ℕ) → table_fault n t ≡ good → (p : List ℕ) → length p ≤ n - 1 → length_of (arcs_of t) p ≤ most_nodes * most_length
way-length t n ok p h = let a = good-size n t ok in omega (arith, length_of-most (arcs_of t) most_length (len-most n t ok) p, a.1)

-- the walk is written, and the rest of the slot filled
pub slot-filled : (p s₁ s₂ : List ℕ) (k n : ℕ) → k ≡ length p → length s₁ ≡ n → take k s₁ ≡ p → s₂ ≡ patch k (length s₁) s₁ (replicate (length s₁ - k) no_number) → s₂ ≡ slot_of n p
unfolding patch
slot-filled p s₁ s₂ k n e h g z =
    let d : length s₁ - k ≡ n - length p = omega arith in
    z ∙ ap₂ ◌++◌ g (ap₂ ◌++◌ (ap (λ m. replicate m no_number) d) (drop-length s₁) ∙ append-nil (replicate (n - length p) no_number))

-- two routes put into the first two slots
pub two-slots : (w : ℕ) (p q area a₁ a₂ : List ℕ) → length p ≤ w → 2 * w ≤ length area → a₁ ≡ patch (0 * w) (0 * w + w) area (slot_of w p) → a₂ ≡ patch (1 * w) (1 * w + w) a₁ (slot_of w q)
    → a₂ ≡ area_with w 2 area (p ∷ q ∷ [])
unfolding patch area_with
two-slots w p q area a₁ a₂ fits h e₁ e₂ =
    let z : 0 * w ≡ 0 = omega arith in
    let y : 0 * w + w ≡ w = omega arith in
    let x : 1 * w ≡ w = omega arith in
    let v : 1 * w + w ≡ w + w = omega arith in
    let u : w + w ≡ 2 * w = omega arith in
    let n = length-slot_of w p fits in
    let b₁ : a₁ ≡ slot_of w p ++ drop w area = e₁ ∙ ap₂ (λ i j. take i area ++ (slot_of w p ++ drop j area)) z y in
    let b₂ : a₂ ≡ take w a₁ ++ (slot_of w q ++ drop (w + w) a₁) = e₂ ∙ ap₂ (λ i j. take i a₁ ++ (slot_of w q ++ drop j a₁)) x v in
    let f : take w a₁ ≡ slot_of w p = ap (take w) b₁ ∙ take_at (slot_of w p) (drop w area) w n in
    let g : drop (w + w) a₁ ≡ drop (2 * w) area = ap (drop (w + w)) b₁ ∙ sym (drop-drop w w (slot_of w p ++ drop w area)) ∙ ap (drop w) (drop_at (slot_of w p) (drop w area) w n) ∙ drop-drop w w area ∙ ap (λ i. drop i area) u in
    b₂ ∙ ap₂ (λ i j. i ++ (slot_of w q ++ j)) f g ∙ sym (append_assoc (slot_of w p) (slot_of w q) (drop (2 * w) area)) ∙ ap (λ i. (slot_of w p ++ i) ++ drop (2 * w) area) (sym (append-nil (slot_of w q)))
