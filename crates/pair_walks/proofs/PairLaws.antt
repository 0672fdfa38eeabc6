-- The two walks by the marks are the pair. By induction over the arcs that may still come: the walk by the first route's marks comes to t (`First`), and what it leaves
-- over is the walk by the others' (`Second`).
use mathlib.Core.Path.{◌≡◌, sym, ap, subst, ◌∙◌}
use mathlib.Core.List.Memᴰ
use mathlib.Core.List.{List, [], ◌∷◌, ◌++◌, append-nil, append_assoc}
use Prim.Native.Nat.{ℕ, zero, suc, pred, ◌+◌, ◌-◌, ◌≤◌, ◌<◌}
use mathlib.Core.Option.{some}
use mathlib.Core.Bool.{true, false}
use native.Mathlib.Omega.{arith}
use native.Mathlib.Decide.{ℕ_discrete}
use lib.Dec.{T}
use lib.ListN.{length, take, drop, length-append}
use Rattle.lists.specs.Tests.{lex}
use Rattle.net.specs.Net.{Net, arc}
use Rattle.net.specs.Route.{numbers_first, precedes}
use Rattle.net.proofs.Valid.{Sound}
use Rattle.table.specs.Table.{arcs_of, net_of}
use Rattle.table.specs.Fault.{table_fault, good}
use Rattle.table.proofs.FaultLaws.{good-size}
use Rattle.table.proofs.NetLaws.{arcs-length, table-sound}
use Rattle.node_queue.specs.Queue.{Roomy}
use Rattle.distances.proofs.Walks.{open-arcs}
use Rattle.pair.specs.Walked.{Both, Marks, Kept, Added, First, Second, Taken, pick}
use Rattle.pair.proofs.Walking.{first-start, first-room, first_step, first-end, second-room, second-step, second-end}
use Rattle.pair.proofs.Least.{taken-after, taken-first}
use Rattle.pair.proofs.Walking.{taken-total}
use Rattle.reach.specs.Stand.{dist_in}
use Rattle.pair_room.specs.Room.{none, again, kept_in, added_in}
use Rattle.pair_room.specs.Stages.{dist_of, Settled}
use Rattle.pair_walks.specs.declared.Ways.{Ways}
use Rattle.pair_walks.specs.Way.{following, Arrives, way_in, Walking, Written, Paired}
use Rattle.pair_walks.proofs.FollowLaws.{follow-end, follow-more}
use Rattle.pair_walks.proofs.SlotsLaws.{written-order, written-anew}

module _ (net : Net) (s t : ℕ) (sound : Sound net) (s-below : s < net.nodes) (π parent : ℕ → ℕ) (P : List ℕ) (d parent₂ : ℕ → ℕ) (R : List ℕ) (both : Both net s t π parent P d parent₂ R)
    (none : ℕ) (past : length net.arcs ≤ none) (out₁ out₂ : ℕ → ℕ) (kept : Marks net.arcs none (Kept P R) out₁) (added : Marks net.arcs none (Added P R) out₂) where
  abbrev ours : ℕ → ℕ
  ours v = pick none (out₁ v) (out₂ v)

  abbrev theirs : ℕ → ℕ
  theirs v = pick none (out₂ v) (out₁ v)

  -- one arc more, behind what was walked
  behind : (W : List ℕ) (a : ℕ) (r l : List ℕ) → l ≡ a ∷ r → (W ++ (a ∷ [])) ++ r ≡ W ++ l
  behind W a r l e = append_assoc W (a ∷ []) r ∙ ap (λ x. W ++ x) (sym e)

  longer : (W : List ℕ) (a f : ℕ) → length W + suc f ≡ pred net.nodes → length (W ++ (a ∷ [])) + f ≡ pred net.nodes
  longer W a f h = omega (arith, length-append W (a ∷ []))

  -- ---- the first walk

  first-here : (f v : ℕ) (W : List ℕ) → v ≡ t → First net s t P R v W → First net s t P R t (W ++ following net.arcs ours t f v)
  first-here f v W e k =
      subst (First net s t P R t) (sym (ap (λ x. W ++ x) (follow-end net.arcs ours t f v e) ∙ append-nil W)) (subst (λ u. First net s t P R u W) e k)

  first-all : (f v : ℕ) (W : List ℕ) → length W + f ≡ pred net.nodes → First net s t P R v W → First net s t P R t (W ++ following net.arcs ours t f v)
  first-all zero v W h k = go (ℕ_discrete v t)
    where
      go : Dec (v ≡ t) → First net s t P R t (W ++ following net.arcs ours t 0 v)
      go (yes e) = first-here 0 v W e k
      go (no n) = absurd (omega (arith, first-room net s t sound π parent P d parent₂ R both none past out₁ out₂ kept added v W k n s-below))
  first-all (suc f) v W h k =
      go (ℕ_discrete v t) (λ n. first-all f (arc net.arcs (ours v)).to (W ++ (ours v ∷ [])) (longer W (ours v) f h) (first_step net s t sound π parent P d parent₂ R both none past out₁ out₂ kept added v W k n))
    where
      go : Dec (v ≡ t) → ((v ≡ t → ⊥) → First net s t P R t ((W ++ (ours v ∷ [])) ++ following net.arcs ours t f (arc net.arcs (ours v)).to))
          → First net s t P R t (W ++ following net.arcs ours t (suc f) v)
      go (yes e) m = first-here (suc f) v W e k
      go (no n) m = subst (First net s t P R t) (behind W (ours v) _ _ (follow-more net.arcs ours t f v n)) (m n)

  abbrev one : List ℕ
  one = following net.arcs ours t (net.nodes - 1) s

  walks-one : First net s t P R t one
  walks-one = first-all (net.nodes - 1) s [] (omega arith) (first-start net s t sound π parent P d parent₂ R both)

  pub one-arrives : Arrives net.arcs ours t (net.nodes - 1) s
  one-arrives =
      let w = walks-one in
      record { ends = w.at; inside = λ a m. (open-arcs net s (one ++ w.rest) w.walked.W-chain a (Memᴰ.append_left w.rest m)).0 }

  -- ---- the second

  second-here : (f v : ℕ) (X : List ℕ) → v ≡ t → Second net s t P R one v X → Second net s t P R one t (X ++ following net.arcs theirs t f v)
  second-here f v X e k =
      subst (Second net s t P R one t) (sym (ap (λ x. X ++ x) (follow-end net.arcs theirs t f v e) ∙ append-nil X)) (subst (λ u. Second net s t P R one u X) e k)

  second-all : (f v : ℕ) (X : List ℕ) → length X + f ≡ pred net.nodes → Second net s t P R one v X → Second net s t P R one t (X ++ following net.arcs theirs t f v)
  second-all zero v X h k = go (ℕ_discrete v t)
    where
      go : Dec (v ≡ t) → Second net s t P R one t (X ++ following net.arcs theirs t 0 v)
      go (yes e) = second-here 0 v X e k
      go (no n) = absurd (omega (arith, second-room net s t sound π parent P d parent₂ R both none past out₁ out₂ kept added one v X k n s-below))
  second-all (suc f) v X h k =
      go (ℕ_discrete v t) (λ n. second-all f (arc net.arcs (theirs v)).to (X ++ (theirs v ∷ [])) (longer X (theirs v) f h) (second-step net s t sound π parent P d parent₂ R both none past out₁ out₂ kept added one v X k n))
    where
      go : Dec (v ≡ t) → ((v ≡ t → ⊥) → Second net s t P R one t ((X ++ (theirs v ∷ [])) ++ following net.arcs theirs t f (arc net.arcs (theirs v)).to))
          → Second net s t P R one t (X ++ following net.arcs theirs t (suc f) v)
      go (yes e) m = second-here (suc f) v X e k
      go (no n) m = subst (Second net s t P R one t) (behind X (theirs v) _ _ (follow-more net.arcs theirs t f v n)) (m n)

  abbrev two : List ℕ
  two = following net.arcs theirs t (net.nodes - 1) s

  walks-two : Second net s t P R one t two
  walks-two = second-all (net.nodes - 1) s [] (omega arith) (first-end net s t sound π parent P d parent₂ R both none past out₁ out₂ kept added one walks-one)

  pub two-arrives : Arrives net.arcs theirs t (net.nodes - 1) s
  two-arrives =
      let w = walks-two in
      record { ends = w.at; inside = λ a m. (open-arcs net s (two ++ w.rest) w.walked.other-chain a (Memᴰ.append_left w.rest m)).0 }

  -- ---- together

  pub both-taken : Taken net s t (π t + π t + d t) one two
  both-taken = second-end net s t sound π parent P d parent₂ R both none past out₁ out₂ kept added one two walks-two

-- ---- in the room and in the slots

module _ (t closed : List ℕ) (n s goal : ℕ) (ok : table_fault n t ≡ good) (below : s < n) (l : List ℕ) (roomy : Roomy n l) (z : Settled (net_of n t closed) s goal l) where
  abbrev net : Net
  net = net_of n t closed

  past : length (arcs_of t) ≤ none
  past = omega (arith, (good-size n t ok).3, arcs-length t)

  pub walk-one : Walking t n s goal l 36 40
  walk-one =
      record {
        no-fault = ok;
        roomy = roomy;
        s-below = below;
        own_in = omega arith;
        other-in = omega arith;
        arrives = one-arrives net s goal (table-sound n t ok closed) below _ _ z.P _ _ z.R z.both none past (kept_in n l) (added_in n l) z.kept z.added;
      }

  pub walk-two : Walking t n s goal l 40 36
  walk-two =
      record {
        no-fault = ok;
        roomy = roomy;
        s-below = below;
        own_in = omega arith;
        other-in = omega arith;
        arrives = two-arrives net s goal (table-sound n t ok closed) below _ _ z.P _ _ z.R z.both none past (kept_in n l) (added_in n l) z.kept z.added;
      }

  abbrev p : List ℕ
  p = way_in t n s goal l 36 40

  abbrev q : List ℕ
  q = way_in t n s goal l 40 36

  -- the walks are a pair of least total, in either order
  abbrev least : ℕ
  least = dist_of net l goal + dist_of net l goal + dist_in again n l goal

  taken : Taken net s goal least p q
  unfolding way_in
  taken = both-taken net s goal (table-sound n t ok closed) below _ _ z.P _ _ z.R z.both none past (kept_in n l) (added_in n l) z.kept z.added

  module _ (differ : s ≡ goal → ⊥) (area a₁ : List ℕ) (x : Ways) (w : Written (arcs_of t) (n - 1) p q area a₁ x) where
    in_order : lex x.second.length x.first.length (numbers_first (take x.second.arcs (drop (n - 1) a₁)) (take x.first.arcs a₁)) ≡ precedes (arcs_of t) q p
    in_order = written-order (arcs_of t) (n - 1) p q area a₁ x w

    -- the other does not precede
    pub pair-stays : lex x.second.length x.first.length (numbers_first (take x.second.arcs (drop (n - 1) a₁)) (take x.first.arcs a₁)) ≡ false → Paired net s goal area a₁ x
    pair-stays h =
        record {
          p = p;
          q = q;
          least = taken-first net s goal least p q taken differ (λ y. subst T (sym in_order ∙ h) y);
          total = taken-total net s goal below (table-sound n t ok closed) differ least p q taken ∙ ap some (sym taken.is-long);
          written = w;
        }

    -- it does: the slots are written anew
    pub pair-turned : lex x.second.length x.first.length (numbers_first (take x.second.arcs (drop (n - 1) a₁)) (take x.first.arcs a₁)) ≡ true
        → (a₂ : List ℕ) (y : Ways) → Written (arcs_of t) (n - 1) q p a₁ a₂ y → Paired net s goal area a₂ y
    pair-turned h a₂ y v =
        record {
          p = q;
          q = p;
          least = taken-after net s goal least p q taken (subst T (sym (sym in_order ∙ h)) tt);
          total = taken-total net s goal below (table-sound n t ok closed) differ least p q taken ∙ ap some (omega (arith, taken.is-long));
          written = written-anew (arcs_of t) (n - 1) p q area a₁ x w a₂ y v;
        }
