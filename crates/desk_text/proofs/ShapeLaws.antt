-- The rounds of a query, by induction over the rounds still to make: each one is answered, and the rest follows, or it is the last. An answered route ends at t, which is
-- not s, so it has an arc; and it is simple, so it has fewer arcs than there are nodes.
use mathlib.Core.Path.{◌≡◌, refl, sym, subst}
use mathlib.Core.List.{List, [], ◌∷◌, ◌++◌, Memᴰ}
use Prim.Native.Nat.{ℕ, zero, suc, ◌-◌, ◌≤◌, ◌<◌}
use native.Mathlib.Omega.{arith}
use lib.ListN.{length}
use Rattle.net.specs.Route.{end_of, length_of}
use Rattle.net.specs.Round.{Query, Ending, answered, unanswered, refused, ending}
use Rattle.net.specs.Outcome.{go_on, rounds_by, rounds, answers}
use Rattle.net.proofs.Valid.{Valid}
use Rattle.net.proofs.Answer.{answer-some}
use Rattle.net.proofs.Ends.{ending-answered}
use Rattle.labels.specs.Field.{no_number}
use Rattle.round.proofs.EarlierLaws.{answered-short}
use Rattle.desk_text.specs.Print.{Shape}

module _ (q : Query) (v : Valid q) (apart : q.s ≡ q.t → ⊥) where
  answered-some : (earlier : List (List ℕ)) (p : List ℕ) (n : ℕ) → ending q earlier ≡ answered p n → 1 ≤ length p
  unfolding end_of
  answered-some earlier [] n e = absurd (apart (answer-some q earlier v [] (ending-answered q earlier v (length_of q.net.arcs) [] n e).0).is-eligible.ends)
  answered-some earlier (a ∷ p) n e = omega arith

  pub rounds-shape : (k : ℕ) (earlier : List (List ℕ)) → Shape k (rounds q k earlier)
  unfolding rounds_by go_on
  rounds-shape zero earlier = tt
  rounds-shape (suc k) earlier = go (ending q earlier) refl (λ p. rounds-shape k (earlier ++ (p ∷ [])))
    where
      go : (z : Ending) → ending q earlier ≡ z → ((p : List ℕ) → Shape k (rounds q k (earlier ++ (p ∷ [])))) → Shape (suc k) (go_on z (λ p. rounds q k (earlier ++ (p ∷ []))))
      go (answered p n) e below = (answered-some earlier p n e, below p)
      go (unanswered n) e below = tt
      go refused e below = tt

module _ (q : Query) (v : Valid q) (few : length q.net.arcs < no_number) where
  pub answers-short : (k : ℕ) (earlier : List (List ℕ)) (p : List ℕ) → Memᴰ p (answers (rounds q k earlier)) → length p ≤ q.net.nodes - 1
  unfolding rounds_by go_on answers
  answers-short zero earlier p m = elim m [ ]
  answers-short (suc k) earlier p m = go (ending q earlier) refl (λ w. answers-short k (earlier ++ (w ∷ [])) p) m
    where
      go : (z : Ending) → ending q earlier ≡ z → ((w : List ℕ) → Memᴰ p (answers (rounds q k (earlier ++ (w ∷ [])))) → length p ≤ q.net.nodes - 1)
          → Memᴰ p (answers (go_on z (λ w. rounds q k (earlier ++ (w ∷ []))))) → length p ≤ q.net.nodes - 1
      go (unanswered n) e below m = elim m [ ]
      go refused e below m = elim m [ ]
      go (answered w n) e below (Memᴰ.head i) = subst (λ x. length x ≤ q.net.nodes - 1) (sym i) (answered-short q earlier v few w n e)
      go (answered w n) e below (Memᴰ.tail m) = below w m
