-- Demands 2 and 3, by induction over the rounds: round j is the theory's round after the answers before it, and the theory says what that is. And the proved cases P1 to
-- P12 hold of the call: over a good table, with buffers large enough, what it is defined to show is the theory's reply.
use mathlib.Core.Path.{◌≡◌, refl, sym, ap, ap₂, subst, ◌∙◌}
use mathlib.Core.Logic.{◌⊎◌, inl, inr}
use mathlib.Core.Option.{Option, none, some}
use mathlib.Core.Bool.{Bool, true, false, cond}
use mathlib.Core.List.{List, [], ◌∷◌, ◌++◌, map, append_assoc, append-nil, Memᴰ}
use Prim.Native.Nat.{ℕ, zero, suc, ◌≤◌, ◌<◌}
use native.Mathlib.Omega.{arith}
use borrow.Author.Tests.{ltb-true, ltb-false, eqb-true}
use Rattle.search_ask.proofs.AskLaws.{accepted-valid}
use Rattle.query.proofs.DecideLaws.{passed, refused-number, refused-room, refused_none}
use lib.Dec.{ltb, eqb, eqb-suc-zero}
use lib.ListN.{length, take, get_or}
use Rattle.net.specs.Round.{Query, Ending, answered, unanswered, refused, answer, count, judged, ending_by, ending}
use Rattle.outcome.specs.declared.Told.{Told}
use Rattle.outcome.specs.Outcome.{plain}
use Rattle.net.specs.Route.{length_of}
use Rattle.net.specs.Outcome.{go_on, rounds_by, rounds, told, answers, summary, summaries, refusal, Reply, reply_to, reply_by, reply}
use Rattle.net.specs.Figures.{Figure, figures}
use Rattle.net.proofs.Valid.{Valid}
use Rattle.net.proofs.Bound.{count-bound}
use Rattle.net.proofs.Figures.{figures-hold}
use Rattle.table.specs.Fault.{table_fault, good}
use Rattle.query.specs.Query.{Input, query_of, wrong_closures, too_small, reaches, rounds_of, tells_due, refused_of}
use Rattle.query.specs.Promises.{before, Demand2, Demand3}

-- ---- round j is the round after the answers before it

module _ (q : Query) where
  pub round_is : (k : ℕ) (earlier : List (List ℕ)) (j : ℕ) → j < length (rounds q k earlier) → get_or (rounds q k earlier) j refused ≡ ending q (earlier ++ take j (answers (rounds q k earlier)))
  unfolding rounds_by go_on answers
  round_is zero earlier j h = absurd (omega arith)
  round_is (suc k) earlier j h = go (ending q earlier) refl j h (λ p. round_is k (earlier ++ (p ∷ [])))
    where
      on : List ℕ → List Ending
      on p = rounds q k (earlier ++ (p ∷ []))

      go : (z : Ending) → ending q earlier ≡ z → (i : ℕ) → i < length (go_on z (λ p. rounds q k (earlier ++ (p ∷ []))))
          → ((p : List ℕ) (m : ℕ) → m < length (rounds q k (earlier ++ (p ∷ []))) → get_or (rounds q k (earlier ++ (p ∷ []))) m refused ≡ ending q ((earlier ++ (p ∷ [])) ++ take m (answers (rounds q k (earlier ++ (p ∷ []))))))
          → get_or (go_on z (λ p. rounds q k (earlier ++ (p ∷ [])))) i refused ≡ ending q (earlier ++ take i (answers (go_on z (λ p. rounds q k (earlier ++ (p ∷ []))))))
      go (answered p n) e zero m below = sym (ap (ending q) (append-nil earlier) ∙ e)
      go (answered p n) e (suc i) m below = below p i (omega arith) ∙ ap (ending q) (append_assoc earlier (p ∷ []) (take i (answers (rounds q k (earlier ++ (p ∷ []))))))
      go (unanswered n) e zero m below = sym (ap (ending q) (append-nil earlier) ∙ e)
      go (unanswered n) e (suc i) m below = absurd (omega arith)
      go refused e zero m below = sym (ap (ending q) (append-nil earlier) ∙ e)
      go refused e (suc i) m below = absurd (omega arith)

  answer_at : (k : ℕ) (earlier : List (List ℕ)) (j : ℕ) → j < length (answers (rounds q k earlier))
      → (n : ℕ) × (ending q (earlier ++ take j (answers (rounds q k earlier))) ≡ answered (get_or (answers (rounds q k earlier)) j []) n)
  unfolding rounds_by go_on answers
  answer_at zero earlier j h = absurd (omega arith)
  answer_at (suc k) earlier j h = go (ending q earlier) refl j h (λ p. answer_at k (earlier ++ (p ∷ [])))
    where
      At : Ending → ℕ → Type 0
      At z i = (n : ℕ) × (ending q (earlier ++ take i (answers (go_on z (λ p. rounds q k (earlier ++ (p ∷ [])))))) ≡ answered (get_or (answers (go_on z (λ p. rounds q k (earlier ++ (p ∷ []))))) i []) n)

      go : (z : Ending) → ending q earlier ≡ z → (i : ℕ) → i < length (answers (go_on z (λ p. rounds q k (earlier ++ (p ∷ [])))))
          → ((p : List ℕ) (m : ℕ) → m < length (answers (rounds q k (earlier ++ (p ∷ [])))) → (n : ℕ) × (ending q ((earlier ++ (p ∷ [])) ++ take m (answers (rounds q k (earlier ++ (p ∷ []))))) ≡ answered (get_or (answers (rounds q k (earlier ++ (p ∷ [])))) m []) n))
          → At z i
      go (answered p n) e zero m below = (n, ap (ending q) (append-nil earlier) ∙ e)
      go (answered p n) e (suc i) m below =
          let w = below p i (omega arith) in
          (w.0, ap (ending q) (sym (append_assoc earlier (p ∷ []) (take i (answers (rounds q k (earlier ++ (p ∷ []))))))) ∙ w.1)
      go (unanswered n) e i m below = absurd (omega arith)
      go refused e i m below = absurd (omega arith)

  stops_at : (k : ℕ) (earlier : List (List ℕ)) → length (answers (rounds q k earlier)) < k
      → (ending q (earlier ++ answers (rounds q k earlier)) ≡ refused) ⊎ ((n : ℕ) × (ending q (earlier ++ answers (rounds q k earlier)) ≡ unanswered n))
  unfolding rounds_by go_on answers
  stops_at zero earlier h = absurd (omega arith)
  stops_at (suc k) earlier h = go (ending q earlier) refl h (λ p. stops_at k (earlier ++ (p ∷ [])))
    where
      Stops : Ending → Type 0
      Stops z =
          (ending q (earlier ++ answers (go_on z (λ p. rounds q k (earlier ++ (p ∷ []))))) ≡ refused) ⊎ ((n : ℕ) × (ending q (earlier ++ answers (go_on z (λ p. rounds q k (earlier ++ (p ∷ []))))) ≡ unanswered n))

      go : (z : Ending) → ending q earlier ≡ z → length (answers (go_on z (λ p. rounds q k (earlier ++ (p ∷ []))))) < suc k
          → ((p : List ℕ) → length (answers (rounds q k (earlier ++ (p ∷ [])))) < k → (ending q ((earlier ++ (p ∷ [])) ++ answers (rounds q k (earlier ++ (p ∷ [])))) ≡ refused) ⊎ ((n : ℕ) × (ending q ((earlier ++ (p ∷ [])) ++ answers (rounds q k (earlier ++ (p ∷ [])))) ≡ unanswered n)))
          → Stops z
      go (answered p n) e m below =
          subst (λ l. (ending q l ≡ refused) ⊎ ((c : ℕ) × (ending q l ≡ unanswered c))) (append_assoc earlier (p ∷ []) (answers (rounds q k (earlier ++ (p ∷ []))))) (below p (omega arith))
      go (unanswered n) e m below = inr (n, ap (ending q) (append-nil earlier) ∙ e)
      go refused e m below = inl (ap (ending q) (append-nil earlier) ∙ e)

  -- ---- what an ending says

  ending-cases : (earlier : List (List ℕ)) → ((q.room < count q earlier) × (ending q earlier ≡ refused)) ⊎ ((count q earlier ≤ q.room) × (ending q earlier ≡ judged false (count q earlier) (answer q earlier)))
  unfolding ending_by judged
  ending-cases earlier = go (ltb q.room (count q earlier)) refl
    where
      go : (b : Bool) → ltb q.room (count q earlier) ≡ b
          → ((q.room < count q earlier) × (judged b (count q earlier) (answer q earlier) ≡ refused)) ⊎ ((count q earlier ≤ q.room) × (judged b (count q earlier) (answer q earlier) ≡ judged false (count q earlier) (answer q earlier)))
      go true e = inl (ltb-true q.room (count q earlier) e, refl)
      go false e = inr (ltb-false q.room (count q earlier) e, refl)

  judged-answered : (n m : ℕ) (o : Option (List ℕ)) (p : List ℕ) → judged false n o ≡ answered p m → o ≡ some p
  unfolding judged
  judged-answered n m none p e = let z : ◌≡◌ {A = ℕ} 0 1 = cc in absurd (omega arith)
  judged-answered n m (some w) p e = let i : w ≡ p = cc in ap some i

  judged-none : (n m : ℕ) (o : Option (List ℕ)) → judged false n o ≡ unanswered m → o ≡ none
  unfolding judged
  judged-none n m none e = refl
  judged-none n m (some w) e = let z : ◌≡◌ {A = ℕ} 0 1 = cc in absurd (omega arith)

  judged-not-refused : (n : ℕ) (o : Option (List ℕ)) → judged false n o ≡ refused → ⊥
  unfolding judged
  judged-not-refused n none e = let z : ◌≡◌ {A = ℕ} 0 1 = cc in omega arith
  judged-not-refused n (some w) e = let z : ◌≡◌ {A = ℕ} 0 1 = cc in omega arith

  judged-count : (n : ℕ) (o : Option (List ℕ)) → (summary q (judged false n o)).labels ≡ n
  unfolding judged summary
  judged-count n none = refl
  judged-count n (some w) = refl

-- ---- demand 2

pub demand-2 : (i : Input) → Demand2 i
demand-2 i = record { each = each; stops = stops }
  where
    q : Query
    q = query_of i

    each : (j : ℕ) → j < length (answers (rounds_of i)) → answer (query_of i) (before i j) ≡ some (get_or (answers (rounds_of i)) j [])
    each j h = go (answer_at q i.k [] j h) (ending-cases q (before i j))
      where
        go : (n : ℕ) × (ending (query_of i) (before i j) ≡ answered (get_or (answers (rounds_of i)) j []) n)
            → (((query_of i).room < count (query_of i) (before i j)) × (ending (query_of i) (before i j) ≡ refused)) ⊎ ((count (query_of i) (before i j) ≤ (query_of i).room) × (ending (query_of i) (before i j) ≡ judged false (count (query_of i) (before i j)) (answer (query_of i) (before i j))))
            → answer (query_of i) (before i j) ≡ some (get_or (answers (rounds_of i)) j [])
        go w (inl r) = let e : answered (get_or (answers (rounds_of i)) j []) w.0 ≡ refused = sym w.1 ∙ r.1 in let z : ◌≡◌ {A = ℕ} 0 1 = cc in absurd (omega arith)
        go w (inr r) = judged-answered q (count (query_of i) (before i j)) w.0 (answer (query_of i) (before i j)) (get_or (answers (rounds_of i)) j []) (sym r.1 ∙ w.1)

    stops : length (answers (rounds_of i)) < i.k → (answer (query_of i) (answers (rounds_of i)) ≡ none) ⊎ ((query_of i).room < count (query_of i) (answers (rounds_of i)))
    stops h = go (stops_at q i.k [] h) (ending-cases q (answers (rounds_of i)))
      where
        go : (ending (query_of i) (answers (rounds_of i)) ≡ refused) ⊎ ((n : ℕ) × (ending (query_of i) (answers (rounds_of i)) ≡ unanswered n))
            → (((query_of i).room < count (query_of i) (answers (rounds_of i))) × (ending (query_of i) (answers (rounds_of i)) ≡ refused)) ⊎ ((count (query_of i) (answers (rounds_of i)) ≤ (query_of i).room) × (ending (query_of i) (answers (rounds_of i)) ≡ judged false (count (query_of i) (answers (rounds_of i))) (answer (query_of i) (answers (rounds_of i)))))
            → (answer (query_of i) (answers (rounds_of i)) ≡ none) ⊎ ((query_of i).room < count (query_of i) (answers (rounds_of i)))
        go a (inl r) = inr r.0
        go (inl e) (inr r) = absurd (judged-not-refused q (count (query_of i) (answers (rounds_of i))) (answer (query_of i) (answers (rounds_of i))) (sym r.1 ∙ e))
        go (inr w) (inr r) = inl (judged-none q (count (query_of i) (answers (rounds_of i))) w.0 (answer (query_of i) (answers (rounds_of i))) (sym r.1 ∙ w.1))

-- ---- demand 3

pub demand-3 : (i : Input) → Valid (query_of i) → 0 < (query_of i).b → Demand3 i
unfolding summary
demand-3 i v b =
    record {
      counts = λ j h k. counts j h k;
      exact = λ j h. (λ e. over j h e, λ l. refuses j h l);
      shows-room = λ j h e. ap (λ z. (summary (query_of i) z).labels) e;
      bound = λ j. count-bound (query_of i) v b (before i j) (length_of (query_of i).net.arcs);
    }
  where
    q : Query
    q = query_of i

    at : (j : ℕ) → j < length (rounds_of i) → get_or (rounds_of i) j refused ≡ ending (query_of i) (before i j)
    at j h = round_is q i.k [] j h

    refuses : (j : ℕ) → j < length (rounds_of i) → (query_of i).room < count (query_of i) (before i j) → get_or (rounds_of i) j refused ≡ refused
    refuses j h l = go (ending-cases q (before i j))
      where
        go : (((query_of i).room < count (query_of i) (before i j)) × (ending (query_of i) (before i j) ≡ refused)) ⊎ ((count (query_of i) (before i j) ≤ (query_of i).room) × (ending (query_of i) (before i j) ≡ judged false (count (query_of i) (before i j)) (answer (query_of i) (before i j))))
            → get_or (rounds_of i) j refused ≡ refused
        go (inl r) = at j h ∙ r.1
        go (inr r) = absurd (omega (arith, r.0))

    over : (j : ℕ) → j < length (rounds_of i) → get_or (rounds_of i) j refused ≡ refused → (query_of i).room < count (query_of i) (before i j)
    over j h e = go (ending-cases q (before i j))
      where
        go : (((query_of i).room < count (query_of i) (before i j)) × (ending (query_of i) (before i j) ≡ refused)) ⊎ ((count (query_of i) (before i j) ≤ (query_of i).room) × (ending (query_of i) (before i j) ≡ judged false (count (query_of i) (before i j)) (answer (query_of i) (before i j))))
            → (query_of i).room < count (query_of i) (before i j)
        go (inl r) = r.0
        go (inr r) = absurd (judged-not-refused q (count (query_of i) (before i j)) (answer (query_of i) (before i j)) (sym r.1 ∙ sym (at j h) ∙ e))

    counts : (j : ℕ) → j < length (rounds_of i) → count (query_of i) (before i j) ≤ (query_of i).room → (summary (query_of i) (get_or (rounds_of i) j refused)).labels ≡ count (query_of i) (before i j)
    counts j h k = go (ending-cases q (before i j))
      where
        go : (((query_of i).room < count (query_of i) (before i j)) × (ending (query_of i) (before i j) ≡ refused)) ⊎ ((count (query_of i) (before i j) ≤ (query_of i).room) × (ending (query_of i) (before i j) ≡ judged false (count (query_of i) (before i j)) (answer (query_of i) (before i j))))
            → (summary (query_of i) (get_or (rounds_of i) j refused)).labels ≡ count (query_of i) (before i j)
        go (inl r) = absurd (omega (arith, r.0))
        go (inr r) = ap (λ z. (summary (query_of i) z).labels) (at j h ∙ r.1) ∙ judged-count q (count (query_of i) (before i j)) (answer (query_of i) (before i j))

-- ---- what reaches the rounds has passed the refusals

pub reached : (i : Input) → reaches i ≡ true → (table_fault i.ask.nodes i.table ≡ good) × (refusal (query_of i) i.k ≡ 0) × (too_small i ≡ false) × (wrong_closures i ≡ false)
unfolding reaches
reached i h = refused_none i (eqb-true (refused_of i).outcome 0 h)

-- demand 3 of every query that reaches the rounds
pub demand-3-reached : (i : Input) → reaches i ≡ true → Demand3 i
demand-3-reached i h =
    let w = reached i h in
    let p = passed i w.0 w.1 in
    demand-3 i (accepted-valid p.ask i.closed i.labels) p.ask.b-least

-- ---- the proved cases hold of the call

module _ (i : Input) (ok : table_fault i.ask.nodes i.table ≡ good) (right : wrong_closures i ≡ false) (large : too_small i ≡ false) where
  -- by what the refusals before the rounds come to, and by the theory's refusal
  by : (x : Told) (n : ℕ) → refused_of i ≡ x → refusal (query_of i) i.k ≡ n → cond (eqb x.outcome 0) (told 1 (rounds_of i)) x ≡ (reply_to (query_of i) i.k n (rounds_of i)).told → tells_due i ≡ (reply (query_of i) i.k).told
  unfolding tells_due reaches reply_by
  by x n e f h = ap (λ y. cond (eqb y.outcome 0) (told 1 (rounds_of i)) y) e ∙ h ∙ sym (ap (λ m. (reply_to (query_of i) i.k m (rounds_of i)).told) f)

  -- over a good table, with buffers large enough, the outcome and the number beside it are those of the theory's reply
  pub reply-tells : tells_due i ≡ (reply (query_of i) i.k).told
  unfolding reply_to
  reply-tells = go (refusal (query_of i) i.k) refl
    where
      go : (n : ℕ) → refusal (query_of i) i.k ≡ n → tells_due i ≡ (reply (query_of i) i.k).told
      go zero e = by good 0 (refused-room i ok right e false large) e refl
      go (suc n) e =
          let z = eqb-suc-zero n in
          by (plain (suc n)) (suc n) (refused-number i ok right (suc n) e z) e (ap (λ b. cond b (told 1 (rounds_of i)) (plain (suc n))) z)

-- each proved case: an input that asks it is told what the table says
figure-reply : (fs : List Figure) → map (λ f. reply f.asked f.k) fs ≡ map (λ f. f.due) fs → (f : Figure) → Memᴰ f fs → reply f.asked f.k ≡ f.due
figure-reply (x ∷ fs) h f (Memᴰ.head e) = let k : reply x.asked x.k ≡ x.due = cc in subst (λ y. reply y.asked y.k ≡ y.due) (sym e) k
figure-reply [] h f x = elim x [ ]
figure-reply (x ∷ fs) h f (Memᴰ.tail m) = let k : map (λ y. reply y.asked y.k) fs ≡ map (λ y. y.due) fs = cc in figure-reply fs k f m

pub figure-told : (i : Input) → table_fault i.ask.nodes i.table ≡ good → wrong_closures i ≡ false → too_small i ≡ false → (f : Figure) → Memᴰ f figures → query_of i ≡ f.asked → i.k ≡ f.k → tells_due i ≡ f.due.told
figure-told i ok right large f m e h =
    reply-tells i ok right large ∙ ap₂ (λ q k. (reply q k).told) e h ∙ ap (λ (r : Reply). r.told) (figure-reply figures figures-hold f m)

-- and its routes and summaries, where it reaches the rounds, are those of the table
pub figure-made : (i : Input) → reaches i ≡ true → (f : Figure) → Memᴰ f figures → query_of i ≡ f.asked → i.k ≡ f.k
    → (answers (rounds_of i) ≡ f.due.routes) × (summaries (query_of i) i.k (rounds_of i) ≡ f.due.summaries)
unfolding reply_by reply_to
figure-made i h f m e k =
    let w = reached i h in
    let r : reply_to (query_of i) i.k 0 (rounds_of i) ≡ f.due =
    sym (ap (λ n. reply_to (query_of i) i.k n (rounds_of i)) w.1) ∙ ap₂ reply e k ∙ figure-reply figures figures-hold f m in
    (ap (λ (x : Reply). x.routes) r, ap (λ (x : Reply). x.summaries) r)
