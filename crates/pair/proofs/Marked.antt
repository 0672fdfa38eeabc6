-- Marks at the nodes, one put or taken at a time; and the way back along a route by parents, counted.
use mathlib.Core.Path.{◌≡◌, refl, sym, ap, subst, ◌∙◌}
use mathlib.Core.Logic.{◌⊎◌, inl, inr}
use mathlib.Core.List.Memᴰ
use mathlib.Core.List.{List, [], ◌∷◌, ◌++◌, Memᴰ}
use Prim.Native.Nat.{ℕ, suc, pred, ◌<◌, ◌≤◌}
use native.Mathlib.Omega.{arith}
use native.Mathlib.Decide.{ℕ_discrete}
use lib.ListN.{length, length-append}
use Rattle.net.specs.Net.{Arc, Net, arc}
use Rattle.net.proofs.Listing.{partial-short}
use Rattle.distances.proofs.Trace.{trace-start, trace-step, trace-end}
use Rattle.pair.specs.Walked.{Shortest, Marks, On, Behind, count}
use Rattle.pair.proofs.Sums.{count_at, same-is, mem→count}
use Rattle.pair.proofs.Walks.{partial-once}

module _ (arcs : List Arc) (none : ℕ) where
  pub marks-nothing : (Set : ℕ → Type 0) (out : ℕ → ℕ) → ((a : ℕ) → Set a → ⊥) → ((v : ℕ) → out v ≡ none) → Marks arcs none Set out
  marks-nothing Set out n e = record { marked = λ a h. absurd (n a h); only = λ v. inl (e v) }

  -- the same set, told otherwise
  pub marks-same : (Set Set' : ℕ → Type 0) (out : ℕ → ℕ) → ((a : ℕ) → Set a → Set' a) → ((a : ℕ) → Set' a → Set a) → Marks arcs none Set out → Marks arcs none Set' out
  marks-same Set Set' out f g m = record { marked = λ a h. m.marked a (g a h); only = λ v. go v (m.only v) }
    where
      go : (v : ℕ) → (out v ≡ none) ⊎ (Set (out v) × ((arc arcs (out v)).from ≡ v)) → (out v ≡ none) ⊎ (Set' (out v) × ((arc arcs (out v)).from ≡ v))
      go v (inl e) = inl e
      go v (inr h) = inr (f (out v) h.0, h.1)

  -- a mark that is an arc's
  pub mark-in : (Set : ℕ → Type 0) (out : ℕ → ℕ) → length arcs ≤ none → Marks arcs none Set out → (v a : ℕ) → a < length arcs → out v ≡ a → Set a × ((arc arcs a).from ≡ v)
  mark-in Set out past m v a l e = go (m.only v)
    where
      go : (out v ≡ none) ⊎ (Set (out v) × ((arc arcs (out v)).from ≡ v)) → Set a × ((arc arcs a).from ≡ v)
      go (inl n) = absurd (omega arith)
      go (inr h) = subst (λ x. Set x × ((arc arcs x).from ≡ v)) e h

  module _ (Set Set' : ℕ → Type 0) (out out' : ℕ → ℕ) (m : Marks arcs none Set out) (a : ℕ) (others : (v : ℕ) → (v ≡ (arc arcs a).from → ⊥) → out' v ≡ out v) where
    -- at other nodes than the arc's start
    elsewhere : (v : ℕ) → (v ≡ (arc arcs a).from → ⊥) → (Set (out v) → (out v ≡ a → ⊥) → Set' (out v)) → (out' v ≡ none) ⊎ (Set' (out' v) × ((arc arcs (out' v)).from ≡ v))
    elsewhere v n f = subst (λ x. (x ≡ none) ⊎ (Set' x × ((arc arcs x).from ≡ v))) (sym (others v n)) (go (m.only v))
      where
        go : (out v ≡ none) ⊎ (Set (out v) × ((arc arcs (out v)).from ≡ v)) → (out v ≡ none) ⊎ (Set' (out v) × ((arc arcs (out v)).from ≡ v))
        go (inl e) = inl e
        go (inr h) = inr (f h.0 (λ e. n (sym h.1 ∙ ap (λ x. (arc arcs x).from) e)), h.1)

    -- a mark put: arc a comes into the set, and no other of the set leaves its start
    pub marks-put : out' (arc arcs a).from ≡ a → Set' a → ((x : ℕ) → Set x → Set' x) → ((x : ℕ) → Set' x → (x ≡ a) ⊎ Set x)
        → ((x : ℕ) → Set x → (arc arcs x).from ≡ (arc arcs a).from → x ≡ a) → Marks arcs none Set' out'
    marks-put put new more from-which alone =
        record { marked = λ x h. marked x (from-which x h); only = λ v. only v (ℕ_discrete v (arc arcs a).from) }
      where
        at_a : (x : ℕ) → x ≡ a → out' (arc arcs x).from ≡ x
        at_a x e = subst (λ y. out' (arc arcs y).from ≡ y) (sym e) put

        old : (x : ℕ) → Set x → Dec ((arc arcs x).from ≡ (arc arcs a).from) → out' (arc arcs x).from ≡ x
        old x h (yes e) = at_a x (alone x h e)
        old x h (no n) = others (arc arcs x).from n ∙ m.marked x h

        marked : (x : ℕ) → (x ≡ a) ⊎ Set x → out' (arc arcs x).from ≡ x
        marked x (inl e) = at_a x e
        marked x (inr h) = old x h (ℕ_discrete (arc arcs x).from (arc arcs a).from)

        only : (v : ℕ) → Dec (v ≡ (arc arcs a).from) → (out' v ≡ none) ⊎ (Set' (out' v) × ((arc arcs (out' v)).from ≡ v))
        only v (yes e) = inr (subst (λ x. Set' x × ((arc arcs x).from ≡ v)) (sym (ap out' e ∙ put)) (new, sym e))
        only v (no n) = elsewhere v n (λ h k. more (out v) h)

    -- a mark taken: arc a leaves the set
    pub marks-take : out' (arc arcs a).from ≡ none → Set a → ((x : ℕ) → Set' x → Set x × (x ≡ a → ⊥)) → ((x : ℕ) → Set x → (x ≡ a → ⊥) → Set' x) → Marks arcs none Set' out'
    marks-take gone was fewer keeps =
        record { marked = λ x h. marked x (fewer x h); only = λ v. only v (ℕ_discrete v (arc arcs a).from) }
      where
        marked : (x : ℕ) → Set x × (x ≡ a → ⊥) → out' (arc arcs x).from ≡ x
        marked x h = others (arc arcs x).from (λ e. h.1 (sym (m.marked x h.0) ∙ ap out e ∙ m.marked a was)) ∙ m.marked x h.0

        only : (v : ℕ) → Dec (v ≡ (arc arcs a).from) → (out' v ≡ none) ⊎ (Set' (out' v) × ((arc arcs (out' v)).from ≡ v))
        only v (yes e) = inl (ap out' e ∙ gone)
        only v (no n) = elsewhere v n (λ h k. keeps (out v) h k)

-- ---- the way back

module _ (net : Net) (s t : ℕ) (π parent : ℕ → ℕ) (p : List ℕ) (short : Shortest net s t π parent p) where
  pub behind-start : Behind net s p t 0 p []
  behind-start =
      let r = trace-start net s parent p short.is-partial short.follows in
      record { whole = r.whole; at = r.at ∙ short.ends; is-long = refl }

  -- the arc that is behind next
  pub record Came (v k : ℕ) (read : List ℕ) : Type 0 where
    pub front : List ℕ
    pub comes : (arc net.arcs (parent v)).to ≡ v
    pub is-on : On p (parent v)
    pub is-new : On read (parent v) → ⊥
    pub behind : Behind net s p (arc net.arcs (parent v)).from (suc k) front (parent v ∷ read)

  module _ (v k : ℕ) (front read : List ℕ) (b : Behind net s p v k front read) where
    pub behind-step : (v ≡ s → ⊥) → Came v k read
    behind-step n =
        let w = trace-step net s parent p short.is-partial short.follows v front read (record { whole = b.whole; at = b.at }) n in
        let a = parent v in
        let f = w.0 in
        let q : p ≡ f ++ (a ∷ read) = w.3.whole in
        record {
          front = f;
          comes = w.1;
          is-on = subst (Memᴰ a) (sym q) (Memᴰ.append_right f (Memᴰ.head refl));
          is-new = λ m. absurd (omega (arith, partial-once net s p short.is-partial a, ap (count a) q, count_at a f a read, same-is a, mem→count m));
          behind = record { whole = q; at = w.3.at; is-long = ap suc b.is-long };
        }

    -- fewer arcs are behind than the nodes but one
    pub behind-short : s < net.nodes → ((a : ℕ) → (arc net.arcs a).to < net.nodes) → k ≤ pred net.nodes
    behind-short s-below to_below =
        omega (arith, partial-short net s s-below to_below p short.is-partial, ap length b.whole, length-append front read, b.is-long)

  pub behind-end : (k : ℕ) (front read : List ℕ) → Behind net s p s k front read → read ≡ p
  behind-end k front read b = trace-end net s parent p short.is-partial short.follows front read (record { whole = b.whole; at = b.at })
