-- The steps by which code makes the pair, each a law. The first search's route P is marked on the way back from t. The second search goes through the residual net,
-- whose arcs at a node the marks tell. On the way back along its route R a step over an arc of P takes that arc's mark away, any other step puts a mark in `out₂`.
-- Two walks from s by these marks are the pair: the first by arcs of P where it can, the second by arcs off P where it can.
use mathlib.Core.Path.{◌≡◌, refl, sym, ap, subst, ◌∙◌}
use mathlib.Core.Logic.{◌⊎◌, inl, inr}
use mathlib.Core.List.Memᴰ
use mathlib.Core.List.{List, [], ◌∷◌, Memᴰ}
use mathlib.Core.Bool.{◌&&◌}
use Prim.Native.Nat.{ℕ, suc, pred, ◌+◌, ◌-◌, ◌<◌, ◌≤◌}
use native.Mathlib.Omega.{arith}
use native.Mathlib.Decide.{ℕ_discrete}
use lib.Dec.{T, ltb, ltb→lt, lt→ltb, eqb, eqb→eq}
use lib.ListN.{length}
use Rattle.lists.proofs.TestLaws.{and_i, and_l, and_r, eq→eqb}
use Rattle.net.specs.Net.{Net, arc}
use Rattle.net.specs.Route.{leaves}
use Rattle.net.proofs.Valid.{Sound}
use Rattle.net.proofs.Chains.{Leaves, leaves-e, leaves-i, partial-chain}
use Rattle.distances.specs.Search.{Open, Found}
use Rattle.distances.specs.Turned.{detour, residual}
use Rattle.distances.proofs.Dijkstra.{found-steady}
use Rattle.distances.proofs.Walks.{open-arcs}
use Rattle.pair.specs.Walked.{Shortest, Both, Marks, On, Kept, Added, Behind, Leads, comes_back, Marking, Undoing}
use Rattle.pair.proofs.Walks.{leave-once}
use Rattle.pair.proofs.Two.{Back, Forth, residual-arc, residual-open, open-residual}
use Rattle.pair.proofs.Whole.{residual-nodes, residual-below}
use Rattle.pair.proofs.Marked.{marks-nothing, marks-same, mark-in, marks-put, marks-take, Came, behind-start, behind-step, behind-short, behind-end}

-- ---- The first route.

pub found-shortest : (net : Net) (s t far : ℕ) (π parent : ℕ → ℕ) → Found net s far π parent → π t < far → (P : List ℕ) × Shortest net s t π parent P
found-shortest net s t far π parent f h =
    let w = f.real t h in
    (w.0, record { is-partial = w.1; ends = w.2; is-long = w.3; follows = w.4 })

pub found-both : (net : Net) (s t far : ℕ) (π parent : ℕ → ℕ) (P : List ℕ) → Found net s far π parent → Shortest net s t π parent P
    → (far₂ : ℕ) (d parent₂ : ℕ → ℕ) → Found (residual net π P) s far₂ d parent₂ → d t < far₂ → (R : List ℕ) × Both net s t π parent P d parent₂ R
found-both net s t far π parent P f short far₂ d parent₂ g h =
    let w = found-shortest (residual net π P) s t far₂ d parent₂ g h in
    (w.0, record { one = found-steady net s far π parent f; short = short; two = found-steady (residual net π P) s far₂ d parent₂ g; short₂ = w.1 })

module _ (net : Net) (s t : ℕ) (π parent : ℕ → ℕ) (P : List ℕ) (short : Shortest net s t π parent P) where
  P-open : (a : ℕ) → On P a → Open net a
  P-open = open-arcs net s P (partial-chain net s P short.is-partial)

  module _ (none : ℕ) where
    -- at t no arc is marked
    pub marks-start : (out : ℕ → ℕ) → ((v : ℕ) → out v ≡ none) → Marking net s none P t 0 out
    marks-start out e =
        record {
          front = P;
          read = [];
          behind = behind-start net s t π parent P short;
          marks = marks-nothing net.arcs none (On []) out (λ a m. Memᴰ.not-nil m) e;
        }

    module _ (v k : ℕ) (out : ℕ → ℕ) (m : Marking net s none P v k out) (away : v ≡ s → ⊥) where
      came : Came net s t π parent P short v k m.read
      came = behind-step net s t π parent P short v k m.front m.read m.behind away

      -- the parent of v is an arc to v
      pub marks-arc : Open net (parent v) × ((arc net.arcs (parent v)).to ≡ v)
      marks-arc = (P-open (parent v) came.is-on, came.comes)

      pub marks-room : s < net.nodes → Sound net → k < pred net.nodes
      marks-room s-below sound =
          let c = came in
          omega (arith, behind-short net s t π parent P short (arc net.arcs (parent v)).from (suc k) c.front (parent v ∷ m.read) c.behind s-below sound.to_below)

      -- it is marked
      pub marks-step : (out' : ℕ → ℕ) → out' (arc net.arcs (parent v)).from ≡ parent v → ((u : ℕ) → (u ≡ (arc net.arcs (parent v)).from → ⊥) → out' u ≡ out u)
          → Marking net s none P (arc net.arcs (parent v)).from (suc k) out'
      marks-step out' put others =
          let c = came in
          record {
            front = c.front;
            read = parent v ∷ m.read;
            behind = c.behind;
            marks = marks-put net.arcs none (On m.read) (On (parent v ∷ m.read)) out out' m.marks (parent v) others put (Memᴰ.head refl) (λ x k. Memᴰ.tail k) (λ x k. Memᴰ.cases_cons k)
                (λ x k e. leave-once net s P short.is-partial x (parent v) (subst (Memᴰ x) (sym m.behind.whole) (Memᴰ.append_right m.front k)) c.is-on e);
          }

    -- at s all of P is
    pub marks-end : (k : ℕ) (out : ℕ → ℕ) → Marking net s none P s k out → Marks net.arcs none (On P) out
    marks-end k out m = subst (λ r. Marks net.arcs none (On r) out) (behind-end net s t π parent P short k m.front m.read m.behind) m.marks

    -- ---- The residual net at a node.

    module _ (past : length net.arcs ≤ none) (out : ℕ → ℕ) (marks : Marks net.arcs none (On P) out) where
      -- an arc of its run that is not its mark leads forth, at its detour
      pub residual-forth : (v a : ℕ) → T (leaves net v a) → (out v ≡ a → ⊥)
          → Leads (residual net π P) v a (arc net.arcs a).to ((arc net.arcs a).len + π v - π (arc net.arcs a).to)
      unfolding detour
      residual-forth v a l n = go (leaves-e net v a l) (residual-arc net π P a (leaves-e net v a l).is-arc)
        where
          go : Leaves net v a → Back net π P a ⊎ Forth net π P a → Leads (residual net π P) v a (arc net.arcs a).to ((arc net.arcs a).len + π v - π (arc net.arcs a).to)
          go k (inl b) = absurd (n (ap out (sym k.starts) ∙ marks.marked a b.is-on))
          go k (inr f) =
              record {
                is_open = residual-open net π P a (k.is-arc, k.is-usable);
                from_is = f.from_is ∙ k.starts;
                to_is = f.to_is;
                is-long = f.costs ∙ ap (λ u. (arc net.arcs a).len + π u - π (arc net.arcs a).to) k.starts;
              }

      -- a marked arc that comes to it leads back, at no cost
      pub residual-back : (v b : ℕ) → T (comes_back net.arcs out v b) → Leads (residual net π P) v b (arc net.arcs b).from 0
      unfolding comes_back
      residual-back v b h =
          let x = ltb b (length net.arcs) in
          let y = eqb (arc net.arcs b).to v in
          let z = eqb (out (arc net.arcs b).from) b in
          let xy = and_l (x && y) z h in
          let l : b < length net.arcs = ltb→lt b (length net.arcs) (and_l x y xy) in
          go l (eqb→eq (arc net.arcs b).to v (and_r x y xy)) (mark-in net.arcs none (On P) out past marks (arc net.arcs b).from b l (eqb→eq (out (arc net.arcs b).from) b (and_r (x && y) z h))).0 (residual-arc net π P b l)
        where
          go : b < length net.arcs → (arc net.arcs b).to ≡ v → On P b → Back net π P b ⊎ Forth net π P b → Leads (residual net π P) v b (arc net.arcs b).from 0
          go l e m (inr f) = absurd (f.is-off m)
          go l e m (inl k) = record { is_open = residual-open net π P b (P-open b m); from_is = k.from_is ∙ e; to_is = k.to_is; is-long = k.free }

      -- and no others do: the one that leads back is the parent
      pub residual-out : (v a : ℕ) → Open (residual net π P) a → (arc (residual net π P).arcs a).from ≡ v
          → (T (leaves net v a) × (out v ≡ a → ⊥)) ⊎ ((parent v ≡ a) × T (comes_back net.arcs out v a))
      unfolding comes_back
      residual-out v a w e = go (open-residual net π P a w) (residual-arc net π P a (open-residual net π P a w).0)
        where
          go : Open net a → Back net π P a ⊎ Forth net π P a → (T (leaves net v a) × (out v ≡ a → ⊥)) ⊎ ((parent v ≡ a) × T (comes_back net.arcs out v a))
          go o (inl b) =
              let i : (arc net.arcs a).to ≡ v = sym b.from_is ∙ e in
              let x = ltb a (length net.arcs) in
              let y = eqb (arc net.arcs a).to v in
              inr (
                ap parent (sym i) ∙ short.follows a b.is-on,
                and_i (x && y) (eqb (out (arc net.arcs a).from) a) (and_i x y (lt→ltb a (length net.arcs) o.0) (eq→eqb (arc net.arcs a).to v i)) (eq→eqb (out (arc net.arcs a).from) a (marks.marked a b.is-on)),
              )
          go o (inr f) =
              inl (
                leaves-i net v a (record { is-arc = o.0; is-usable = o.1; starts = sym f.from_is ∙ e }),
                λ k. f.is-off (mark-in net.arcs none (On P) out past marks v a o.0 k).0,
              )

    -- ---- The second route.

    module _ (d parent₂ : ℕ → ℕ) (R : List ℕ) (short₂ : Shortest (residual net π P) s t d parent₂ R) where
      R-open : (a : ℕ) → On R a → Open net a
      R-open a m = open-residual net π P a (open-arcs (residual net π P) s R (partial-chain (residual net π P) s R short₂.is-partial) a m)

      -- at t the marks are those of P
      pub undo-start : (out₁ out₂ : ℕ → ℕ) → Marks net.arcs none (On P) out₁ → ((v : ℕ) → out₂ v ≡ none) → Undoing net s none π P R t 0 out₁ out₂
      undo-start out₁ out₂ m e =
          record {
            front = R;
            read = [];
            behind = behind-start (residual net π P) s t d parent₂ R short₂;
            kept = marks-same net.arcs none (On P) (Kept P []) out₁ (λ a k. (k, λ n. Memᴰ.not-nil n)) (λ a k. k.0) m;
            added = marks-nothing net.arcs none (Added P []) out₂ (λ a k. Memᴰ.not-nil k.1) e;
          }

      module _ (v k : ℕ) (out₁ out₂ : ℕ → ℕ) (m : Undoing net s none π P R v k out₁ out₂) (away : v ≡ s → ⊥) where
        came₂ : Came (residual net π P) s t d parent₂ R short₂ v k m.read
        came₂ = behind-step (residual net π P) s t d parent₂ R short₂ v k m.front m.read m.behind away

        pub undo-arc : Open net (parent₂ v)
        undo-arc = R-open (parent₂ v) came₂.is-on

        pub undo-room : s < net.nodes → Sound net → ((a : ℕ) → (arc net.arcs a).from < net.nodes) → k < pred net.nodes
        undo-room s-below sound from-below =
            let c = came₂ in
            let l : suc k ≤ pred (residual net π P).nodes = behind-short (residual net π P) s t d parent₂ R short₂ (arc (residual net π P).arcs (parent₂ v)).from (suc k) c.front (parent₂ v ∷ m.read) c.behind
            (omega (arith, residual-nodes net π P)) (residual-below net π P from-below sound.to_below) in
            omega (arith, subst (λ x. suc k ≤ pred x) (residual-nodes net π P) l)

        more : (x : ℕ) → On m.read x → On (parent₂ v ∷ m.read) x
        more x n = Memᴰ.tail n

        -- read but not the one read last
        less : (x : ℕ) → (x ≡ parent₂ v → ⊥) → On (parent₂ v ∷ m.read) x → On m.read x
        less x n i = go (Memᴰ.cases_cons i)
          where
            go : (x ≡ parent₂ v) ⊎ On m.read x → On m.read x
            go (inl e) = absurd (n e)
            go (inr j) = j

        at_from : (x : ℕ) → (arc (residual net π P).arcs (parent₂ v)).from ≡ x → (front : List ℕ)
            → Behind (residual net π P) s R (arc (residual net π P).arcs (parent₂ v)).from (suc k) front (parent₂ v ∷ m.read)
            → Behind (residual net π P) s R x (suc k) front (parent₂ v ∷ m.read)
        at_from x e front b = record { whole = b.whole; at = b.at ∙ e; is-long = b.is-long }

        -- the mark of v is its parent: a step over an arc of P, whose mark goes
        module _ (past : length net.arcs ≤ none) (is : out₁ v ≡ parent₂ v) where
          was-kept : Kept P m.read (parent₂ v) × ((arc net.arcs (parent₂ v)).from ≡ v)
          was-kept = mark-in net.arcs none (Kept P m.read) out₁ past m.kept v (parent₂ v) undo-arc.0 is

          pub undo-back : (out₁' : ℕ → ℕ) → out₁' v ≡ none → ((u : ℕ) → (u ≡ v → ⊥) → out₁' u ≡ out₁ u) → Undoing net s none π P R (arc net.arcs (parent₂ v)).to (suc k) out₁' out₂
          undo-back out₁' gone others = go (residual-arc net π P (parent₂ v) undo-arc.0)
            where
              go : Back net π P (parent₂ v) ⊎ Forth net π P (parent₂ v) → Undoing net s none π P R (arc net.arcs (parent₂ v)).to (suc k) out₁' out₂
              go (inr f) = absurd (f.is-off was-kept.0.0)
              go (inl b) =
                  let w = was-kept in
                  let c = came₂ in
                  record {
                    front = c.front;
                    read = parent₂ v ∷ m.read;
                    behind = at_from (arc net.arcs (parent₂ v)).to b.from_is c.front c.behind;
                    kept = marks-take net.arcs none (Kept P m.read) (Kept P (parent₂ v ∷ m.read)) out₁ out₁' m.kept (parent₂ v)
                        (λ u n. others u (λ e. n (e ∙ sym w.1))) (ap out₁' w.1 ∙ gone) w.0
                        (λ x h. ((h.0, λ n. h.1 (more x n)), λ e. h.1 (Memᴰ.head e))) (λ x h n. (h.0, λ i. h.1 (less x n i)));
                    added = marks-same net.arcs none (Added P m.read) (Added P (parent₂ v ∷ m.read)) out₂
                        (λ x h. (h.0, more x h.1)) (λ x h. (h.0, less x (λ e. h.0 (subst (On P) (sym e) w.0.0)) h.1)) m.added;
                  }

        -- it is not: a step over an arc off P to v, which is marked
        module _ (isnt : out₁ v ≡ parent₂ v → ⊥) where
          forth-arc : Forth net π P (parent₂ v)
          forth-arc = go (residual-arc net π P (parent₂ v) undo-arc.0)
            where
              go : Back net π P (parent₂ v) ⊎ Forth net π P (parent₂ v) → Forth net π P (parent₂ v)
              go (inr f) = f
              go (inl b) = absurd (isnt (ap out₁ (sym came₂.comes ∙ b.to_is) ∙ m.kept.marked (parent₂ v) (b.is-on, came₂.is-new)))

          -- no other arc off P on R leaves its start
          alone : (x : ℕ) → Added P m.read x → (arc net.arcs x).from ≡ (arc net.arcs (parent₂ v)).from → x ≡ parent₂ v
          alone x h e = go (residual-arc net π P x (R-open x on-R).0)
            where
              on-R : On R x
              on-R = subst (Memᴰ x) (sym m.behind.whole) (Memᴰ.append_right m.front h.1)

              go : Back net π P x ⊎ Forth net π P x → x ≡ parent₂ v
              go (inl b) = absurd (h.0 b.is-on)
              go (inr f) = leave-once (residual net π P) s R short₂.is-partial x (parent₂ v) on-R came₂.is-on (f.from_is ∙ e ∙ sym forth-arc.from_is)

          pub undo-forth : (out₂' : ℕ → ℕ) → out₂' (arc net.arcs (parent₂ v)).from ≡ parent₂ v → ((u : ℕ) → (u ≡ (arc net.arcs (parent₂ v)).from → ⊥) → out₂' u ≡ out₂ u)
              → Undoing net s none π P R (arc net.arcs (parent₂ v)).from (suc k) out₁ out₂'
          undo-forth out₂' put others =
              let c = came₂ in
              let f = forth-arc in
              record {
                front = c.front;
                read = parent₂ v ∷ m.read;
                behind = at_from (arc net.arcs (parent₂ v)).from f.from_is c.front c.behind;
                kept = marks-same net.arcs none (Kept P m.read) (Kept P (parent₂ v ∷ m.read)) out₁
                    (λ x h. (h.0, λ i. h.1 (less x (λ e. f.is-off (subst (On P) e h.0)) i))) (λ x h. (h.0, λ i. h.1 (more x i))) m.kept;
                added = marks-put net.arcs none (Added P m.read) (Added P (parent₂ v ∷ m.read)) out₂ out₂' m.added (parent₂ v) others put
                    (f.is-off, Memᴰ.head refl) (λ x h. (h.0, more x h.1)) (λ x h. which x h (ℕ_discrete x (parent₂ v))) alone;
              }
            where
              which : (x : ℕ) → Added P (parent₂ v ∷ m.read) x → Dec (x ≡ parent₂ v) → (x ≡ parent₂ v) ⊎ Added P m.read x
              which x h (yes e) = inl e
              which x h (no n) = inr (h.0, less x n h.1)

      -- at s the marks are those of the pair
      pub undo-end : (k : ℕ) (out₁ out₂ : ℕ → ℕ) → Undoing net s none π P R s k out₁ out₂ → Marks net.arcs none (Kept P R) out₁ × Marks net.arcs none (Added P R) out₂
      undo-end k out₁ out₂ m =
          let e = behind-end (residual net π P) s t d parent₂ R short₂ k m.front m.read m.behind in
          (subst (λ r. Marks net.arcs none (Kept P r) out₁) e m.kept, subst (λ r. Marks net.arcs none (Added P r) out₂) e m.added)
