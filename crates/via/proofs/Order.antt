-- Joined chains in order of length and then of rank stand in the order of rule 3. Where v was entered before w and the joined chains are equally long, the branch of v
-- comes first before that of w. Either they differ at an arc, which decides; or v stands on w's branch, and what follows there is a chain from v to t as long as the
-- first route from v to t, which comes before every such chain.
use mathlib.Core.Path.{◌≡◌, refl, sym, ap, subst, ◌∙◌}
use mathlib.Core.Logic.{◌⊎◌, inl, inr, ⊎_elim}
use mathlib.Core.List.Memᴰ
use mathlib.Core.List.{List, [], ◌∷◌, ◌++◌, map, append_assoc, Memᴰ}
use mathlib.Core.Bool.{Bool}
use Prim.Native.Nat.{ℕ, ◌+◌, ◌<◌, ◌≤◌}
use native.Mathlib.Omega.{arith}
use lib.Dec.{T}
use lib.ListN.{length}
use Rattle.lists.proofs.Cases.{three_ways}
use Rattle.net.specs.Net.{Net, arc}
use Rattle.net.specs.Route.{end_of, chain, partial, length_of, numbers_first}
use Rattle.net.proofs.Valid.{Sound}
use Rattle.net.proofs.Order.{AtMost, before-e, before-less, before_same, length_of-append}
use Rattle.net.proofs.Chains.{partial-chain}
use Rattle.net.proofs.Listing.{end_below}
use Rattle.distances.specs.Distance.{FirstRoute}
use Rattle.distances.specs.Turned.{reversed}
use Rattle.distances.specs.Search.{Steady, Found}
use Rattle.distances.specs.Greedy.{Greedy}
use Rattle.distances.specs.Deep.{Deep, Branch}
use Rattle.distances.proofs.Walks.{end_of-append, chain-join, chain_back}
use Rattle.distances.proofs.Lex.{common-first, first-or-begins}
use Rattle.distances.proofs.Parts.{first-chains}
use Rattle.distances.proofs.Dijkstra.{found-steady, along-at-most}
use Rattle.distances.proofs.Greedy.{far-at-most, to-t-relaxed, to-t-first}
use Rattle.distances.proofs.Firsts.{near-seen, branch-length, branch-first}
use Rattle.via.specs.Joined.{given, first, Both, joined, NeverBack, InTurn, Entered, Sooner, AllSooner}
use Rattle.via.proofs.First.{first-route-is}

module _ (net : Net) (s t : ℕ) (π : ℕ → ℕ) (steady : Steady net s π) (positive : (a : ℕ) → 0 < (arc net.arcs a).len)
    (seen : ℕ → Bool) (parent rank : ℕ → ℕ) (m : ℕ) (p : List ℕ) (c : ℕ) (deep : Deep net s π seen parent rank m p c) (to on : ℕ → List ℕ) where
  abbrev len : List ℕ → ℕ
  len = length_of net.arcs

  entered-both : (v : ℕ) → Entered net s t π seen parent to on v → Both net s t to on v
  entered-both v e = record { is-to = branch-first net s π steady positive parent v (to v) e.is-branch; is-on = e.is-on }

  module _ (v w : ℕ) (ev : Entered net s t π seen parent to on v) (ew : Entered net s t π seen parent to on w) where
    -- v's branch begins that of w
    along : (a : ℕ) (r : List ℕ) → to w ≡ to v ++ (a ∷ r) → len (joined to on v) ≡ len (joined to on w) → AtMost len (joined to on v) (joined to on w)
    along a r e l =
        let rest = (a ∷ r) ++ on w in
        let whole : joined to on w ≡ to v ++ rest = ap (λ z. z ++ on w) e ∙ append_assoc (to v) (a ∷ r) (on w) in
        let b = ev.is-branch in
        let d = ew.is-branch in
        let cw : T (chain net s (to v ++ (a ∷ r))) = subst (λ z. T (chain net s z)) e d.is-short.is-chain in
        let cr : T (chain net v (a ∷ r)) = subst (λ z. T (chain net z (a ∷ r))) b.ends (chain_back net s (to v) (a ∷ r) cw) in
        let er : end_of net.arcs v (a ∷ r) ≡ w =
        ap (λ z. end_of net.arcs z (a ∷ r)) (sym b.ends) ∙ sym (end_of-append net.arcs s (to v) (a ∷ r)) ∙ ap (end_of net.arcs s) (sym e) ∙ d.ends in
        let ch : T (chain net v rest) = chain-join net v (a ∷ r) (on w) cr (subst (λ z. T (chain net z (on w))) (sym er) (partial-chain net w (on w) ew.is-on.is-partial)) in
        let en : end_of net.arcs v rest ≡ t = end_of-append net.arcs v (a ∷ r) (on w) ∙ ap (λ z. end_of net.arcs z (on w)) er ∙ ew.is-on.ends in
        let same : len (on v) ≡ len rest = omega (arith, ap len whole, length_of-append net.arcs (to v) rest, length_of-append net.arcs (to v) (on v)) in
        subst (AtMost len (joined to on v)) (sym whole) (go rest same (first-chains net positive v t (on v) rest ev.is-on ch en))
      where
        go : (x : List ℕ) → len (on v) ≡ len x → AtMost len (on v) x → AtMost len (to v ++ on v) (to v ++ x)
        go x k (inl i) = inl (ap (λ z. to v ++ z) i)
        go x k (inr i) =
            inr (before_same len (to v ++ on v) (to v ++ x) (omega (arith, length_of-append net.arcs (to v) (on v), length_of-append net.arcs (to v) x))
            (common-first (to v) (on v) x (⊎_elim (λ j. absurd (omega arith)) (λ j. j.1) (before-e len (on v) x i))))

    pub order-of : Sooner (λ x. len (joined to on x)) rank v w → AtMost len (joined to on v) (joined to on w)
    order-of (inl l) = inr (before-less len (joined to on v) (joined to on w) l)
    order-of (inr k) = go (three_ways (rank v) (rank w))
      where
        split : ((x y : List ℕ) → T (numbers_first (to v ++ x) (to w ++ y))) ⊎ ((a : ℕ) × (r : List ℕ) × (to w ≡ to v ++ (a ∷ r))) → AtMost len (joined to on v) (joined to on w)
        split (inl f) = inr (before_same len (joined to on v) (joined to on w) k.0 (f (on v) (on w)))
        split (inr e) = along e.0 e.1 e.2 k.0

        go : (rank v < rank w) ⊎ (rank v ≡ rank w) ⊎ (rank w < rank v) → AtMost len (joined to on v) (joined to on w)
        go (inl h) = split (first-or-begins (to v) (to w) (deep.ordered v w ev.is_seen ew.is_seen h (to v) (to w) ev.is-branch ew.is-branch))
        go (inr (inl h)) = inl (ap (joined to on) (deep.apart v w ev.is_seen ew.is_seen h))
        go (inr (inr h)) = absurd (omega (arith, k.1))

  never_back : (key : ℕ → ℕ) (ns : List ℕ) → ((v : ℕ) → Memᴰ v ns → Entered net s t π seen parent to on v × (len (joined to on v) ≡ key v)) → AllSooner key rank ns
      → NeverBack net.arcs (map (joined to on) ns)
  never_back key [] e h = tt
  never_back key (v ∷ ns) e h = (λ r k. at r (Memᴰ.of_map (joined to on) ns k), never_back key ns (λ w k. e w (Memᴰ.tail k)) h.1)
    where
      by_length : (w : ℕ) → len (joined to on v) ≡ key v → len (joined to on w) ≡ key w → Sooner key rank v w → Sooner (λ x. len (joined to on x)) rank v w
      by_length w i j (inl l) = inl (omega arith)
      by_length w i j (inr l) = inr (omega (arith, l.0), l.1)

      at : (r : List ℕ) → (w : ℕ) × Memᴰ w ns × (joined to on w ≡ r) → AtMost len (joined to on v) r
      at r w =
          let ev = e v (Memᴰ.head refl) in
          let ew = e w.0 (Memᴰ.tail w.1) in
          subst (AtMost len (joined to on v)) w.2 (order-of v w.0 ev.0 ew.0 (by_length w.0 ev.1 ew.1 (h.0 w.0 w.1)))

-- ---- after a search from s, one from t over the reversed net, and the walk: the nodes reached by both, by length and rank

module _ (net : Net) (sound : Sound net) (s t far : ℕ) (s-below : s < net.nodes) (π last : ℕ → ℕ) (from-s : Found net s far π last)
    (D next : ℕ → ℕ) (to-t : Found (reversed net) t far D next)
    (seen : ℕ → Bool) (parent rank : ℕ → ℕ) (m c : ℕ) (deep : Deep net s π seen parent rank m [] c) (over : length net.arcs ≤ c) where
  abbrev on-from : ℕ → List ℕ
  on-from v = first net v t

  steady : Steady net s π
  steady = found-steady net s far π last from-s

  -- the first route on is the one by the lowest arcs
  pub near-greedy : (v : ℕ) → v < net.nodes → D v < far → Greedy net t D v (first net v t)
  unfolding first given
  near-greedy v b h =
      let g = to-t-first net t far D next to-t sound.positive v h in
      subst (Greedy net t D v) (sym (ap given (first-route-is net sound v t b g.0 g.2))) g.1

  -- a node that both reached was entered, and its two first routes are as long as the searches say
  pub near-entered : (v : ℕ) → π v < far → D v < far
      → Entered net s t π seen parent (first net s) on-from v × (length_of net.arcs (joined (first net s) on-from v) ≡ π v + D v)
  unfolding first given
  near-entered v hs ht =
      let k = near-seen net s π steady sound.positive seen parent rank m c deep over far last from-s v hs in
      let w = deep.branch v k in
      let f = branch-first net s π steady sound.positive parent v w.0 w.1 in
      let b : v < net.nodes = omega (arith, f.ends, end_below net s s-below sound.to_below w.0) in
      let g = to-t-first net t far D next to-t sound.positive v ht in
      let i : w.0 ≡ first net s v = sym (ap given (first-route-is net sound s v s-below w.0 f)) in
      let j : g.0 ≡ first net v t = sym (ap given (first-route-is net sound v t b g.0 g.2)) in (
        record { is_seen = k; is-branch = subst (Branch net s π parent v) i w.1; is-on = subst (FirstRoute net v t) j g.2 },
        omega (
          arith,
          length_of-append net.arcs (first net s v) (first net v t),
          ap (length_of net.arcs) i,
          ap (length_of net.arcs) j,
          branch-length net s π steady sound.positive parent v w.0 w.1,
          g.3,
        ),
      )

  pub in-turn : ((v : ℕ) (p : List ℕ) → v < net.nodes → T (partial net v p) → length_of net.arcs p < far)
      → (ns : List ℕ) → ((v : ℕ) → Memᴰ v ns → (π v < far) × (D v < far)) → ((v : ℕ) → π v < far → D v < far → Memᴰ v ns)
      → AllSooner (λ v. π v + D v) rank ns → InTurn net s t (first net s) on-from ns
  in-turn beyond ns near all sooner =
      record {
        each = λ v k. entered-both net s t π steady sound.positive seen parent rank m [] c deep (first net s) on-from v (near-entered v (near v k).0 (near v k).1).0;
        all = λ v p r f g. all v (to-near v p f) (on-near v r (below v p f) g);
        in_order = never_back net s t π steady sound.positive seen parent rank m [] c deep (first net s) on-from (λ v. π v + D v) ns
            (λ v k. near-entered v (near v k).0 (near v k).1) sooner;
      }
    where
      below : (v : ℕ) (p : List ℕ) → FirstRoute net s v p → v < net.nodes
      below v p f = omega (arith, f.ends, end_below net s s-below sound.to_below p)

      to-near : (v : ℕ) (p : List ℕ) → FirstRoute net s v p → π v < far
      to-near v p f = omega (arith, beyond s p s-below f.is-partial, along-at-most net π from-s.relaxed s p (partial-chain net s p f.is-partial), from-s.zero-s, ap π f.ends)

      on-near : (v : ℕ) (r : List ℕ) → v < net.nodes → FirstRoute net v t r → D v < far
      on-near v r h g =
          omega (arith, beyond v r h g.is-partial, far-at-most net t D to-t.zero-s (to-t-relaxed net t far D next to-t) v r (partial-chain net v r g.is-partial) g.ends)
