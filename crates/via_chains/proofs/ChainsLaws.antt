-- What the chains read from the working room are. By last arcs from v up to s one reads the branch of v, which the walk left, since that branch follows the last arcs and
-- visits s only at its start; by first arcs from v on to t one reads the greedy chain, since the lowest arc that brings nearer is one.
use mathlib.Core.Path.{◌≡◌, refl, sym, ap, ap₂, subst, fun_ext, ◌∙◌}
use mathlib.Core.Logic.{◌≢◌, ◌⊎◌, inl, inr}
use mathlib.Core.Bool.{true, false, not, ◌&&◌, cond}
use mathlib.Core.List.Memᴰ
use mathlib.Core.List.{List, [], ◌∷◌, ◌++◌, append-nil, Memᴰ}
use Prim.Native.Nat.{ℕ, zero, suc, ◌+◌, ◌*◌, ◌≤◌, ◌<◌}
use native.Mathlib.Omega.{arith}
use native.Mathlib.Decide.{ℕ_discrete}
use borrow.Author.Tests.{eq-eqb, ne_eqb, lt-ltb}
use lib.Dec.{T, ltb, eqb, ltb→lt}
use lib.ListN.{length, length-append}
use Rattle.lists.proofs.TestLaws.{and_l, and_r}
use Rattle.lists.proofs.MemberLaws.{last_of}
use Rattle.lists.proofs.Cases.{three_ways}
use Rattle.words.specs.Number.{num}
use Rattle.net.specs.Net.{Net, arc}
use Rattle.net.specs.Route.{end_of, partial, length_of}
use Rattle.net.specs.Limits.{most_length}
use Rattle.net.proofs.Valid.{Sound}
use Rattle.net.proofs.Order.{AtMost, length_of-append}
use Rattle.net.proofs.Lengths.{length_of-most}
use Rattle.net.proofs.Chains.{Leaves, leaves-e, chain_next, end_of-more, partial-chain, partial-front}
use Rattle.net.proofs.Listing.{partial-short, end_below}
use Rattle.distances.specs.Distance.{FirstRoute}
use Rattle.distances.specs.Search.{Found, Steady}
use Rattle.distances.specs.Turned.{reversed}
use Rattle.distances.specs.Deep.{Deep, Branch}
use Rattle.distances.specs.Greedy.{Pick, Greedy}
use Rattle.distances.proofs.Dijkstra.{found-steady, along-at-most}
use Rattle.distances.proofs.Trace.{trace-end}
use Rattle.distances.proofs.Greedy.{far-at-most, to-t-relaxed, to-t-first, greedy-route}
use Rattle.distances.proofs.Firsts.{deep-few, near-seen, branch-length, branch-first}
use Rattle.via.specs.Joined.{Entered, Sooner}
use Rattle.via.proofs.Order.{order-of}
use Rattle.table.specs.Table.{records}
use Rattle.table.proofs.NetLaws.{arcs-length, table-sound}
use Rattle.search_ask.specs.declared.Ask.{Ask}
use Rattle.search_ask.specs.Ask.{Accepted, net_for}
use Rattle.search_ask.proofs.AskLaws.{nodes-most, lengths-most}
use Rattle.working_room.specs.Field.{room_bytes}
use Rattle.reach.specs.Stand.{dist_in, last_in}
use Rattle.first_routes.specs.Firsts.{far, forth, back, none, rank_in, seen_in, Picked}
use Rattle.via_chains.specs.Chains.{Prepared, climb, descend, to_in, on_in, joined_in, both_in, no_key, key_for}

-- ---- up to s by last arcs

module _ (net : Net) (s : ℕ) (l : List ℕ) where
  abbrev last : ℕ → ℕ
  last v = last_in forth l v

  abbrev Follows : List ℕ → Type 0
  Follows r = (a : ℕ) → Memᴰ a r → last (arc net.arcs a).to ≡ a

  climb-s : (f v : ℕ) → v ≡ s → climb net.arcs s l f v ≡ []
  unfolding climb
  climb-s zero v e = refl
  climb-s (suc f) v e = rw (eq-eqb v s e)

  climb-more : (f v : ℕ) → v ≢ s → climb net.arcs s l (suc f) v ≡ climb net.arcs s l f (arc net.arcs (last v)).from ++ (last v ∷ [])
  unfolding climb
  climb-more f v ne = rw (ne_eqb v s ne)

  -- r comes to v by v's last arc
  record LastOf (v : ℕ) (r : List ℕ) : Type 0 where
    pub front : List ℕ
    pub whole : r ≡ front ++ (last v ∷ [])
    pub is-partial : T (partial net s front)
    pub ends : end_of net.arcs s front ≡ (arc net.arcs (last v)).from
    pub follows : Follows front
    pub is-leaving : Leaves net (end_of net.arcs s front) (last v)
    pub comes : (arc net.arcs (last v)).to ≡ v

  last-arc : (v : ℕ) (r : List ℕ) → T (partial net s r) → end_of net.arcs s r ≡ v → Follows r → v ≢ s → LastOf v r
  unfolding end_of
  last-arc v r h e w ne = go (last_of r)
    where
      go : (r ≡ []) ⊎ ((x : List ℕ) × (a : ℕ) × (r ≡ x ++ (a ∷ []))) → LastOf v r
      go (inl z) = absurd (ne (sym e ∙ ap (end_of net.arcs s) z))
      go (inr k) =
          let x = k.0 in
          let a = k.1 in
          let to : (arc net.arcs a).to ≡ v = sym (end_of-more net.arcs s x a) ∙ ap (end_of net.arcs s) (sym k.2) ∙ e in
          let is : a ≡ last v = sym (w a (subst (Memᴰ a) (sym k.2) (Memᴰ.append_right x (Memᴰ.head refl)))) ∙ ap last to in
          let p : T (partial net s (x ++ (a ∷ []))) = subst (λ z. T (partial net s z)) k.2 h in
          let b = leaves-e net (end_of net.arcs s x) a (chain_next net s x a [] (partial-chain net s (x ++ (a ∷ [])) p)) in
          record {
            front = x;
            whole = k.2 ∙ ap (λ b. x ++ (b ∷ [])) is;
            is-partial = partial-front net s x (a ∷ []) p;
            ends = sym b.starts ∙ ap (λ b. (arc net.arcs b).from) is;
            follows = λ b m. w b (subst (Memᴰ b) (sym k.2) (Memᴰ.append_left (a ∷ []) m));
            is-leaving = subst (Leaves net (end_of net.arcs s x)) is b;
            comes = ap (λ b. (arc net.arcs b).to) (sym is) ∙ to;
          }

  -- a partial route that comes back to s is empty
  back-empty : (r : List ℕ) → T (partial net s r) → end_of net.arcs s r ≡ s → Follows r → r ≡ []
  back-empty r h e w = sym (trace-end net s last r h w r [] (record { whole = sym (append-nil r); at = e }))

  climb-is : (f v : ℕ) (r : List ℕ) → T (partial net s r) → end_of net.arcs s r ≡ v → Follows r → length r ≤ f → climb net.arcs s l f v ≡ r
  unfolding climb
  climb-is zero v [] h e w k = refl
  climb-is zero v (a ∷ r) h e w k = absurd (omega arith)
  climb-is (suc f) v r h e w k = go (λ x q. climb-is f x q) (ℕ_discrete v s)
    where
      go : ((x : ℕ) (q : List ℕ) → T (partial net s q) → end_of net.arcs s q ≡ x → Follows q → length q ≤ f → climb net.arcs s l f x ≡ q)
          → Dec (v ≡ s) → climb net.arcs s l (suc f) v ≡ r
      go below (yes z) = climb-s (suc f) v z ∙ sym (back-empty r h (e ∙ z) w)
      go below (no z) =
          let x = last-arc v r h e w z in
          climb-more f v z ∙ ap (λ q. q ++ (last v ∷ []))
          (below (arc net.arcs (last v)).from x.front x.is-partial x.ends x.follows (omega (arith, ap length x.whole, length-append x.front (last v ∷ []))))
          ∙ sym x.whole

-- ---- on to t by first arcs

module _ (net : Net) (t : ℕ) (l : List ℕ) where
  abbrev next : ℕ → ℕ
  next v = last_in back l v

  abbrev D : ℕ → ℕ
  D = dist_in back net.nodes l

  descend-t : (f v : ℕ) → v ≡ t → descend net.arcs t l f v ≡ []
  unfolding descend
  descend-t zero v e = refl
  descend-t (suc f) v e = rw (eq-eqb v t e)

  descend-more : (f v : ℕ) → v ≢ t → descend net.arcs t l (suc f) v ≡ next v ∷ descend net.arcs t l f (arc net.arcs (next v)).to
  unfolding descend
  descend-more f v ne = rw (ne_eqb v t ne)

  module _ (picked : Picked net t l) (sound : Sound net) (zero-t : D t ≡ 0) where
    -- the greedy chain begins with the arc that was picked
    greedy-arc : (v a : ℕ) (p : List ℕ) → v < net.nodes → D v < far → Greedy net t D v (a ∷ p) → (v ≢ t) × (next v ≡ a) × (D (arc net.arcs a).to < far)
    unfolding Greedy
    greedy-arc v a p h k g =
        let ne : v ≢ t = λ e. absurd (omega (arith, ap D e, zero-t, g.0.nearer.just, sound.positive a)) in
        let b = picked.each v h ne k in
        (ne, omega (arith, b.lowest a g.0.nearer, g.0.lowest (next v) b.nearer), omega (arith, g.0.nearer.just))

    descend-is : (f v : ℕ) (p : List ℕ) → v < net.nodes → D v < far → Greedy net t D v p → length p ≤ f → descend net.arcs t l f v ≡ p
    unfolding Greedy
    descend-is f v [] h k g n = descend-t f v g
    descend-is zero v (a ∷ p) h k g n = absurd (omega arith)
    descend-is (suc f) v (a ∷ p) h k g n =
        let x = greedy-arc v a p h k g in
        descend-more f v x.0 ∙ ap₂ ◌∷◌ x.1
        (ap (λ b. descend net.arcs t l f (arc net.arcs b).to) x.1
        ∙ descend-is f (arc net.arcs a).to p (sound.to_below a) x.2 g.1 (omega arith))

-- ---- in a room that was prepared

-- From v back over its last arc.
pub record StepTo (ask : Ask) (table closed l : List ℕ) (v : ℕ) : Type 0 where
  pub is-arc : last_in forth l v < records table
  pub is-usable : T ((net_for ask table closed).usable (last_in forth l v))
  pub below : (arc (net_for ask table closed).arcs (last_in forth l v)).from < ask.nodes
  pub near : dist_in forth ask.nodes l (arc (net_for ask table closed).arcs (last_in forth l v)).from < far
  pub comes : (arc (net_for ask table closed).arcs (last_in forth l v)).to ≡ v
  pub joins : to_in (net_for ask table closed) ask.s l v
      ≡ to_in (net_for ask table closed) ask.s l (arc (net_for ask table closed).arcs (last_in forth l v)).from ++ (last_in forth l v ∷ [])

-- From v on over its first arc.
pub record StepOn (ask : Ask) (table closed l : List ℕ) (v : ℕ) : Type 0 where
  pub is-arc : last_in back l v < records table
  pub is-usable : T ((net_for ask table closed).usable (last_in back l v))
  pub below : (arc (net_for ask table closed).arcs (last_in back l v)).to < ask.nodes
  pub near : dist_in back ask.nodes l (arc (net_for ask table closed).arcs (last_in back l v)).to < far
  pub starts : (arc (net_for ask table closed).arcs (last_in back l v)).from ≡ v
  pub joins : on_in (net_for ask table closed) ask.goal l v
      ≡ last_in back l v ∷ on_in (net_for ask table closed) ask.goal l (arc (net_for ask table closed).arcs (last_in back l v)).to

module _ (ask : Ask) (table closed l : List ℕ) (acc : Accepted ask table) (P : Prepared (net_for ask table closed) ask.s ask.goal l) where
  abbrev net : Net
  net = net_for ask table closed

  abbrev π : ℕ → ℕ
  π = dist_in forth ask.nodes l

  abbrev δ : ℕ → ℕ
  δ = dist_in back ask.nodes l

  abbrev to : ℕ → List ℕ
  to = to_in net ask.s l

  abbrev on : ℕ → List ℕ
  on = on_in net ask.goal l

  sound : Sound net
  sound = table-sound ask.nodes table acc.no-fault closed

  steady : Steady net ask.s π
  steady = found-steady net ask.s far π P.from-s.0 P.from-s.1

  near-ranked : (v : ℕ) → π v < far → T (seen_in ask.nodes l v)
  near-ranked v h =
      near-seen net ask.s π steady sound.positive (seen_in ask.nodes l) (last_in forth l) (rank_in l) P.ranked.many (length net.arcs) P.ranked.deep (omega arith)
      far P.from-s.0 P.from-s.1 v h

  climbed : (v : ℕ) (r : List ℕ) → T (partial net ask.s r) → end_of net.arcs ask.s r ≡ v → Follows net ask.s l r → to v ≡ r
  unfolding to_in
  climbed v r h e w = climb-is net ask.s l ask.nodes v r h e w (omega (arith, partial-short net ask.s acc.s-below sound.to_below r h))

  to-branch : (v : ℕ) → π v < far → Branch net ask.s π (last_in forth l) v (to v)
  to-branch v h =
      let w = P.ranked.deep.branch v (near-ranked v h) in
      let f = branch-first net ask.s π steady sound.positive (last_in forth l) v w.0 w.1 in
      subst (Branch net ask.s π (last_in forth l) v) (sym (climbed v w.0 f.is-partial f.ends w.1.follows)) w.1

  -- v need not be below: past the nodes there is no distance
  pub to-first : (v : ℕ) → v < ask.nodes → π v < far → FirstRoute net ask.s v (to v)
  to-first v b h = branch-first net ask.s π steady sound.positive (last_in forth l) v (to v) (to-branch v h)

  pub to-length : (v : ℕ) → v < ask.nodes → π v < far → length_of net.arcs (to v) ≡ π v
  to-length v b h = branch-length net ask.s π steady sound.positive (last_in forth l) v (to v) (to-branch v h)

  pub to_start : to ask.s ≡ []
  unfolding to_in
  to_start = climb-s net ask.s l ask.nodes ask.s refl

  pub to_step : (v : ℕ) → v < ask.nodes → v ≢ ask.s → π v < far → StepTo ask table closed l v
  to_step v b ne h =
      let f = to-first v b h in
      let x = last-arc net ask.s l v (to v) f.is-partial f.ends (to-branch v h).follows ne in
      let a = last_in forth l v in
      let e = climbed (arc net.arcs a).from x.front x.is-partial x.ends x.follows in
      record {
        is-arc = omega (arith, x.is-leaving.is-arc, arcs-length table);
        is-usable = x.is-leaving.is-usable;
        below = omega (arith, x.ends, end_below net ask.s acc.s-below sound.to_below x.front);
        near = omega (
          arith,
          to-length v b h,
          ap (length_of net.arcs) x.whole,
          length_of-append net.arcs x.front (a ∷ []),
          along-at-most net π steady.relaxed ask.s x.front (partial-chain net ask.s x.front x.is-partial),
          ap π x.ends,
          steady.zero-s,
        );
        comes = x.comes;
        joins = x.whole ∙ ap (λ q. q ++ (a ∷ [])) (sym e);
      }

  -- ---- to t

  zero-t : δ ask.goal ≡ 0
  zero-t = P.to-t.1.zero-s

  module _ (v : ℕ) (b : v < ask.nodes) (h : δ v < far) where
    on-is : (p : List ℕ) → Greedy net ask.goal δ v p → T (partial net v p) → on v ≡ p
    unfolding on_in
    on-is p g k = descend-is net ask.goal l P.picked sound zero-t ask.nodes v p b h g (omega (arith, partial-short net v b sound.to_below p k))

    pub on-first : FirstRoute net v ask.goal (on v)
    on-first =
        let w = to-t-first net ask.goal far δ P.to-t.0 P.to-t.1 sound.positive v h in
        subst (FirstRoute net v ask.goal) (sym (on-is w.0 w.1 w.2.is-partial)) w.2

    pub on-length : length_of net.arcs (on v) ≡ δ v
    on-length =
        let w = to-t-first net ask.goal far δ P.to-t.0 P.to-t.1 sound.positive v h in
        ap (length_of net.arcs) (on-is w.0 w.1 w.2.is-partial) ∙ w.3

  pub on-start : on ask.goal ≡ []
  unfolding on_in
  on-start = descend-t net ask.goal l ask.nodes ask.goal refl

  pub on_step : (v : ℕ) → v < ask.nodes → v ≢ ask.goal → δ v < far → StepOn ask table closed l v
  unfolding Greedy
  on_step v b ne h =
      let a = last_in back l v in
      let z = (arc net.arcs a).to in
      let k = P.picked.each v b ne h in
      let o = leaves-e net v a k.nearer.is-leaving in
      let near : δ z < far = omega (arith, k.nearer.just) in
      let w = to-t-first net ask.goal far δ P.to-t.0 P.to-t.1 sound.positive z near in
      let f =
      greedy-route net ask.goal δ zero-t (to-t-relaxed net ask.goal far δ P.to-t.0 P.to-t.1) sound.positive far P.to-t.1.most v (a ∷ w.0) (k, w.1) in
      record {
        is-arc = omega (arith, o.is-arc, arcs-length table);
        is-usable = o.is-usable;
        below = sound.to_below a;
        near = near;
        starts = o.starts;
        joins = on-is v b h (a ∷ w.0) (k, w.1) f.is-partial ∙ ap (λ q. a ∷ q) (sym (on-is z (sound.to_below a) near w.0 w.1 w.2.is-partial));
      }

  -- ---- both

  -- no partial route is as long as `far`
  beyond : (v : ℕ) → v < ask.nodes → (p : List ℕ) → T (partial net v p) → length_of net.arcs p < far
  beyond v b p h =
      omega (
        arith,
        length_of-most net.arcs most_length (lengths-most acc) p,
        partial-short net v b sound.to_below p h,
        nodes-most acc,
      )

  pub both-near : (v : ℕ) → both_in ask.nodes l v ≡ true → (π v < far) × (δ v < far)
  both-near v e =
      let x = ltb (π v) far in
      let y = ltb (δ v) far in
      let h : T (x && y) = subst T (sym e) tt in
      (ltb→lt (π v) far (and_l x y h), ltb→lt (δ v) far (and_r x y h))

  pub near-both : (v : ℕ) → π v < far → δ v < far → both_in ask.nodes l v ≡ true
  near-both v h k = ap₂ ◌&&◌ (lt-ltb (π v) far h) (lt-ltb (δ v) far k)

  pub both-all : (v : ℕ) (p r : List ℕ) → FirstRoute net ask.s v p → FirstRoute net v ask.goal r → (v < ask.nodes) × (both_in ask.nodes l v ≡ true)
  both-all v p r f g =
      let b : v < ask.nodes = omega (arith, f.ends, end_below net ask.s acc.s-below sound.to_below p) in (
        b,
        near-both v
            (omega (
              arith,
              beyond ask.s acc.s-below p f.is-partial,
              along-at-most net π steady.relaxed ask.s p (partial-chain net ask.s p f.is-partial),
              steady.zero-s,
              ap π f.ends,
            ))
            (omega (
              arith,
              beyond v b r g.is-partial,
              far-at-most net ask.goal δ zero-t (to-t-relaxed net ask.goal far δ P.to-t.0 P.to-t.1) v r (partial-chain net v r g.is-partial) g.ends,
            )),
      )

  -- ---- the keys

  pub key-some : (v : ℕ) → both_in ask.nodes l v ≡ true → key_for ask.nodes l v ≡ (π v + δ v) * 65536 + rank_in l v
  unfolding key_for
  key-some v e = rw e

  pub key-none : (v : ℕ) → both_in ask.nodes l v ≡ false → key_for ask.nodes l v ≡ no_key
  unfolding key_for
  key-none v e = rw e

  rank-small : (v : ℕ) → π v < far → rank_in l v < 65536
  rank-small v h =
      omega (
        arith,
        P.ranked.deep.ranked v (near-ranked v h),
        deep-few net ask.s π steady sound.positive (seen_in ask.nodes l) (last_in forth l) (rank_in l) P.ranked.many [] (length net.arcs) P.ranked.deep
            acc.s-below sound.to_below,
        nodes-most acc,
      )

  pub key_below : (v : ℕ) → both_in ask.nodes l v ≡ true → key_for ask.nodes l v < no_key
  key_below v e = let k = both-near v e in omega (arith, key-some v e, rank-small v k.0)

  entered : (v : ℕ) → v < ask.nodes → both_in ask.nodes l v ≡ true → Entered net ask.s ask.goal π (seen_in ask.nodes l) (last_in forth l) to on v
  entered v b e =
      let k = both-near v e in
      record { is_seen = near-ranked v k.0; is-branch = to-branch v k.0; is-on = on-first v b k.1 }

  pub joined_length : (v : ℕ) → v < ask.nodes → both_in ask.nodes l v ≡ true → length_of net.arcs (joined_in net ask.s ask.goal l v) ≡ π v + δ v
  unfolding joined_in
  joined_length v b e = let k = both-near v e in omega (arith, length_of-append net.arcs (to v) (on v), to-length v b k.0, on-length v b k.1)

  module _ (v w : ℕ) (bv : v < ask.nodes) (bw : w < ask.nodes) (ev : both_in ask.nodes l v ≡ true) (ew : both_in ask.nodes l w ≡ true) where
    sooner : key_for ask.nodes l v < key_for ask.nodes l w → (len : ℕ → ℕ) → len v ≡ π v + δ v → len w ≡ π w + δ w → Sooner len (rank_in l) v w
    sooner h len i j = go (three_ways (len v) (len w))
      where
        go : (len v < len w) ⊎ (len v ≡ len w) ⊎ (len w < len v) → Sooner len (rank_in l) v w
        go (inl k) = inl k
        go (inr (inl k)) = inr (k, omega (arith, key-some v ev, key-some w ew))
        go (inr (inr k)) = absurd (omega (arith, key-some v ev, key-some w ew, rank-small w (both-near w ew).0))

    pub key-order : key_for ask.nodes l v < key_for ask.nodes l w
        → AtMost (length_of net.arcs) (joined_in net ask.s ask.goal l v) (joined_in net ask.s ask.goal l w)
    unfolding joined_in
    key-order h =
        order-of net ask.s ask.goal π steady sound.positive (seen_in ask.nodes l) (last_in forth l) (rank_in l) P.ranked.many [] (length net.arcs) P.ranked.deep
        to on v w (entered v bv ev) (entered w bw ew)
        (sooner h (λ x. length_of net.arcs (joined_in net ask.s ask.goal l x)) (joined_length v bv ev) (joined_length w bw ew))

    pub key_apart : key_for ask.nodes l v ≡ key_for ask.nodes l w → v ≡ w
    key_apart h =
        let x = (both-near v ev).0 in
        let y = (both-near w ew).0 in
        P.ranked.deep.apart v w (near-ranked v x) (near-ranked w y) (omega (arith, key-some v ev, key-some w ew, rank-small v x, rank-small w y))

-- ---- a room in which the fields that a candidate is read from are as they were

module _ (n : ℕ) (l m : List ℕ) (field : (j v p : ℕ) → 12 ≤ p → p + j ≤ 40 → num j m (v * room_bytes + p) ≡ num j l (v * room_bytes + p)) where
  forth-same : dist_in forth n m ≡ dist_in forth n l
  forth-same = fun_ext (λ v. ap (λ x. cond (ltb v n) x far) (field 8 v 12 (omega arith) (omega arith)))

  back-same : dist_in back n m ≡ dist_in back n l
  back-same = fun_ext (λ v. ap (λ x. cond (ltb v n) x far) (field 8 v 32 (omega arith) (omega arith)))

  last-same : last_in forth m ≡ last_in forth l
  last-same = fun_ext (λ v. field 4 v 20 (omega arith) (omega arith))

  next-same : last_in back m ≡ last_in back l
  next-same = fun_ext (λ v. field 4 v 28 (omega arith) (omega arith))

  rank_same : rank_in m ≡ rank_in l
  rank_same = fun_ext (λ v. field 4 v 24 (omega arith) (omega arith))

  pub both-beside : (v : ℕ) → both_in n m v ≡ both_in n l v
  both-beside v = ap₂ (λ x y. ltb (x v) far && ltb (y v) far) forth-same back-same

  pub key-beside : (v : ℕ) → key_for n m v ≡ key_for n l v
  unfolding key_for
  key-beside v =
      ap₂ (λ x y. cond (ltb (x v) far && ltb (y v) far) ((x v + y v) * 65536 + rank_in m v) no_key) forth-same back-same
      ∙ ap (λ x. cond (both_in n l v) ((dist_in forth n l v + dist_in back n l v) * 65536 + x v) no_key) rank_same

module _ (net : Net) (s t : ℕ) (l m : List ℕ) (field : (j v p : ℕ) → 12 ≤ p → p + j ≤ 40 → num j m (v * room_bytes + p) ≡ num j l (v * room_bytes + p)) where
  climb-same : (f v : ℕ) → climb net.arcs s m f v ≡ climb net.arcs s l f v
  unfolding climb
  climb-same zero v = refl
  climb-same (suc f) v =
      ap (λ b. cond (eqb v s) [] (climb net.arcs s m f (arc net.arcs (b v)).from ++ (b v ∷ []))) (last-same net.nodes l m field)
      ∙ ap (λ q. cond (eqb v s) [] (q ++ (last_in forth l v ∷ []))) (climb-same f (arc net.arcs (last_in forth l v)).from)

  descend-same : (f v : ℕ) → descend net.arcs t m f v ≡ descend net.arcs t l f v
  unfolding descend
  descend-same zero v = refl
  descend-same (suc f) v =
      ap (λ b. cond (eqb v t) [] (b v ∷ descend net.arcs t m f (arc net.arcs (b v)).to)) (next-same net.nodes l m field)
      ∙ ap (λ q. cond (eqb v t) [] (last_in back l v ∷ q)) (descend-same f (arc net.arcs (last_in back l v)).to)

  pub to-beside : (v : ℕ) → to_in net s m v ≡ to_in net s l v
  unfolding to_in
  to-beside v = climb-same net.nodes v

  pub on-beside : (v : ℕ) → on_in net t m v ≡ on_in net t l v
  unfolding on_in
  on-beside v = descend-same net.nodes v

  pub joined-beside : (v : ℕ) → joined_in net s t m v ≡ joined_in net s t l v
  unfolding joined_in
  joined-beside v = ap₂ ◌++◌ (to-beside v) (on-beside v)

  pub prepared-beside : length m ≡ length l → Prepared net s t l → Prepared net s t m
  prepared-beside long P =
      let n = net.nodes in
      record {
        roomy = record { few = P.roomy.few; enough = omega (arith, P.roomy.enough) };
        from-s = (P.from-s.0, subst (λ d. Found net s far d P.from-s.0) (sym (forth-same n l m field)) P.from-s.1);
        to-t = (P.to-t.0, subst (λ d. Found (reversed net) t far d P.to-t.0) (sym (back-same n l m field)) P.to-t.1);
        ranked = record {
          many = P.ranked.many;
          deep = subst (λ d. Walked d (last_in forth m) (rank_in m)) (sym (forth-same n l m field))
              (subst (λ b. Walked (dist_in forth n l) b (rank_in m)) (sym (last-same n l m field))
              (subst (λ r. Walked (dist_in forth n l) (last_in forth l) r) (sym (rank_same n l m field)) P.ranked.deep));
        };
        picked = record { each = subst (λ d. First d (last_in back m)) (sym (back-same n l m field)) (subst (First (dist_in back n l)) (sym (next-same n l m field)) P.picked.each) };
      }
    where
      Walked : (ℕ → ℕ) → (ℕ → ℕ) → (ℕ → ℕ) → Type 0
      Walked d b r = Deep net s d (λ v. cond (ltb v net.nodes) (not (eqb (r v) none)) false) b r P.ranked.many [] (length net.arcs)

      First : (ℕ → ℕ) → (ℕ → ℕ) → Type 0
      First d b = (v : ℕ) → v < net.nodes → v ≢ t → d v < far → Pick net d v (b v)
