-- Where the walk stands is a state of `Deep`, at the chain p gone down by. Arcs that do not leave p's end may be passed, so the next arc to try is the next open one
-- of the end's run. p is read back from its end by the last arcs: by it what is left to do is told. An arc passed is one fewer to try; back by arc a leaves
-- the arcs above a; a node entered brings at most all arcs anew, and one node fewer to enter.
use mathlib.Core.Path.{◌≡◌, refl, sym, ap, subst, ◌∙◌}
use mathlib.Core.Logic.{◌≢◌, ◌⊎◌, inl, inr}
use mathlib.Core.Bool.{Bool, true, false, not, ◌&&◌}
use mathlib.Core.List.Memᴰ
use mathlib.Core.List.{List, [], ◌∷◌, ◌++◌, Memᴰ}
use Rattle.std.proofs.Common.{Some, None}
use Prim.Native.Nat.{ℕ, zero, suc, ◌+◌, ◌-◌, ◌*◌, ◌≤◌, ◌<◌}
use native.Mathlib.Nat.{add-zero}
use native.Mathlib.Omega.{arith}
use native.Mathlib.Decide.{ℕ_discrete}
use lib.Dec.{T, eqb}
use lib.ListN.{length}
use borrow.Author.Tests.{eqb-true, eq-eqb, ne_eqb}
use Rattle.lists.proofs.MemberLaws.{last_of}
use Rattle.net.specs.Limits.{most_nodes, most_arcs}
use Rattle.net.specs.Net.{arc}
use Rattle.net.specs.Route.{end_of, leaves, length_of}
use Rattle.net.proofs.Order.{length_of-append}
use Rattle.net.proofs.Chains.{leaves-e, chain-front, chain_next, end_of-more}
use Rattle.net.proofs.Listing.{end_below}
use Rattle.table.specs.Table.{records, from_at, to_at, len_at, arcs_of, net_of}
use Rattle.table.specs.Run.{run_start}
use Rattle.table.proofs.FaultLaws.{all-good, good-size}
use Rattle.table.proofs.NetLaws.{arcs-length, arc-is, table-sound}
use Rattle.table.proofs.RunLaws.{run-le, run-mono}
use Rattle.closures.specs.Closed.{next_open}
use Rattle.distances.specs.Search.{Steady}
use Rattle.distances.specs.Deep.{Just, Short, Deep}
use Rattle.distances.proofs.Firsts.{short-length, deep-start, deep-pass, deep-down, deep-up}
use Rattle.working_room.specs.Field.{room_bytes, long_at, Within}
use Rattle.reach.specs.Stand.{dist_in, last_in}
use Rattle.first_routes.specs.Firsts.{forth, none, rank_in, seen_in, Ranked}
use Rattle.first_routes.specs.Walking.{Ready, unentered, OnWay, Stood, behind, left, leads_on, entered, up_from}
use Rattle.first_routes.specs.declared.walk.At.{At}
use Rattle.first_routes.proofs.OutLaws.{out-run, run_out, next-within, next_past, dist-at, measured-same}
use Rattle.first_routes.proofs.CountLaws.{count-fewer, count-but-one}
use Rattle.first_routes.proofs.EnterLaws.{seen-e, seen-i, seen_same, unseen, forth-same, enter-within, enter-last, enter-last-other, enter-rank, enter-rank-other}

-- What the room tells of the walk, gone down by p, and of chains.
abbrev Going : ℕ → List ℕ → List ℕ → ℕ → List ℕ → ℕ → List ℕ → ℕ → Type 0
Going nodes t closed s l m p c = Deep (net_of nodes t closed) s (dist_in forth nodes l) (seen_in nodes l) (last_in forth l) (rank_in l) m p c

abbrev Shortest : ℕ → List ℕ → List ℕ → ℕ → List ℕ → List ℕ → Type 0
Shortest nodes t closed s l p = Short (net_of nodes t closed) s (dist_in forth nodes l) p

-- The arcs above those of a chain.
unfoldable above : List ℕ → List ℕ → ℕ
above t [] = 0
above t (a ∷ p) = records t - a + above t p

above_more : (t p : List ℕ) (a : ℕ) → above t (p ++ (a ∷ [])) ≡ above t p + (records t - a)
unfolding above
above_more t [] a = omega arith
above_more t (b ∷ p) a = omega (arith, above_more t p a)

-- ---- what the test of an arc says

module _ (t l : List ℕ) (v a : ℕ) where
  pub leads-off : (long_at 12 l v + len_at t a ≡ long_at 12 l (to_at t a) → ⊥) → leads_on t l v a ≡ false
  unfolding leads_on
  leads-off ne = rw (ne_eqb (long_at 12 l v + len_at t a) (long_at 12 l (to_at t a)) ne)

  pub leads-by : long_at 12 l v + len_at t a ≡ long_at 12 l (to_at t a) → leads_on t l v a ≡ eqb (rank_in l (to_at t a)) none
  unfolding leads_on
  leads-by e = rw (eq-eqb (long_at 12 l v + len_at t a) (long_at 12 l (to_at t a)) e)

  leads-e : leads_on t l v a ≡ true → (long_at 12 l v + len_at t a ≡ long_at 12 l (to_at t a)) × (rank_in l (to_at t a) ≡ none)
  unfolding leads_on
  leads-e h = go (eqb (long_at 12 l v + len_at t a) (long_at 12 l (to_at t a))) (eqb (rank_in l (to_at t a)) none) refl refl h
    where
      go : (x y : Bool) → eqb (long_at 12 l v + len_at t a) (long_at 12 l (to_at t a)) ≡ x → eqb (rank_in l (to_at t a)) none ≡ y → (x && y) ≡ true
          → (long_at 12 l v + len_at t a ≡ long_at 12 l (to_at t a)) × (rank_in l (to_at t a) ≡ none)
      go true true e f k = (eqb-true _ _ e, eqb-true _ _ f)
      go true false e f k = absurd (subst T (sym k) tt)
      go false y e f k = absurd (subst T (sym k) tt)

  leads-not : leads_on t l v a ≡ false → long_at 12 l v + len_at t a ≡ long_at 12 l (to_at t a) → rank_in l (to_at t a) ≢ none
  unfolding leads_on
  leads-not h e z = go (eqb (long_at 12 l v + len_at t a) (long_at 12 l (to_at t a))) (eqb (rank_in l (to_at t a)) none) (eq-eqb _ _ e) (eq-eqb _ _ z) h
    where
      go : (x y : Bool) → x ≡ true → y ≡ true → (x && y) ≡ false → ⊥
      go true true e f k = subst T k tt
      go true false e f k = subst T (sym f) tt
      go false y e f k = subst T (sym e) tt

-- ---- what going up makes of the state

module _ (t : List ℕ) (s : ℕ) (l : List ℕ) (x : At) where
  pub up-over : x.v ≡ s → up_from t s l x ≡ None
  unfolding up_from
  up-over e = rw (eq-eqb x.v s e)

  pub up-back : (a : ℕ) → x.v ≢ s → last_in forth l x.v ≡ a → up_from t s l x ≡ Some (record { v = from_at t a; arc = a + 1; many = x.many })
  unfolding up_from
  up-back a ne e = rw (ne_eqb x.v s ne, e)

left_over : (nodes : ℕ) (t : List ℕ) (s : ℕ) (l : List ℕ) → left nodes t s l None ≡ 0
unfolding left
left_over nodes t s l = refl

module _ (nodes : ℕ) (t closed : List ℕ) (s : ℕ) (l : List ℕ) (r : Ready nodes t closed s l) where
  positive : (a : ℕ) → 0 < (arc (arcs_of t) a).len
  positive = (table-sound nodes t r.measured.no-fault closed).positive

  -- ---- arcs that do not leave the end of p

  skip : (d m : ℕ) (p : List ℕ) (c : ℕ) → Going nodes t closed s l m p c
      → ((y : ℕ) → c ≤ y → y < c + d → T (leaves (net_of nodes t closed) (end_of (arcs_of t) s p) y) → ⊥)
      → Going nodes t closed s l m p (c + d)
  skip zero m p c st f = subst (Going nodes t closed s l m p) (sym (add-zero c)) st
  skip (suc d) m p c st f =
      let e : suc c + d ≡ c + suc d = omega arith in
      subst (Going nodes t closed s l m p) e
      (skip d m p (suc c) (deep-pass (net_of nodes t closed) s (dist_in forth nodes l) r.steady positive (seen_in nodes l) (last_in forth l) (rank_in l) m p c st (λ h j. absurd (f c (omega arith) (omega arith) h)))
      (λ y k u h. f y (omega arith) (omega arith) h))

  deep-skip : (m : ℕ) (p : List ℕ) (c e : ℕ) → c ≤ e → Going nodes t closed s l m p c
      → ((y : ℕ) → c ≤ y → y < e → T (leaves (net_of nodes t closed) (end_of (arcs_of t) s p) y) → ⊥)
      → Going nodes t closed s l m p e
  deep-skip m p c e h st f =
      let k : c + (e - c) ≡ e = omega arith in
      subst (Going nodes t closed s l m p) k (skip (e - c) m p c st (λ y a b g. f y a (omega arith) g))

  -- ---- the chain gone down by, read back from its end

  behind-s : (f : ℕ) → behind f t s l s ≡ 0
  unfolding behind
  behind-s zero = refl
  behind-s (suc f) = rw (eq-eqb s s refl)

  behind-step : (f v a : ℕ) → v ≢ s → last_in forth l v ≡ a → behind (suc f) t s l v ≡ behind f t s l (from_at t a) + (records t - a)
  unfolding behind
  behind-step f v a ne e = rw (ne_eqb v s ne, e)

  module _ (x : List ℕ) (a : ℕ) (h : Shortest nodes t closed s l (x ++ (a ∷ []))) where
    front : Shortest nodes t closed s l x
    front = record { is-chain = chain-front (net_of nodes t closed) s x (a ∷ []) h.is-chain; is-just = λ b m. h.is-just b (Memᴰ.append_left (a ∷ []) m) }

    last-leaves : T (leaves (net_of nodes t closed) (end_of (arcs_of t) s x) a)
    last-leaves = chain_next (net_of nodes t closed) s x a [] h.is-chain

    last-arc : a < records t
    last-arc = omega (arith, arcs-length t, (leaves-e (net_of nodes t closed) (end_of (arcs_of t) s x) a last-leaves).is-arc)

    last-from : from_at t a ≡ end_of (arcs_of t) s x
    last-from = rw (arc-is t a last-arc) at (leaves-e (net_of nodes t closed) (end_of (arcs_of t) s x) a last-leaves).starts

    longer : length_of (arcs_of t) (x ++ (a ∷ [])) ≡ length_of (arcs_of t) x + (arc (arcs_of t) a).len
    unfolding length_of
    longer = omega (arith, length_of-append (arcs_of t) x (a ∷ []))

    not-s : (arc (arcs_of t) a).to ≢ s
    not-s e =
        omega (arith, short-length (net_of nodes t closed) s (dist_in forth nodes l) r.steady positive (x ++ (a ∷ [])) h, ap (dist_in forth nodes l) (end_of-more (arcs_of t) s x a ∙ e), r.steady.zero-s, longer, positive a)

  behind-is : (f : ℕ) (p : List ℕ) → Shortest nodes t closed s l p → ((a : ℕ) → Memᴰ a p → last_in forth l (arc (arcs_of t) a).to ≡ a) → length_of (arcs_of t) p ≤ f
      → behind f t s l (end_of (arcs_of t) s p) ≡ above t p
  unfolding above end_of
  behind-is zero p h g k = go (last_of p)
    where
      go : (p ≡ []) ⊎ ((x : List ℕ) × (a : ℕ) × (p ≡ x ++ (a ∷ []))) → behind zero t s l (end_of (arcs_of t) s p) ≡ above t p
      go (inl e) = subst (λ q. behind zero t s l (end_of (arcs_of t) s q) ≡ above t q) (sym e) (behind-s zero)
      go (inr w) =
          absurd (omega (arith, k, ap (length_of (arcs_of t)) w.2, longer w.0 w.1 (subst (λ q. Shortest nodes t closed s l q) w.2 h), positive w.1))
  behind-is (suc f) p h g k = go (behind-is f) (last_of p)
    where
      go : ((x : List ℕ) → Shortest nodes t closed s l x → ((a : ℕ) → Memᴰ a x → last_in forth l (arc (arcs_of t) a).to ≡ a) → length_of (arcs_of t) x ≤ f → behind f t s l (end_of (arcs_of t) s x) ≡ above t x)
          → (p ≡ []) ⊎ ((x : List ℕ) × (a : ℕ) × (p ≡ x ++ (a ∷ []))) → behind (suc f) t s l (end_of (arcs_of t) s p) ≡ above t p
      go below (inl e) = subst (λ q. behind (suc f) t s l (end_of (arcs_of t) s q) ≡ above t q) (sym e) (behind-s (suc f))
      go below (inr w) =
          let x = w.0 in
          let a = w.1 in
          let d : Shortest nodes t closed s l (x ++ (a ∷ [])) = subst (λ q. Shortest nodes t closed s l q) w.2 h in
          let fol : (b : ℕ) → Memᴰ b (x ++ (a ∷ [])) → last_in forth l (arc (arcs_of t) b).to ≡ b = λ b m. g b (subst (Memᴰ b) (sym w.2) m) in
          let n : length_of (arcs_of t) x ≤ f = omega (arith, k, ap (length_of (arcs_of t)) w.2, longer x a d, positive a) in
          ap (λ q. behind (suc f) t s l (end_of (arcs_of t) s q)) w.2
          ∙ ap (behind (suc f) t s l) (end_of-more (arcs_of t) s x a)
          ∙ behind-step f (arc (arcs_of t) a).to a (not-s x a d) (fol a (Memᴰ.append_right x (Memᴰ.head refl)))
          ∙ ap (λ z. behind f t s l z + (records t - a)) (last-from x a d)
          ∙ ap (λ z. z + (records t - a)) (below x (front x a d) (λ b m. fol b (Memᴰ.append_left (a ∷ []) m)) n)
          ∙ sym (above_more t x a)
          ∙ ap (above t) (sym w.2)

  -- ---- where the walk stands

  module _ (x : At) (w : OnWay nodes t closed s l x) where
    pub v_below : x.v < nodes
    v_below = omega (arith, w.ends, end_below (net_of nodes t closed) s r.s-below (table-sound nodes t r.measured.no-fault closed).to_below w.stack)

    left_is : left nodes t s l (Some x) ≡ unentered nodes l * (records t + 2) + above t w.stack + (records t + 1 - x.arc)
    unfolding left
    left_is =
        let d = w.deep in
        let e : length_of (arcs_of t) w.stack ≡ long_at 12 l x.v =
        short-length (net_of nodes t closed) s (dist_in forth nodes l) r.steady positive w.stack d.stack ∙ ap (dist_in forth nodes l) w.ends ∙ dist-at forth nodes l x.v v_below in
        let b : behind (long_at 12 l x.v) t s l x.v ≡ above t w.stack =
        ap (behind (long_at 12 l x.v) t s l) (sym w.ends) ∙ behind-is (long_at 12 l x.v) w.stack d.stack d.stack-follows (omega (arith, e)) in
        rw b

    -- the arcs from `arc` on to the next open one do not leave v
    idle : (c : ℕ) → c ≡ next_open closed x.arc (run_start t (x.v + 1)) → (y : ℕ) → x.arc ≤ y → T (leaves (net_of nodes t closed) (end_of (arcs_of t) s w.stack) y) → (c ≤ y) × (y < run_start t (x.v + 1))
    idle c is y h o =
        let u = out-run nodes t closed r.measured.no-fault x.v y (subst (λ v. T (leaves (net_of nodes t closed) v y)) w.ends o) in
        (next_past closed x.arc (run_start t (x.v + 1)) c w.run-to is y h u.2, u.1)

    at_next : (c : ℕ) → c ≡ next_open closed x.arc (run_start t (x.v + 1)) → Going nodes t closed s l x.many w.stack c
    at_next c is =
        deep-skip x.many w.stack x.arc c (next-within closed x.arc (run_start t (x.v + 1)) c w.run-to is).0 w.deep (λ y h k o. omega (arith, (idle c is y h o).0))

    at-end : (c : ℕ) → c ≡ next_open closed x.arc (run_start t (x.v + 1)) → c ≡ run_start t (x.v + 1) → Going nodes t closed s l x.many w.stack (length (arcs_of t))
    at-end c is e =
        deep-skip x.many w.stack x.arc (length (arcs_of t)) (omega (arith, w.run-to, run-le t (x.v + 1), arcs-length t)) w.deep
        (λ y h k o. let i = idle c is y h o in omega (arith, i.0, i.1))

    -- the chain gone down by has a last arc, but at s
    by_last : x.v ≢ s → (p : List ℕ) × (a : ℕ) × (w.stack ≡ p ++ (a ∷ []))
    unfolding end_of
    by_last ne = go (last_of w.stack)
      where
        go : (w.stack ≡ []) ⊎ ((p : List ℕ) × (a : ℕ) × (w.stack ≡ p ++ (a ∷ []))) → (p : List ℕ) × (a : ℕ) × (w.stack ≡ p ++ (a ∷ []))
        go (inl e) = absurd (ne (sym w.ends ∙ ap (end_of (arcs_of t) s) e))
        go (inr k) = k

    at-s : x.v ≡ s → w.stack ≡ []
    at-s e = go (last_of w.stack)
      where
        go : (w.stack ≡ []) ⊎ ((p : List ℕ) × (a : ℕ) × (w.stack ≡ p ++ (a ∷ []))) → w.stack ≡ []
        go (inl k) = k
        go (inr k) =
            absurd (not-s k.0 k.1 (subst (λ q. Shortest nodes t closed s l q) k.2 w.deep.stack)
            (sym (end_of-more (arcs_of t) s k.0 k.1) ∙ ap (end_of (arcs_of t) s) (sym k.2) ∙ w.ends ∙ e))

    last-is : (p : List ℕ) (a : ℕ) → w.stack ≡ p ++ (a ∷ []) → last_in forth l x.v ≡ a
    last-is p a e =
        ap (last_in forth l) (sym w.ends ∙ ap (end_of (arcs_of t) s) e ∙ end_of-more (arcs_of t) s p a)
        ∙ w.deep.stack-follows a (subst (Memᴰ a) (sym e) (Memᴰ.append_right p (Memᴰ.head refl)))

    pub last-below : x.v ≢ s → last_in forth l x.v < records t
    last-below ne =
        let k = by_last ne in
        omega (arith, last-is k.0 k.1 k.2, last-arc k.0 k.1 (subst (λ q. Shortest nodes t closed s l q) k.2 w.deep.stack))

    -- the walk is over
    over-now : (c : ℕ) → c ≡ next_open closed x.arc (run_start t (x.v + 1)) → c ≡ run_start t (x.v + 1) → x.v ≡ s → Ranked (net_of nodes t closed) s l
    over-now c is e z = record { many = x.many; deep = subst (λ p. Going nodes t closed s l x.many p (length (arcs_of t))) (at-s z) (at-end c is e) }

    -- back by arc a
    back_on : (c : ℕ) → c ≡ next_open closed x.arc (run_start t (x.v + 1)) → c ≡ run_start t (x.v + 1) → (p : List ℕ) (a : ℕ) → w.stack ≡ p ++ (a ∷ [])
        → (y : OnWay nodes t closed s l (record { v = from_at t a; arc = a + 1; many = x.many })) × (y.stack ≡ p)
    back_on c is e p a k =
        let d : Shortest nodes t closed s l (p ++ (a ∷ [])) = subst (λ q. Shortest nodes t closed s l q) k w.deep.stack in
        let f = last-from p a d in
        let o = out-run nodes t closed r.measured.no-fault (from_at t a) a (subst (λ v. T (leaves (net_of nodes t closed) v a)) (sym f) (last-leaves p a d)) in
        let g : suc a ≡ a + 1 = omega arith in (
          record {
            stack = p;
            ends = sym f;
            deep = subst (λ n. Going nodes t closed s l x.many p n) g
                (deep-up (net_of nodes t closed) s (dist_in forth nodes l) r.steady positive (seen_in nodes l) (last_in forth l) (rank_in l) x.many p a (length (arcs_of t))
                (subst (λ q. Going nodes t closed s l x.many q (length (arcs_of t))) k (at-end c is e)) (omega arith));
            counted = w.counted;
            run-from = omega (arith, o.0);
            run-to = omega (arith, o.1);
          },
          refl,
        )

    -- ---- an arc of v

    module _ (c : ℕ) (is : c ≡ next_open closed x.arc (run_start t (x.v + 1))) (inside : c < run_start t (x.v + 1)) where
      arc-below : c < records t
      arc-below = omega (arith, run-le t (x.v + 1))

      arc-past : x.arc ≤ c
      arc-past = (next-within closed x.arc (run_start t (x.v + 1)) c w.run-to is).0

      arc-leaves : T (leaves (net_of nodes t closed) (end_of (arcs_of t) s w.stack) c)
      arc-leaves =
          let n = next-within closed x.arc (run_start t (x.v + 1)) c w.run-to is in
          subst (λ v. T (leaves (net_of nodes t closed) v c)) (sym w.ends) (run_out nodes t closed r.measured.no-fault x.v c (omega (arith, n.0, w.run-from)) inside (n.2 inside))

      arc-from : from_at t c ≡ x.v
      arc-from = (rw (arc-is t c arc-below) at (leaves-e (net_of nodes t closed) (end_of (arcs_of t) s w.stack) c arc-leaves).starts) ∙ w.ends

      arc-to : (arc (arcs_of t) c).to ≡ to_at t c
      arc-to = ap (λ q. q.to) (arc-is t c arc-below)

      to_below : to_at t c < nodes
      to_below = (all-good nodes t r.measured.no-fault c arc-below).end

      just-e : Just (net_of nodes t closed) (dist_in forth nodes l) c → long_at 12 l x.v + len_at t c ≡ long_at 12 l (to_at t c)
      just-e j =
          let k : dist_in forth nodes l (to_at t c) ≡ dist_in forth nodes l (from_at t c) + len_at t c = subst (λ q. dist_in forth nodes l q.to ≡ dist_in forth nodes l q.from + q.len) (arc-is t c arc-below) j in
          omega (arith, k, ap (dist_in forth nodes l) arc-from, dist-at forth nodes l x.v v_below, dist-at forth nodes l (to_at t c) to_below)

      just-i : long_at 12 l x.v + len_at t c ≡ long_at 12 l (to_at t c) → Just (net_of nodes t closed) (dist_in forth nodes l) c
      just-i e =
          let k : dist_in forth nodes l (to_at t c) ≡ dist_in forth nodes l (from_at t c) + len_at t c = omega (arith, ap (dist_in forth nodes l) arc-from, dist-at forth nodes l x.v v_below, dist-at forth nodes l (to_at t c) to_below) in
          subst (λ q. dist_in forth nodes l q.to ≡ dist_in forth nodes l q.from + q.len) (sym (arc-is t c arc-below)) k

      -- past it
      past-on : leads_on t l x.v c ≡ false → (y : OnWay nodes t closed s l (record { v = x.v; arc = c + 1; many = x.many })) × (y.stack ≡ w.stack)
      past-on not_on =
          let g : suc c ≡ c + 1 = omega arith in (
            record {
              stack = w.stack;
              ends = w.ends;
              deep = subst (λ n. Going nodes t closed s l x.many w.stack n) g
                  (deep-pass (net_of nodes t closed) s (dist_in forth nodes l) r.steady positive (seen_in nodes l) (last_in forth l) (rank_in l) x.many w.stack c (at_next c is)
                  (λ h j. subst (λ v. T (seen_in nodes l v)) (sym arc-to) (seen-i nodes l (to_at t c) to_below (leads-not t l x.v c not_on (just-e j)))));
              counted = w.counted;
              run-from = omega (arith, arc-past, w.run-from);
              run-to = omega arith;
            },
            refl,
          )

pub ready-same : (nodes : ℕ) (t closed : List ℕ) (s : ℕ) (l m : List ℕ) → Within 20 8 l m → Ready nodes t closed s l → Ready nodes t closed s m
ready-same nodes t closed s l m w r =
    let e = forth-same nodes l m w in
    record {
      measured = measured-same forth nodes t l m w.long e (λ v. w.field 4 v 56 refl refl) r.measured;
      s-below = r.s-below;
      steady = subst (Steady (net_of nodes t closed) s) (sym e) r.steady;
    }

-- ---- what is left falls

falls-back : (u b a c n : ℕ) → c ≤ n → u + b + (n + 1 - (a + 1)) < u + (b + (n - a)) + (n + 1 - c)
falls-back u b a c n h = omega arith

falls_down : (u b a c e n : ℕ) → c ≤ a → a < n → u * (n + 2) + (b + (n - a)) + (n + 1 - e) < (u + 1) * (n + 2) + b + (n + 1 - c)
falls_down u b a c e n h k = omega arith

falls-so : (u b a c e n : ℕ) {after before v d : ℕ} → after ≡ u * (n + 2) + d + (n + 1 - e) → d ≡ b + (n - a) → before ≡ v * (n + 2) + b + (n + 1 - c) → v ≡ u + 1 → c ≤ a → a < n → after < before
falls-so u b a c e n p q r g h k = rw (p, q, r, g) (falls_down u b a c e n h k)

module _ (nodes : ℕ) (t closed : List ℕ) (s : ℕ) (l : List ℕ) (r : Ready nodes t closed s l) (x : At) (w : OnWay nodes t closed s l x)
    (c : ℕ) (is : c ≡ next_open closed x.arc (run_start t (x.v + 1))) where
  in-run : x.arc ≤ records t
  in-run = omega (arith, w.run-to, run-le t (x.v + 1))

  pub up-on : c ≡ run_start t (x.v + 1) → Stood nodes t closed s l (up_from t s l x) × (left nodes t s l (up_from t s l x) < left nodes t s l (Some x))
  up-on e = go (ℕ_discrete x.v s)
    where
      go : Dec (x.v ≡ s) → Stood nodes t closed s l (up_from t s l x) × (left nodes t s l (up_from t s l x) < left nodes t s l (Some x))
      go (yes z) = subst (λ y. Stood nodes t closed s l y × (left nodes t s l y < left nodes t s l (Some x))) (sym (up-over t s l x z))
          (over-now nodes t closed s l r x w c is e z, omega (arith, left_over nodes t s l, left_is nodes t closed s l r x w, in-run))
      go (no ne) =
          let k = by_last nodes t closed s l r x w ne in
          let p = k.0 in
          let a = k.1 in
          let y : At = record { v = from_at t a; arc = a + 1; many = x.many } in
          let b : (z : OnWay nodes t closed s l y) × (z.stack ≡ p) = back_on nodes t closed s l r x w c is e p a k.2 in
          subst (λ y. Stood nodes t closed s l y × (left nodes t s l y < left nodes t s l (Some x))) (sym (up-back t s l x a ne (last-is nodes t closed s l r x w p a k.2))) (
            b.0,
            omega (arith, left_is nodes t closed s l r y b.0, ap (above t) b.1, left_is nodes t closed s l r x w, ap (above t) k.2, above_more t p a, falls-back (unentered nodes l * (records t + 2)) (above t p) a x.arc (records t) in-run),
          )

  pub past_by : c < run_start t (x.v + 1) → leads_on t l x.v c ≡ false
      → Stood nodes t closed s l (Some (record { v = x.v; arc = c + 1; many = x.many })) × (left nodes t s l (Some (record { v = x.v; arc = c + 1; many = x.many })) < left nodes t s l (Some x))
  past_by inside h =
      let y : At = record { v = x.v; arc = c + 1; many = x.many } in
      let b : (z : OnWay nodes t closed s l y) × (z.stack ≡ w.stack) = past-on nodes t closed s l r x w c is inside h in (
        b.0,
        omega (arith, left_is nodes t closed s l r y b.0, ap (above t) b.1, left_is nodes t closed s l r x w, arc-past nodes t closed s l r x w c is inside, arc-below nodes t closed s l r x w c is inside),
      )

  -- ---- down by arc c

  module _ (inside : c < run_start t (x.v + 1)) (on : leads_on t l x.v c ≡ true) where
    into : to_at t c < nodes
    into = to_below nodes t closed s l r x w c is inside

    few : (x.many ≤ most_nodes) × (c < most_arcs) × (to_at t c * room_bytes + room_bytes ≤ length l)
    few =
        let g = good-size nodes t r.measured.no-fault in
        (omega (arith, w.counted, g.1), omega (arith, arc-below nodes t closed s l r x w c is inside, g.3), omega (arith, into, r.measured.roomy.enough))

    rank-new : rank_in (entered l (to_at t c) c x.many) (to_at t c) ≡ x.many
    rank-new = enter-rank l (to_at t c) c x.many few.2 (omega (arith, few.0))

    fewer : unentered nodes (entered l (to_at t c) c x.many) + 1 ≡ unentered nodes l
    fewer =
        let m = entered l (to_at t c) c x.many in
        count-fewer (λ v. eqb (rank_in l v) none) (λ v. eqb (rank_in m v) none) nodes (to_at t c) into (eq-eqb _ _ (leads-e t l x.v c on).1) (ne_eqb (rank_in m (to_at t c)) none (λ z. omega (arith, few.0, rank-new)))
        (λ v k ne. ap (λ k. eqb k none) (enter-rank-other l (to_at t c) c x.many few.2 v ne))

    pub some_left : x.many < nodes
    some_left = omega (arith, w.counted, fewer)

    gone-down : Deep (net_of nodes t closed) s (dist_in forth nodes l) (seen_in nodes (entered l (to_at t c) c x.many)) (last_in forth (entered l (to_at t c) c x.many)) (rank_in (entered l (to_at t c) c x.many)) (suc x.many) (w.stack ++ (c ∷ [])) 0
    gone-down =
        let m = entered l (to_at t c) c x.many in
        let e = arc-to nodes t closed s l r x w c is inside in
        let u = leads-e t l x.v c on in
        deep-down (net_of nodes t closed) s (dist_in forth nodes l) r.steady (positive nodes t closed s l r) (seen_in nodes l) (last_in forth l) (rank_in l) x.many w.stack c (at_next nodes t closed s l r x w c is)
        (arc-leaves nodes t closed s l r x w c is inside) (just-i nodes t closed s l r x w c is inside u.0)
        (subst (λ v. T (not (seen_in nodes l v))) (sym e) (unseen nodes l (to_at t c) into u.1))
        (seen_in nodes m) (last_in forth m) (rank_in m)
        (subst (λ v. T (seen_in nodes m v)) (sym e) (seen-i nodes m (to_at t c) into (λ z. omega (arith, few.0, rank-new))))
        (λ v ne. seen_same nodes l m v (enter-rank-other l (to_at t c) c x.many few.2 v (λ z. ne (z ∙ sym e))))
        (ap (last_in forth m) e ∙ enter-last l (to_at t c) c x.many few.2 (omega (arith, few.1)))
        (λ v ne. enter-last-other l (to_at t c) c x.many few.2 v (λ z. ne (z ∙ sym e)))
        (ap (rank_in m) e ∙ rank-new)
        (λ v ne. enter-rank-other l (to_at t c) c x.many few.2 v (λ z. ne (z ∙ sym e)))

    pub down-within : Within 20 8 l (entered l (to_at t c) c x.many)
    down-within = enter-within l (to_at t c) c x.many few.2

    down-ready : Ready nodes t closed s (entered l (to_at t c) c x.many)
    down-ready = ready-same nodes t closed s l (entered l (to_at t c) c x.many) down-within r

    down-way : (y : OnWay nodes t closed s (entered l (to_at t c) c x.many) (record { v = to_at t c; arc = run_start t (to_at t c); many = x.many + 1 })) × (y.stack ≡ w.stack ++ (c ∷ []))
    down-way =
        let m = entered l (to_at t c) c x.many in
        let e = arc-to nodes t closed s l r x w c is inside in
        let ends : end_of (arcs_of t) s (w.stack ++ (c ∷ [])) ≡ to_at t c = end_of-more (arcs_of t) s w.stack c ∙ e in
        let g : suc x.many ≡ x.many + 1 = omega arith in (
          record {
            stack = w.stack ++ (c ∷ []);
            ends = ends;
            deep = deep-skip nodes t closed s m down-ready (x.many + 1) (w.stack ++ (c ∷ [])) 0 (run_start t (to_at t c)) (omega arith)
                (subst (λ d. Deep (net_of nodes t closed) s d (seen_in nodes m) (last_in forth m) (rank_in m) (x.many + 1) (w.stack ++ (c ∷ [])) 0) (sym (forth-same nodes l m down-within))
                (subst (λ n. Deep (net_of nodes t closed) s (dist_in forth nodes l) (seen_in nodes m) (last_in forth m) (rank_in m) n (w.stack ++ (c ∷ [])) 0) g gone-down))
                (λ y h k o. omega (arith, (out-run nodes t closed r.measured.no-fault (to_at t c) y (subst (λ v. T (leaves (net_of nodes t closed) v y)) ends o)).0));
            counted = omega (arith, w.counted, fewer);
            run-from = omega arith;
            run-to = run-mono t (to_at t c);
          },
          refl,
        )

    pub down-on : Stood nodes t closed s (entered l (to_at t c) c x.many) (Some (record { v = to_at t c; arc = run_start t (to_at t c); many = x.many + 1 }))
        × (left nodes t s (entered l (to_at t c) c x.many) (Some (record { v = to_at t c; arc = run_start t (to_at t c); many = x.many + 1 })) < left nodes t s l (Some x))
    down-on =
        let m = entered l (to_at t c) c x.many in
        let y : At = record { v = to_at t c; arc = run_start t (to_at t c); many = x.many + 1 } in
        let b = down-way in (
          b.0,
          falls-so (unentered nodes m) (above t w.stack) c x.arc (run_start t (to_at t c)) (records t)
              (left_is nodes t closed s m down-ready y b.0) (ap (above t) b.1 ∙ above_more t w.stack c) (left_is nodes t closed s l r x w) (sym fewer)
              (arc-past nodes t closed s l r x w c is inside) (arc-below nodes t closed s l r x w c is inside),
        )

-- ---- the walk starts

module _ (nodes : ℕ) (t closed : List ℕ) (s : ℕ) (l : List ℕ) (r : Ready nodes t closed s l) (zero-s : rank_in l s ≡ 0) (others : (v : ℕ) → v < nodes → v ≢ s → rank_in l v ≡ none) where
  only-s : (v : ℕ) → T (seen_in nodes l v) → v ≡ s
  only-s v h = go (ℕ_discrete v s)
    where
      go : Dec (v ≡ s) → v ≡ s
      go (yes e) = e
      go (no ne) = let k = seen-e nodes l v h in absurd (k.1 (others v k.0 ne))

  one-entered : unentered nodes l + 1 ≡ nodes
  one-entered = count-but-one (λ v. eqb (rank_in l v) none) nodes s r.s-below (ne_eqb (rank_in l s) none (λ z. omega (arith, zero-s, z))) (λ v h ne. eq-eqb (rank_in l v) none (others v h ne))

  pub start-on : OnWay nodes t closed s l (record { v = s; arc = run_start t s; many = 1 })
  unfolding end_of
  start-on =
      record {
        stack = [];
        ends = refl;
        deep = deep-skip nodes t closed s l r 1 [] 0 (run_start t s) (omega arith)
            (deep-start (net_of nodes t closed) s (dist_in forth nodes l) r.steady (positive nodes t closed s l r) (seen_in nodes l) (last_in forth l) (rank_in l)
            (seen-i nodes l s r.s-below (λ z. omega (arith, zero-s, z))) only-s zero-s)
            (λ y h k o. omega (arith, (out-run nodes t closed r.measured.no-fault s y o).0));
        counted = omega (arith, one-entered);
        run-from = omega arith;
        run-to = run-mono t s;
      }
