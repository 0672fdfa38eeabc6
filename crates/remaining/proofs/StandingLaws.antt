-- The distances in the working room: what a store does to them, and the passes over the arcs.
use mathlib.Core.Path.{◌≡◌, refl, sym, ap, subst, ◌∙◌}
use mathlib.Core.Logic.{◌≢◌, ◌⊎◌, inl, inr, ⊎_elim}
use mathlib.Core.Bool.{Bool, true, false, not}
use mathlib.Core.List.{List, []}
use Prim.Native.Nat.{ℕ, ◌+◌, ◌*◌, ◌^◌, ◌≤◌, ◌<◌}
use native.Mathlib.Omega.{arith}
use native.Mathlib.Decide.{ℕ_discrete}
use native.Mathlib.Nat.{mul-le-mul_right}
use lib.Dec.{T}
use lib.ListN.{length}
use borrow.Author.Tests.{lt-ltb, le-ltb}
use Rattle.lists.proofs.Cases.{order}
use Rattle.net.specs.Limits.{most_length}
use Rattle.net.specs.Net.{Net, arc}
use Rattle.net.specs.Route.{chain, end_of, partial, length_of}
use Rattle.net.proofs.Lengths.{length_of-most}
use Rattle.net.proofs.Listing.{partial-short}
use Rattle.table.specs.Table.{records, from_at, to_at, len_at, arcs_of, is_open_at, net_of}
use Rattle.table.specs.Fault.{table_fault, good}
use Rattle.table.proofs.FaultLaws.{all-good, good-size}
use Rattle.table.proofs.NetLaws.{arcs-length, arc-is, table-sound, len-most}
use Rattle.working_room.specs.Field.{room_bytes, long_at, put_long, Within}
use Rattle.working_room.proofs.RoomLaws.{long-put, long-put-node, within-long, within_same, within-trans}
use Rattle.distances.specs.Search.{Open}
use Rattle.remaining.specs.Going.{Going}
use Rattle.remaining.specs.Standing.{far, field, Roomy, go_in, sum_in, Cleared, Begun, Looked, Passed, Settled}
use Rattle.remaining.proofs.GoingLaws.{total-less, going-lower}

-- ---- a node's record

pub record-in : (n : ℕ) (l : List ℕ) (v : ℕ) → Roomy n l → v < n → v * room_bytes + room_bytes ≤ length l
record-in n l v r h = omega arith

pub go-below : (n : ℕ) (l : List ℕ) (v : ℕ) → v < n → go_in n l v ≡ long_at field l v
go-below n l v h = rw (lt-ltb v n h)

pub go-past : (n : ℕ) (l : List ℕ) (v : ℕ) → n ≤ v → go_in n l v ≡ far
go-past n l v h = rw (le-ltb v n h)

either-node : (v w : ℕ) → (v ≡ w) ⊎ (v ≢ w)
either-node v w = go (ℕ_discrete v w)
  where
    go : Dec (v ≡ w) → (v ≡ w) ⊎ (v ≢ w)
    go (yes e) = inl e
    go (no e) = inr e

-- ---- the start

pub clear_none : (l : List ℕ) → Cleared 0 l l
clear_none l = record { within = within_same field 8 l; fars = λ v h. absurd (omega arith) }

pub clear-more : (n v : ℕ) (l m : List ℕ) → Roomy n l → v < n → Cleared v l m → (r : List ℕ) → r ≡ put_long field m v far → Cleared (v + 1) l r
clear-more n v l m room h c r e =
    record {
      within = within-trans c.within (subst (Within field 8 m) (sym e) (within-long field m v far refl));
      fars = λ w k. ap (λ z. long_at field z w) e ∙ ⊎_elim
          (λ z. subst (λ y. long_at field (put_long field m v far) y ≡ far) (sym z) (long-put field m v far refl (omega (arith, c.within.long)) (omega arith)))
          (λ z. long-put-node field m v far refl w z ∙ c.fars w (omega (arith, z)))
          (either-node w v);
    }

pub begun : (n goal : ℕ) (l m : List ℕ) → Roomy n l → goal < n → Cleared n l m → (r : List ℕ) → r ≡ put_long field m goal 0 → Begun n goal l r
begun n goal l m room h c r e =
    record {
      within = within-trans c.within (subst (Within field 8 m) (sym e) (within-long field m goal 0 refl));
      at-goal = ap (λ z. long_at field z goal) e ∙ long-put field m goal 0 refl (omega (arith, c.within.long)) (omega arith);
      fars = λ v k z. ap (λ y. long_at field y v) e ∙ long-put-node field m goal 0 refl v z ∙ c.fars v k;
    }

pub going-begun : (net : Net) (goal : ℕ) (l m : List ℕ) → goal < net.nodes → Begun net.nodes goal l m → Going net goal far (go_in net.nodes m)
unfolding chain end_of length_of
going-begun net goal l m h b =
    record {
      zero-t = at-goal;
      most = λ v. ⊎_elim (λ e. omega (arith, ap (go_in net.nodes m) e, at-goal)) (λ e. omega (arith, other v e)) (either-node v goal);
      real = λ v k. ⊎_elim
          (λ e. record { by = []; is-chain = tt; ends = e; is-long = sym (ap (go_in net.nodes m) e ∙ at-goal) })
          (λ e. absurd (omega (arith, other v e))) (either-node v goal);
    }
  where
    at-goal : go_in net.nodes m goal ≡ 0
    at-goal = go-below net.nodes m goal h ∙ b.at-goal

    other : (v : ℕ) → v ≢ goal → go_in net.nodes m v ≡ far
    other v e = ⊎_elim (λ k. go-past net.nodes m v k) (λ k. go-below net.nodes m v k ∙ b.fars v k e) (order net.nodes v)

-- ---- a pass

module _ (nodes : ℕ) (t closed : List ℕ) (goal : ℕ) where
  net : Net
  net = net_of nodes t closed

  pub passed_none : (l : List ℕ) → Going (net_of nodes t closed) goal far (go_in nodes l) → Passed (net_of nodes t closed) t closed goal 0 l l 0
  passed_none l g = record { within = within_same field 8 l; going = g; few = omega arith; outcome = inl (refl, refl, λ b h. absurd (omega arith)) }

  module _ (fine : table_fault nodes t ≡ good) where
    module _ (a : ℕ) (l m r : List ℕ) (n k : ℕ) (room : Roomy nodes l) (h : a < records t) (p : Passed (net_of nodes t closed) t closed goal a l m n) where
      kept : k ≡ 0 → r ≡ m → (is_open_at closed a ≡ true → long_at field m (from_at t a) ≤ long_at field m (to_at t a) + len_at t a)
          → Passed (net_of nodes t closed) t closed goal (a + 1) l r (n + k)
      kept z e f =
          record {
            within = subst (Within field 8 l) (sym e) p.within;
            going = subst (λ x. Going (net_of nodes t closed) goal far (go_in nodes x)) (sym e) p.going;
            few = omega (arith, p.few);
            outcome = ⊎_elim
                (λ o. inl (
                  omega (arith, o.0),
                  e ∙ o.1,
                  λ b d i. ⊎_elim
                      (λ y. subst (λ x. long_at field l (from_at t x) ≤ long_at field l (to_at t x) + len_at t x) (sym y)
                      (subst (λ x. long_at field x (from_at t a) ≤ long_at field x (to_at t a) + len_at t a) o.1 (f (subst (λ x. is_open_at closed x ≡ true) y i))))
                      (λ y. o.2 b (omega (arith, y)) i) (either-node b a),
                ))
                (λ o. inr (omega (arith, o.0), subst (λ x. sum_in nodes x < sum_in nodes l) (sym e) o.1))
                p.outcome;
          }

      module _ (one : k ≡ 1) (is_open : is_open_at closed a ≡ true) (short : long_at field m (to_at t a) + len_at t a < long_at field m (from_at t a))
          (e : r ≡ put_long field m (from_at t a) (long_at field m (to_at t a) + len_at t a)) where
        u : ℕ
        u = from_at t a

        by : ℕ
        by = long_at field m (to_at t a) + len_at t a

        u-below : from_at t a < nodes
        u-below = (all-good nodes t fine a h).start

        w-below : to_at t a < nodes
        w-below = (all-good nodes t fine a h).end

        small : by < 2 ^ 64
        unfolding by
        small = omega (arith, p.going.most (from_at t a), go-below nodes m (from_at t a) u-below)

        new : long_at field r (from_at t a) ≡ by
        unfolding by
        new = ap (λ z. long_at field z (from_at t a)) e ∙ long-put field m (from_at t a) by refl (omega (arith, p.within.long, u-below)) small

        same : (v : ℕ) → v ≢ from_at t a → long_at field r v ≡ long_at field m v
        unfolding by
        same v ne = ap (λ z. long_at field z v) e ∙ long-put-node field m (from_at t a) by refl v ne

        sum : sum_in nodes r < sum_in nodes m
        unfolding by
        sum = total-less nodes (from_at t a) (long_at field r) (long_at field m) u-below (omega (arith, new)) same

        go_same : (v : ℕ) → v ≢ from_at t a → go_in nodes r v ≡ go_in nodes m v
        go_same v ne = ⊎_elim (λ z. go-past nodes r v z ∙ sym (go-past nodes m v z)) (λ z. go-below nodes r v z ∙ same v ne ∙ sym (go-below nodes m v z)) (order nodes v)

        lowered : Going (net_of nodes t closed) goal far (go_in nodes r)
        unfolding by
        lowered =
            let x = arc-is t a h in
            going-lower (net_of nodes t closed) goal far (go_in nodes m) (go_in nodes r) p.going a (omega (arith, arcs-length t), subst T (sym is_open) tt)
            (rw x (omega (arith, go-below nodes m (to_at t a) w-below, go-below nodes m (from_at t a) u-below)))
            (rw x (go-below nodes r (from_at t a) u-below ∙ new ∙ ap (λ z. z + len_at t a) (sym (go-below nodes m (to_at t a) w-below))))
            (rw x go_same)

        fell : Passed (net_of nodes t closed) t closed goal (a + 1) l r (n + k)
        unfolding by
        fell =
            record {
              within = within-trans p.within (subst (Within field 8 m) (sym e) (within-long field m (from_at t a) (long_at field m (to_at t a) + len_at t a) refl));
              going = lowered;
              few = omega (arith, p.few);
              outcome = inr (omega arith, ⊎_elim (λ o. subst (λ x. sum_in nodes r < sum_in nodes x) o.1 sum) (λ o. omega (arith, sum, o.1)) p.outcome);
            }

      pub passed-more : Looked t closed a m r k → Passed (net_of nodes t closed) t closed goal (a + 1) l r (n + k)
      passed-more o = ⊎_elim (λ x. kept x.0 x.1 x.2) (λ x. fell x.0 x.1 x.2 x.3) o

    -- nothing changed: the distances are there
    pub settled : (l₀ l m : List ℕ) → Within field 8 l₀ l → Passed (net_of nodes t closed) t closed goal (records t) l m 0 → Settled (net_of nodes t closed) goal l₀ m
    settled l₀ l m w p = record { within = within-trans w p.within; going = p.going; to-go = record { zero-t = p.going.zero-t; relaxed = ⊎_elim (λ o a i. relaxed o a i) (λ o. absurd (omega (arith, o.0))) p.outcome } }
      where
        relaxed : (◌≡◌ {A = ℕ} 0 0) × (m ≡ l) × ((b : ℕ) → b < records t → is_open_at closed b ≡ true → long_at field l (from_at t b) ≤ long_at field l (to_at t b) + len_at t b)
            → (a : ℕ) → Open (net_of nodes t closed) a → go_in nodes m (arc (arcs_of t) a).from ≤ go_in nodes m (arc (arcs_of t) a).to + (arc (arcs_of t) a).len
        relaxed o a i =
            let h : a < records t = omega (arith, i.0, arcs-length t) in
            let g = all-good nodes t fine a h in
            let k = o.2 a h (true-i (is_open_at closed a) i.1) in
            rw (arc-is t a h, o.1) (omega (arith, go-below nodes l (to_at t a) g.end, go-below nodes l (from_at t a) g.start))
          where
            true-i : (b : Bool) → T b → b ≡ true
            true-i true x = refl
            true-i false x = absurd x

    -- every partial route is shorter than `far`
    pub shorter-than-far : (s : ℕ) → s < nodes → (p : List ℕ) → T (partial (net_of nodes t closed) s p) → length_of (arcs_of t) p < far
    shorter-than-far s s-below p h =
        let few = partial-short (net_of nodes t closed) s s-below (table-sound nodes t fine closed).to_below p h in
        let size = good-size nodes t fine in
        omega (arith, length_of-most (arcs_of t) most_length (len-most nodes t fine) p, mul-le-mul_right most_length few, size.1)

-- ---- what a look asks

module _ (nodes : ℕ) (t : List ℕ) (a : ℕ) (l : List ℕ) (fine : table_fault nodes t ≡ good) (room : Roomy nodes l) (h : a < records t) where
  pub from_in : from_at t a * room_bytes + room_bytes ≤ length l
  from_in = omega (arith, (all-good nodes t fine a h).start)

  pub to_in : to_at t a * room_bytes + room_bytes ≤ length l
  to_in = omega (arith, (all-good nodes t fine a h).end)

  pub sum_fits : ((v : ℕ) → go_in nodes l v ≤ far) → long_at field l (to_at t a) + len_at t a < 2 ^ 64
  sum_fits most = omega (arith, most (to_at t a), go-below nodes l (to_at t a) (all-good nodes t fine a h).end, (all-good nodes t fine a h).most)

pub not-open : (b : Bool) → not b ≡ true → b ≡ true → ⊥
not-open true x y = let z : ◌≡◌ {A = ℕ} 0 1 = cc in omega arith
not-open false x y = let z : ◌≡◌ {A = ℕ} 0 1 = cc in omega arith

pub is_open : (b : Bool) → not b ≡ false → b ≡ true
is_open true x = refl
is_open false x = let z : ◌≡◌ {A = ℕ} 0 1 = cc in absurd (omega arith)

pub at_most_one : (t closed l m : List ℕ) (a r : ℕ) → Looked t closed a l m r → r ≤ 1
at_most_one t closed l m a r o = ⊎_elim (λ x. omega (arith, x.0)) (λ x. omega (arith, x.0)) o

pub sum-falls : {net : Net} {t closed l m : List ℕ} {goal a r : ℕ} → Passed net t closed goal a l m r → (r ≡ 0 → ⊥) → sum_in net.nodes m < sum_in net.nodes l
sum-falls p h = ⊎_elim (λ o. absurd (h o.0)) (λ o. o.1) p.outcome
