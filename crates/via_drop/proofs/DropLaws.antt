-- A node is judged by the overlap of its candidate, which is that of the two ways together. After all nodes below n each has the key that the definition gives it.
use mathlib.Core.Path.{◌≡◌, refl, sym, ap, ap₂, subst, ◌∙◌}
use mathlib.Core.Logic.{⊎_elim}
use mathlib.Core.Bool.{Bool, true, false, ◌&&◌, cond}
use mathlib.Core.List.{List, [], ◌∷◌}
use Prim.Native.Nat.{ℕ, zero, suc, min, ◌+◌, ◌*◌, ◌≤◌, ◌<◌}
use native.Mathlib.Omega.{arith}
use native.Mathlib.Nat.{mul-le-mul_left, mul-le-mul_right}
use native.Mathlib.Decide.{ℕ_discrete}
use lib.Dec.{ltb, leb, eqb}
use lib.ListN.{length, get_or}
use borrow.Author.Tests.{le-leb, ltb-true, ne_eqb}
use Rattle.lists.specs.Tests.{every, keep, cons_if}
use Rattle.lists.proofs.Cases.{order}
use Rattle.net.specs.Route.{length_of, within}
use Rattle.net.specs.Limits.{most_arcs}
use Rattle.net.proofs.Overlap.{overlap-append}
use Rattle.table.specs.Table.{arcs_of}
use Rattle.working_room.specs.Field.{Within}
use Rattle.labels.specs.Field.{no_number}
use Rattle.search_ask.specs.declared.Ask.{Ask}
use Rattle.search_ask.specs.Ask.{net_for, query_for}
use Rattle.search_ask.specs.Earlier.{route_in, Formed}
use Rattle.node_queue.specs.Queue.{key_at, KeySet, Queue}
use Rattle.first_routes.specs.Firsts.{far}
use Rattle.via_chains.specs.Chains.{joined_in, both_in, no_key}
use Rattle.via_chains.proofs.ChainsLaws.{both-beside, joined-beside}
use Rattle.via_drop.specs.Drop.{Beside, Dropped}
use Rattle.via_drop.specs.Walks.{dist_by, chain_by, total_by, key_after, Judged, JudgedTo}
use Rattle.via_drop.proofs.BesideLaws.{beside_same, beside_trans, numbers-beside, keys-beside, queue-kept}

-- ---- whether a node has a candidate

and_both : (x y : Bool) → (x && y) ≡ true → (x ≡ true) × (y ≡ true)
and_both true y e = (refl, e)
and_both false y e = let z : ◌≡◌ {A = ℕ} 0 1 = cc in absurd (omega arith)

pub both-less : (n : ℕ) (l : List ℕ) (v : ℕ) → both_in n l v ≡ true → (on : Bool) → dist_by on n l v < far
unfolding dist_by
both-less n l v e true = ltb-true _ _ (and_both (ltb (dist_by false n l v) far) (ltb (dist_by true n l v) far) e).1
both-less n l v e false = ltb-true _ _ (and_both (ltb (dist_by false n l v) far) (ltb (dist_by true n l v) far) e).0

-- ---- the test

-- a route that is long beyond every overlap
long-enough : (a b o len : ℕ) → b ≤ 1000 → o < 2 * far → 4503599627370496 ≤ len
    → leb (b * o) (a * 4503599627370496) ≡ leb (b * o) (a * len)
long-enough zero b o len h k g = ap (leb (b * o)) (omega arith)
long-enough (suc a) b o len h k g =
    le-leb (b * o) (suc a * 4503599627370496) (omega (arith, mul-le-mul_right {m = b} {n = 1000} o h, k))
    ∙ sym (le-leb (b * o) (suc a * len) (omega (arith, mul-le-mul_right {m = b} {n = 1000} o h, k, mul-le-mul_left (suc a) g)))

-- so no more than that need be looked at
pub within-far : (a b o len n : ℕ) → b ≤ 1000 → o < 2 * far → n ≡ min len 4503599627370496
    → leb (b * o) (a * n) ≡ leb (b * o) (a * len)
within-far a b o len n h k e = ⊎_elim short long (order len 4503599627370496)
  where
    short : len ≤ 4503599627370496 → leb (b * o) (a * n) ≡ leb (b * o) (a * len)
    short g = ap (λ m. leb (b * o) (a * m)) (omega arith)

    long : 4503599627370496 < len → leb (b * o) (a * n) ≡ leb (b * o) (a * len)
    long g =
        let most : n ≡ 4503599627370496 = omega arith in
        ap (λ m. leb (b * o) (a * m)) most ∙ long-enough a b o len h k (omega arith)

module _ (ask : Ask) (t e l : List ℕ) (v : ℕ) where
  key-none : both_in ask.nodes l v ≡ false → key_after ask t e l v ≡ key_at l v
  unfolding key_after
  key-none z = rw z

  module _ (x y len : ℕ) (both : both_in ask.nodes l v ≡ true) (to : x ≡ total_by false ask t e l v) (on : y ≡ total_by true ask t e l v) (long : len ≡ length_of (arcs_of t) e) where
    test-is : within (net_for ask t []) ask.a ask.b (joined_in (net_for ask t []) ask.s ask.goal l v) e ≡ leb (ask.b * (x + y)) (ask.a * len)
    unfolding within joined_in chain_by
    test-is =
        ap₂ leb
        (ap (λ o. ask.b * o) (overlap-append (net_for ask t []) (chain_by false ask t l v) (chain_by true ask t l v) e ∙ ap₂ ◌+◌ (sym to) (sym on)))
        (ap (λ k. ask.a * k) (sym long))

    key-within : leb (ask.b * (x + y)) (ask.a * len) ≡ true → key_after ask t e l v ≡ key_at l v
    unfolding key_after
    key-within h = rw (both, test-is, h)

    key-dropped : leb (ask.b * (x + y)) (ask.a * len) ≡ false → key_after ask t e l v ≡ no_key
    unfolding key_after
    key-dropped h = rw (both, test-is, h)

-- a node that has no key has none afterwards, whatever the tests say
either : (a b : Bool) (x y : ℕ) → x ≡ y → cond a (cond b x y) x ≡ x
either true true x y e = refl
either true false x y e = sym e
either false b x y e = refl

key-gone : (ask : Ask) (t e l : List ℕ) (v : ℕ) → key_at l v ≡ no_key → key_after ask t e l v ≡ key_at l v
unfolding key_after
key-gone ask t e l v z =
    either (both_in ask.nodes l v) (within (net_for ask t []) ask.a ask.b (joined_in (net_for ask t []) ask.s ask.goal l v) e) (key_at l v) no_key z

-- ---- a node judged

module _ (ask : Ask) (t e l : List ℕ) (v root : ℕ) (q : Queue ask.nodes l root) where
  pub judged-gone : key_at l v ≡ no_key → Judged ask t e l v l root
  judged-gone z = record { beside = beside_same l; queue = q; own = sym (key-gone ask t e l v z); others = λ w h ne. refl }

  pub judged-none : both_in ask.nodes l v ≡ false → Judged ask t e l v l root
  judged-none z = record { beside = beside_same l; queue = q; own = sym (key-none ask t e l v z); others = λ w h ne. refl }

  module _ (x y len : ℕ) (both : both_in ask.nodes l v ≡ true) (to : x ≡ total_by false ask t e l v) (on : y ≡ total_by true ask t e l v) (long : len ≡ length_of (arcs_of t) e)
      {m : List ℕ} (f : Within 40 16 l m) where
    pub judged-within : leb (ask.b * (x + y)) (ask.a * len) ≡ true → Judged ask t e l v m root
    judged-within h =
        record {
          beside = numbers-beside f;
          queue = queue-kept f q;
          own = f.field 8 v 0 refl refl ∙ sym (key-within ask t e l v x y len both to on long h);
          others = λ w k ne. f.field 8 w 0 refl refl;
        }

    pub judged-dropped : leb (ask.b * (x + y)) (ask.a * len) ≡ false → {r : List ℕ} {next : ℕ} → KeySet ask.nodes m v no_key r next → Judged ask t e l v r next
    judged-dropped h k =
        record {
          beside = beside_trans (numbers-beside f) (keys-beside k.within);
          queue = k.queue;
          own = k.own ∙ sym (key-dropped ask t e l v x y len both to on long h);
          others = λ w i ne. k.others w i ne ∙ f.field 8 w 0 refl refl;
        }

-- ---- all nodes

key-beside : (ask : Ask) (t e : List ℕ) {l m : List ℕ} → Beside l m → (v : ℕ) → key_at m v ≡ key_at l v → key_after ask t e m v ≡ key_after ask t e l v
unfolding key_after
key-beside ask t e {l} {m} b v k =
    let w : List ℕ → Bool = λ p. within (net_for ask t []) ask.a ask.b p e in
    let p : List ℕ = joined_in (net_for ask t []) ask.s ask.goal l v in
    ap₂ (λ x y. cond x (cond y (key_at m v) no_key) (key_at m v)) (both-beside ask.nodes l m b.field v) (ap w (joined-beside (net_for ask t []) ask.s ask.goal l m b.field v))
    ∙ ap (λ k. cond (both_in ask.nodes l v) (cond (w p) k no_key) k) k

module _ (ask : Ask) (t e l : List ℕ) where
  pub judged-start : {root : ℕ} → Queue ask.nodes l root → JudgedTo ask t e l 0 l root
  judged-start q = record { beside = beside_same l; queue = q; past = λ v h. absurd (omega arith); ahead = λ v h k. refl }

  pub judged-more : (i : ℕ) {m r : List ℕ} {root next : ℕ} → i < ask.nodes → JudgedTo ask t e l i m root → Judged ask t e m i r next → JudgedTo ask t e l (i + 1) r next
  judged-more i {m} {r} h g j =
      record {
        beside = beside_trans g.beside j.beside;
        queue = j.queue;
        past = λ v k. go v k (ℕ_discrete v i);
        ahead = λ v k b. j.others v b (λ z. omega arith) ∙ g.ahead v (omega arith) b;
      }
    where
      go : (v : ℕ) → v < i + 1 → Dec (v ≡ i) → key_at r v ≡ key_after ask t e l v
      go v k (yes z) = subst (λ v. key_at r v ≡ key_after ask t e l v) (sym z) (j.own ∙ key-beside ask t e g.beside i (g.ahead i (omega arith) h))
      go v k (no ne) = j.others v (omega arith) ne ∙ g.past v (omega arith)

  -- the numbers made unknown beforehand show in nothing
  pub judged-since : {m r : List ℕ} {i root : ℕ} → Within 40 16 l m → JudgedTo ask t e m i r root → JudgedTo ask t e l i r root
  judged-since f g =
      record {
        beside = beside_trans (numbers-beside f) g.beside;
        queue = g.queue;
        past = λ v k. g.past v k ∙ key-beside ask t e (numbers-beside f) v (f.field 8 v 0 refl refl);
        ahead = λ v k b. g.ahead v k b ∙ f.field 8 v 0 refl refl;
      }

  pub dropped-all : (closed : List ℕ) {m : List ℕ} {root : ℕ} → JudgedTo ask t e l ask.nodes m root → Dropped (query_for ask t closed []) e l m root
  unfolding key_after within joined_in
  dropped-all closed g =
      record {
        beside = g.beside;
        queue = g.queue;
        keys = λ v h b. g.past v h ∙ rw b;
        others = λ v h b. g.past v h ∙ go _ _ (both_in ask.nodes l v) b;
      }
    where
      go : (x y : ℕ) (b : Bool) → (b ≡ true → ⊥) → cond b x y ≡ y
      go x y true h = absurd (h refl)
      go x y false h = refl

-- ---- the arcs of a route are no filler

pub route-is : (n : ℕ) (p : List ℕ) → n ≤ most_arcs → every (λ a. ltb a n) p ≡ true → route_in p ≡ p
unfolding route_in every keep cons_if
route-is n [] h e = refl
route-is n (a ∷ p) h e =
    let k = and_both (ltb a n) (every (λ a. ltb a n) p) e in
    let ne : eqb a no_number ≡ false = ne_eqb a no_number (λ z. omega (arith, ltb-true a n k.0)) in
    rw ne (ap (λ q. a ∷ q) (route-is n p h k.1))

-- and no word of it is blank
route-word : (n : ℕ) (p : List ℕ) → every (λ a. ltb a n) p ≡ true → (i : ℕ) → i < length p → get_or p i 0 < n
unfolding every
route-word n [] e i h = absurd (omega arith)
route-word n (a ∷ p) e zero h = ltb-true a n (and_both (ltb a n) (every (λ a. ltb a n) p) e).0
route-word n (a ∷ p) e (suc i) h = route-word n p (and_both (ltb a n) (every (λ a. ltb a n) p) e).1 i (omega arith)

pub route-formed : (n : ℕ) (p : List ℕ) → n ≤ most_arcs → every (λ a. ltb a n) p ≡ true → Formed p
route-formed n p h e i j le k z = absurd (omega (arith, z, route-word n p e i (omega arith)))
