-- What the functions read and leave, over plain lists and numbers: a step back over a last arc and on over a first arc, a slot with both parts, one node's key, and
-- the room after each of the four searches.
use mathlib.Core.Path.{◌≡◌, refl, sym, ap, ap₂, subst, fun_ext, ◌∙◌}
use mathlib.Core.Logic.{◌≢◌, ◌⊎◌, inl, inr, ⊎_elim}
use mathlib.Core.Bool.{Bool, true, false, ◌&&◌, ◌||◌, cond}
use mathlib.Core.List.{List, [], ◌∷◌, ◌++◌, append_assoc, append-nil}
use Prim.Native.Nat.{ℕ, suc, ◌+◌, ◌-◌, ◌*◌, ◌≤◌, ◌<◌}
use native.Mathlib.Numerals.{add-one}
use native.Mathlib.Omega.{arith}
use native.Mathlib.Decide.{ℕ_discrete}
use borrow.Author.Tests.{lt-ltb, le-ltb, le-leb}
use lib.Dec.{ltb, leb}
use lib.ListN.{length, take, drop, set, replicate, length-append}
use lib.Seq.{drop-length, take-suc-set, take_at}
use Rattle.lists.proofs.Cases.{order}
use Rattle.words.specs.Number.{num}
use Rattle.words.specs.Part.{patch}
use Rattle.net.specs.Net.{Net, arc}
use Rattle.net.proofs.Listing.{partial-short}
use Rattle.distances.specs.Search.{Found}
use Rattle.distances.specs.Turned.{reversed}
use Rattle.distances.specs.Greedy.{Pick}
use Rattle.table.specs.Table.{records, from_at, to_at}
use Rattle.table.proofs.NetLaws.{arc-is, table-sound}
use Rattle.labels.specs.Field.{no_number}
use Rattle.labels.specs.Chain.{slot_of}
use Rattle.search_ask.specs.declared.Ask.{Ask}
use Rattle.search_ask.specs.Ask.{net_for}
use Rattle.working_room.specs.Field.{room_bytes, long_at, word_at, Within}
use Rattle.working_room.proofs.RoomLaws.{within_same, within-trans}
use Rattle.node_queue.specs.Queue.{key_at, Roomy, Queue, KeySet, Filled}
use Rattle.reach.specs.declared.Stand.{Stand}
use Rattle.reach.specs.Stand.{Stands, BeforeNotes, dist_in, last_in, Elsewhere}
use Rattle.first_routes.specs.Firsts.{far, forth, back, rank_in, Ranked, Picked}
use Rattle.via_chains.specs.Chains.{Prepared, no_key, key_for}
use Rattle.via_chains.specs.Candidate.{Ready, to_of, on_of, Lined}
use Rattle.via_chains.proofs.ChainsLaws.{to-first, to_step, to_start, on_step, on-start, key-beside}

-- ---- a step over an arc

module _ {ask : Ask} {table closed l : List ℕ} (ready : Ready ask table closed l) where
  pub record Back (x a z : ℕ) : Type 0 where
    pub below : z < ask.nodes
    pub near : dist_in forth ask.nodes l z < far
    pub joins : to_of ask table closed l x ≡ to_of ask table closed l z ++ (a ∷ [])
    pub one : length (to_of ask table closed l x) ≡ suc (length (to_of ask table closed l z))

  pub record On (x a z : ℕ) : Type 0 where
    pub below : z < ask.nodes
    pub near : dist_in back ask.nodes l z < far
    pub joins : on_of ask table closed l x ≡ a ∷ on_of ask table closed l z
    pub one : length (on_of ask table closed l x) ≡ suc (length (on_of ask table closed l z))

  pub to_none : (x : ℕ) → x ≡ ask.s → to_of ask table closed l x ≡ []
  to_none x e = ap (to_of ask table closed l) e ∙ to_start ask table closed l ready.accepted ready.prepared

  pub on_none : (x : ℕ) → x ≡ ask.goal → on_of ask table closed l x ≡ []
  on_none x e = ap (on_of ask table closed l) e ∙ on-start ask table closed l ready.accepted ready.prepared

  pub to-short : (x : ℕ) → x < ask.nodes → dist_in forth ask.nodes l x < far → length (to_of ask table closed l x) < ask.nodes
  to-short x b h =
      let n = net_for ask table closed in
      let s = table-sound ask.nodes table ready.accepted.no-fault closed in
      omega (
        arith,
        ready.accepted.s-below,
        partial-short n ask.s ready.accepted.s-below s.to_below (to_of ask table closed l x)
            (to-first ask table closed l ready.accepted ready.prepared x b h).is-partial,
      )

  module _ (x : ℕ) (b : x < ask.nodes) where
    module _ (ne : x ≢ ask.s) (h : dist_in forth ask.nodes l x < far) where
      pub back-arc : last_in forth l x < records table
      back-arc = (to_step ask table closed l ready.accepted ready.prepared x b ne h).is-arc

      pub back-over : (a z : ℕ) → a ≡ last_in forth l x → z ≡ from_at table a → Back x a z
      back-over a z i j =
          let k = to_step ask table closed l ready.accepted ready.prepared x b ne h in
          let e : (arc (net_for ask table closed).arcs (last_in forth l x)).from ≡ z = ap (λ y. y.from) (arc-is table (last_in forth l x) k.is-arc) ∙ ap (from_at table) (sym i) ∙ sym j in
          let f : to_of ask table closed l x ≡ to_of ask table closed l z ++ (a ∷ []) = k.joins ∙ ap₂ (λ y b. to_of ask table closed l y ++ (b ∷ [])) e (sym i) in
          record {
            below = subst (λ y. y < ask.nodes) e k.below;
            near = subst (λ y. dist_in forth ask.nodes l y < far) e k.near;
            joins = f;
            one = omega (arith, ap length f, length-append (to_of ask table closed l z) (a ∷ []));
          }

      pub back_some : 1 ≤ length (to_of ask table closed l x)
      back_some = omega (arith, (back-over (last_in forth l x) (from_at table (last_in forth l x)) refl refl).one)

    module _ (ne : x ≢ ask.goal) (h : dist_in back ask.nodes l x < far) where
      pub on-arc : last_in back l x < records table
      on-arc = (on_step ask table closed l ready.accepted ready.prepared x b ne h).is-arc

      pub on-over : (a z : ℕ) → a ≡ last_in back l x → z ≡ to_at table a → On x a z
      on-over a z i j =
          let k = on_step ask table closed l ready.accepted ready.prepared x b ne h in
          let e : (arc (net_for ask table closed).arcs (last_in back l x)).to ≡ z = ap (λ y. y.to) (arc-is table (last_in back l x) k.is-arc) ∙ ap (to_at table) (sym i) ∙ sym j in
          let f : on_of ask table closed l x ≡ a ∷ on_of ask table closed l z = k.joins ∙ ap₂ (λ y b. b ∷ on_of ask table closed l y) e (sym i) in
          record { below = subst (λ y. y < ask.nodes) e k.below; near = subst (λ y. dist_in back ask.nodes l y < far) e k.near; joins = f; one = ap length f }

      pub on_some : 1 ≤ length (on_of ask table closed l x)
      on_some = omega (arith, (on-over (last_in back l x) (to_at table (last_in back l x)) refl refl).one)

-- ---- a slot

-- the first arc a of the chain q stands behind what was written
pub on-write : (p q : List ℕ) (a : ℕ) (s : List ℕ) (k : ℕ) → q ≡ a ∷ p → k < length s → take (k + 1) (set s k a) ++ p ≡ take k s ++ q
on-write p q a s k e h = rw (add-one k, take-suc-set s k a h, e) (append_assoc (take k s) (a ∷ []) p)

-- nothing is yet to be written
pub back_end : (p s r : List ℕ) (k : ℕ) → p ≡ [] → k ≡ length p → p ++ drop k s ≡ r → s ≡ r
back_end p s r k e f h = let z : k ≡ 0 = f ∙ ap length e in sym (ap₂ (λ x n. x ++ drop n s) e z) ∙ h

pub on-end : (p s r : List ℕ) (k : ℕ) → p ≡ [] → take k s ++ p ≡ r → take k s ≡ r
on-end p s r k e h = sym (ap (λ x. take k s ++ x) e ∙ append-nil (take k s)) ∙ h

-- both parts written, and the rest filled
pub slot-filled : (x y s₀ s₁ s₂ s₃ : List ℕ) (k r : ℕ) → k ≡ length x → s₁ ≡ x ++ drop k s₀ → length s₁ ≡ length s₀ → r ≡ k + length y → length s₂ ≡ length s₁
    → take r s₂ ≡ take k s₁ ++ y → s₃ ≡ patch r (length s₂) s₂ (replicate (length s₂ - r) no_number) → s₃ ≡ slot_of (length s₀) (x ++ y)
unfolding patch
slot-filled x y s₀ s₁ s₂ s₃ k r f g e h i j z =
    let a : take k s₁ ≡ x = ap (take k) g ∙ take_at x (drop k s₀) k (sym f) in
    let b : take r s₂ ≡ x ++ y = j ∙ ap (λ q. q ++ y) a in
    let c : drop (length s₂) s₂ ≡ [] = drop-length s₂ in
    let d : length s₂ - r ≡ length s₀ - length (x ++ y) = omega (arith, length-append x y) in
    z ∙ ap₂ ◌++◌ b (ap₂ ◌++◌ (ap (λ n. replicate n no_number) d) c ∙ append-nil (replicate (length s₀ - length (x ++ y)) no_number))

-- ---- a key

and-false : (b : Bool) → (b && false) ≡ false
and-false true = refl
and-false false = refl

or_right : (a b : Bool) → b ≡ true → (a || b) ≡ true
or_right true b h = refl
or_right false b h = h

module _ (n : ℕ) (l : List ℕ) (v : ℕ) (b : v < n) where
  dist-at : (x : ℕ) → cond (ltb v n) x far ≡ x
  dist-at x = ap (λ c. cond c x far) (lt-ltb v n b)

  no-candidate : (far ≤ long_at 12 l v) ⊎ (far ≤ long_at 32 l v) → key_for n l v ≡ no_key
  unfolding key_for
  no-candidate (inl h) = rw (dist-at (long_at 12 l v), le-ltb (long_at 12 l v) far h)
  no-candidate (inr h) = rw (dist-at (long_at 32 l v), le-ltb (long_at 32 l v) far h, and-false)

  key_of : long_at 12 l v < far → long_at 32 l v < far → key_for n l v ≡ (long_at 12 l v + long_at 32 l v) * 65536 + rank_in l v
  unfolding key_for
  key_of h k = rw (dist-at (long_at 12 l v), dist-at (long_at 32 l v), lt-ltb (long_at 12 l v) far h, lt-ltb (long_at 32 l v) far k)

  -- without a candidate nothing is changed
  pub key-kept : (root : ℕ) → Queue n l root → key_at l v ≡ no_key → (far ≤ long_at 12 l v) ⊎ (far ≤ long_at 32 l v) → KeySet n l v (key_for n l v) l root
  key-kept root q e h = record { within = within_same 0 12 l; own = e ∙ sym (no-candidate h); others = λ w b ne. refl; queue = q }

  pub key_set : {x : ℕ} {l' : List ℕ} {root : ℕ} → KeySet n l v x l' root → long_at 12 l v < far → long_at 32 l v < far
      → x ≡ (long_at 12 l v + long_at 32 l v) * 65536 + rank_in l v → KeySet n l v (key_for n l v) l' root
  key_set {x} {l'} {root} k h i e = subst (λ y. KeySet n l v y l' root) (e ∙ sym (key_of h i)) k

-- every key is no_key: any node is the first
pub lined-none : (n : ℕ) (l l₁ : List ℕ) → 0 < n → Roomy n l → Filled n l no_key l₁ → Lined n 0 l₁ l₁ 0
lined-none n l l₁ some roomy f =
    record {
      within = within_same 0 12 l₁;
      queue = record {
        roomy = record { few = roomy.few; enough = omega (arith, roomy.enough, f.within.long) };
        tree = f.tree;
        root = record { low = omega arith; high = some; used = some; least = λ j lo hi used. omega (arith, f.keys 0 some, f.keys j used) };
      };
      keys = λ w b. f.keys w b ∙ sym (ap (λ c. cond c (key_for n l₁ w) no_key) (le-ltb w 0 (omega arith)));
    }

-- what changed only keys and winners left all that a candidate is read from
within-field : {l m : List ℕ} → Within 0 12 l m → (j v p : ℕ) → 12 ≤ p → p + j ≤ 40 → num j m (v * room_bytes + p) ≡ num j l (v * room_bytes + p)
within-field f j v p lo hi = f.field j v p (or_right (leb (p + j) 0) (leb 12 p) (le-leb 12 p lo)) (le-leb (p + j) room_bytes (omega arith))

pub lined-more : (n v : ℕ) (l l' l'' : List ℕ) (root root' : ℕ) → v < n → Lined n v l l' root → KeySet n l' v (key_for n l' v) l'' root' → Lined n (v + 1) l l'' root'
lined-more n v l l' l'' root root' b h k =
    record { within = within-trans h.within k.within; queue = k.queue; keys = λ w c. go w c (ℕ_discrete w v) }
  where
    go : (w : ℕ) → w < n → Dec (w ≡ v) → key_at l'' w ≡ cond (ltb w (v + 1)) (key_for n l w) no_key
    go w c (yes e) =
        ap (key_at l'') e ∙ k.own ∙ key-beside n l l' (within-field h.within) v ∙ ap (key_for n l) (sym e)
        ∙ sym (ap (λ y. cond y (key_for n l w) no_key) (lt-ltb w (v + 1) (omega arith)))
    go w c (no ne) =
        k.others w c ne ∙ h.keys w c ∙ ap (λ y. cond y (key_for n l w) no_key)
        (⊎_elim (λ z. le-ltb w v z ∙ sym (le-ltb w (v + 1) (omega arith))) (λ z. lt-ltb w v z ∙ sym (lt-ltb w (v + 1) (omega arith))) (order v w))

pub lined-free : (n v : ℕ) (l l' : List ℕ) (root : ℕ) → v < n → Lined n v l l' root → key_at l' v ≡ no_key
lined-free n v l l' root b h = h.keys v b ∙ ap (λ y. cond y (key_for n l v) no_key) (le-ltb v v (omega arith))

pub lined-all : (n v : ℕ) (l l₁ l₂ : List ℕ) (root : ℕ) → n ≤ v → Filled n l no_key l₁ → Lined n v l₁ l₂ root → (w : ℕ) → w < n → key_at l₂ w ≡ key_for n l w
lined-all n v l l₁ l₂ root e f h w b =
    h.keys w b ∙ ap (λ y. cond y (key_for n l₁ w) no_key) (lt-ltb w v (omega arith)) ∙ key-beside n l l₁ (within-field f.within) w

-- ---- the four searches

pub roomy-same : {n : ℕ} {l m : List ℕ} → Roomy n l → length m ≡ length l → Roomy n m
roomy-same r e = record { few = r.few; enough = omega (arith, r.enough) }

pub stands-forth : (x : Stand) → x ≡ forth → Stands x
stands-forth x e =
    subst Stands (sym e)
    (record {
      dist-after = omega arith;
      dist-in = omega arith;
      last-after = omega arith;
      last-in = omega arith;
      apart = inl (omega arith);
      some-way = omega arith;
      far-most = omega arith;
    })

pub stands-back : (x : Stand) → x ≡ back → Stands x
stands-back x e =
    subst Stands (sym e)
    (record {
      dist-after = omega arith;
      dist-in = omega arith;
      last-after = omega arith;
      last-in = omega arith;
      apart = inr (omega arith);
      some-way = omega arith;
      far-most = omega arith;
    })

pub before-forth : (x : Stand) → x ≡ forth → BeforeNotes x
before-forth x e = subst BeforeNotes (sym e) (record { dist = omega arith; last = omega arith })

pub before_back : (x : Stand) → x ≡ back → BeforeNotes x
before_back x e = subst BeforeNotes (sym e) (record { dist = omega arith; last = omega arith })

-- what a search found, by the names of its fields
pub found-by : (net : Net) (s n : ℕ) (l : List ℕ) (x y : Stand) → x ≡ y → Found net s x.far (dist_in x n l) (last_in x l) → Found net s y.far (dist_in y n l) (last_in y l)
found-by net s n l x y e f = subst (λ z. Found net s z.far (dist_in z n l) (last_in z l)) e f

module _ (n : ℕ) (l m : List ℕ) where
  forth-as : ((v : ℕ) → long_at 12 m v ≡ long_at 12 l v) → dist_in forth n l ≡ dist_in forth n m
  forth-as h = fun_ext (λ v. ap (λ x. cond (ltb v n) x far) (sym (h v)))

  back_as : ((v : ℕ) → long_at 32 m v ≡ long_at 32 l v) → dist_in back n l ≡ dist_in back n m
  back_as h = fun_ext (λ v. ap (λ x. cond (ltb v n) x far) (sym (h v)))

  next-as : ((v : ℕ) → word_at 28 m v ≡ word_at 28 l v) → last_in back l ≡ last_in back m
  next-as h = fun_ext (λ v. sym (h v))

-- The search to t, the first arcs, the search from s, and the walk: each leaves what those before it left.
pub prepared-all : (net : Net) (s t : ℕ) (l₁ l₂ l₃ l₄ : List ℕ) (x : Stand) → x ≡ forth → Roomy net.nodes l₄
    → Found (reversed net) t far (dist_in back net.nodes l₁) (last_in back l₁) → Within 28 4 l₁ l₂ → Picked net t l₂
    → Elsewhere x l₂ l₃ → Found net s far (dist_in forth net.nodes l₃) (last_in forth l₃) → Within 20 8 l₃ l₄ → Ranked net s l₄ → Prepared net s t l₄
prepared-all net s t l₁ l₂ l₃ l₄ x e roomy found-t picked-in picked elsewhere found-s ranked-in ranked =
    let n = net.nodes in
    let by = subst (λ z. Elsewhere z l₂ l₃) e elsewhere in
    let far-kept : (v : ℕ) → long_at 32 l₄ v ≡ long_at 32 l₂ v = λ v. ranked-in.field 8 v 32 refl refl
    ∙ by.field 8 v 32 (omega arith) (omega arith) (inr (omega arith)) (inr (omega arith)) in
    let next-kept : (v : ℕ) → word_at 28 l₄ v ≡ word_at 28 l₂ v = λ v. ranked-in.field 4 v 28 refl refl
    ∙ by.field 4 v 28 (omega arith) (omega arith) (inr (omega arith)) (inr (omega arith)) in
    record {
      roomy = roomy;
      from-s = (last_in forth l₃, subst (λ d. Found net s far d (last_in forth l₃)) (forth-as n l₃ l₄ (λ v. ranked-in.field 8 v 12 refl refl)) found-s);
      to-t = (last_in back l₁, subst (λ d. Found (reversed net) t far d (last_in back l₁)) (back_as n l₁ l₄ (λ v. far-kept v ∙ picked-in.field 8 v 32 refl refl)) found-t);
      ranked = ranked;
      picked = record { each = subst (λ d. First d (last_in back l₄)) (back_as n l₂ l₄ far-kept) (subst (First (dist_in back n l₂)) (next-as n l₂ l₄ next-kept) picked.each) };
    }
  where
    First : (ℕ → ℕ) → (ℕ → ℕ) → Type 0
    First d b = (v : ℕ) → v < net.nodes → v ≢ t → d v < far → Pick net d v (b v)
