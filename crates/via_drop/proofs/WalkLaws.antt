-- The numbers that are kept. A store changes one of them; so what is known stays right where the number that is stored is. On a way, what was passed and what is to come
-- make up the whole, and no overlap is as great as a distance may be.
use mathlib.Core.Path.{◌≡◌, refl, sym, ap, subst, ◌∙◌}
use mathlib.Core.Logic.{◌≢◌, ◌⊎◌, inl, inr, ⊎_elim}
use mathlib.Core.Bool.{Bool, true, false}
use mathlib.Core.List.{List, [], ◌∷◌}
use Prim.Native.Nat.{ℕ, ◌+◌, ◌*◌, ◌^◌, ◌≤◌, ◌<◌}
use native.Mathlib.Omega.{arith}
use native.Mathlib.Decide.{ℕ_discrete}
use lib.ListN.{length}
use Rattle.table.specs.Table.{records}
use Rattle.working_room.specs.Field.{room_bytes, put_long, Within}
use Rattle.working_room.proofs.RoomLaws.{long-put, long-put-node, within-long, within_same, within-trans, within_wider, within-long_at}
use Rattle.node_queue.specs.Queue.{Roomy}
use Rattle.node_queue.proofs.WinnerLaws.{room_at}
use Rattle.search_ask.specs.declared.Ask.{Ask}
use Rattle.search_ask.specs.Ask.{Accepted}
use Rattle.search_ask.specs.Earlier.{route_in, Formed}
use Rattle.search_driven.specs.Marks.{Filter}
use Rattle.first_routes.specs.Firsts.{far}
use Rattle.via_drop.specs.Drop.{Beside}
use Rattle.via_drop.specs.Walks.{unknown, number_at, put_number, arc_by, next_by, dist_by, end_by, total_by, share, Step, Led, Known, Blank, Begun, Dropping}
use Rattle.via_drop.proofs.BesideLaws.{numbers-beside, keys-beside, roomy-beside, arc-beside, dist-beside, total-beside}

-- ---- a number stored

module _ (l : List ℕ) (v x : ℕ) where
  pub number-within : (on : Bool) → Within 40 16 l (put_number on l v x)
  unfolding put_number
  number-within true = within_wider 40 16 (within-long 48 l v x refl) refl refl
  number-within false = within_wider 40 16 (within-long 40 l v x refl) refl refl

  number_put : (on : Bool) → v * room_bytes + room_bytes ≤ length l → x < 2 ^ 64 → number_at on (put_number on l v x) v ≡ x
  unfolding number_at put_number
  number_put true h k = long-put 48 l v x refl h k
  number_put false h k = long-put 40 l v x refl h k

  -- it is the one stored, or is as it was
  number-put-cases : (on way : Bool) (w : ℕ) → ((way ≡ on) × (w ≡ v)) ⊎ (number_at way (put_number on l v x) w ≡ number_at way l w)
  unfolding number_at put_number
  number-put-cases true true w = go (ℕ_discrete w v)
    where
      go : Dec (w ≡ v) → ((true ≡ true) × (w ≡ v)) ⊎ (number_at true (put_number true l v x) w ≡ number_at true l w)
      go (yes e) = inl (refl, e)
      go (no ne) = inr (long-put-node 48 l v x refl w ne)
  number-put-cases true false w = inr (within-long_at (within-long 48 l v x refl) 40 w refl refl)
  number-put-cases false true w = inr (within-long_at (within-long 40 l v x refl) 48 w refl refl)
  number-put-cases false false w = go (ℕ_discrete w v)
    where
      go : Dec (w ≡ v) → ((false ≡ false) × (w ≡ v)) ⊎ (number_at false (put_number false l v x) w ≡ number_at false l w)
      go (yes e) = inl (refl, e)
      go (no ne) = inr (long-put-node 40 l v x refl w ne)

  -- the other number of a node
  number-apart : (w : ℕ) → number_at false (put_number true l v x) w ≡ number_at false l w
  unfolding number_at put_number
  number-apart w = within-long_at (within-long 48 l v x refl) 40 w refl refl

-- ---- all unknown, and then those where the ways end

-- both numbers of v become x and y
module _ (l : List ℕ) (v w x y : ℕ) (v-room : v * room_bytes + room_bytes ≤ length l) (w-room : w * room_bytes + room_bytes ≤ length l) (x-small : x < 2 ^ 64) (y-small : y < 2 ^ 64) where
  abbrev first : List ℕ
  first = put_number false l v x

  abbrev both : List ℕ
  both = put_number true first w y

  both-within : Within 40 16 l both
  both-within = within-trans (number-within l v x false) (number-within first w y true)

  both-on : number_at true both w ≡ y
  both-on = number_put first w y true (omega (arith, w-room, (number-within l v x false).long)) y-small

  both_to : number_at false both v ≡ x
  both_to = number-apart first w y v ∙ number_put l v x false v-room x-small

  -- another number
  both-other : (on : Bool) (u : ℕ) → (on ≡ true → u ≢ w) → (on ≡ false → u ≢ v) → number_at on both u ≡ number_at on l u
  both-other on u a b =
      ⊎_elim (λ z. absurd (a z.0 z.1)) (λ z. z) (number-put-cases first w y true on u)
      ∙ ⊎_elim (λ z. absurd (b z.0 z.1)) (λ z. z) (number-put-cases l v x false on u)

pub blank_none : (l : List ℕ) → Blank 0 l l
blank_none l = record { within = within_same 40 16 l; all = λ on v h. absurd (omega arith) }

pub blank-more : (n v : ℕ) (l m m₁ m₂ : List ℕ) → Roomy n l → v < n → Blank v l m → m₁ ≡ put_long 40 m v unknown → m₂ ≡ put_long 48 m₁ v unknown → Blank (v + 1) l m₂
unfolding number_at put_number
blank-more n v l m m₁ m₂ r h b e f =
    subst (Blank (v + 1) l) (sym (f ∙ ap (λ k. put_long 48 k v unknown) e))
    (record { within = within-trans b.within (both-within m v v unknown unknown room room (omega arith) (omega arith)); all = λ on w i. go on w i (ℕ_discrete w v) })
  where
    room : v * room_bytes + room_bytes ≤ length m
    room = omega (arith, room_at r v h, b.within.long)

    fresh : (on : Bool) → number_at on (both m v v unknown unknown room room (omega arith) (omega arith)) v ≡ unknown
    fresh true = both-on m v v unknown unknown room room (omega arith) (omega arith)
    fresh false = both_to m v v unknown unknown room room (omega arith) (omega arith)

    go : (on : Bool) (w : ℕ) → w < v + 1 → Dec (w ≡ v) → number_at on (both m v v unknown unknown room room (omega arith) (omega arith)) w ≡ unknown
    go on w i (yes z) = ap (number_at on (both m v v unknown unknown room room (omega arith) (omega arith))) z ∙ fresh on
    go on w i (no ne) = both-other m v v unknown unknown room room (omega arith) (omega arith) on w (λ _. ne) (λ _. ne) ∙ b.all on w (omega arith)

pub begun-made : (ask : Ask) (l m m₁ m₂ : List ℕ) → Roomy ask.nodes l → ask.s < ask.nodes → ask.goal < ask.nodes → Blank ask.nodes l m
    → m₁ ≡ put_long 40 m ask.s 0 → m₂ ≡ put_long 48 m₁ ask.goal 0 → Begun ask l m₂
unfolding number_at put_number end_by
begun-made ask l m m₁ m₂ r hs ht b e f =
    subst (Begun ask l) (sym (f ∙ ap (λ k. put_long 48 k ask.goal 0) e))
    (record {
      within = within-trans b.within (both-within m ask.s ask.goal 0 0 rs rt (omega arith) (omega arith));
      ends = ends;
      others = λ on v h ne. both-other m ask.s ask.goal 0 0 rs rt (omega arith) (omega arith) on v (λ z i. ne (i ∙ ap (λ o. end_by o ask) (sym z))) (λ z i. ne (i ∙ ap (λ o. end_by o ask) (sym z))) ∙ b.all on v h;
    })
  where
    rs : ask.s * room_bytes + room_bytes ≤ length m
    rs = omega (arith, room_at r ask.s hs, b.within.long)

    rt : ask.goal * room_bytes + room_bytes ≤ length m
    rt = omega (arith, room_at r ask.goal ht, b.within.long)

    ends : (on : Bool) → number_at on (both m ask.s ask.goal 0 0 rs rt (omega arith) (omega arith)) (end_by on ask) ≡ 0
    ends true = both-on m ask.s ask.goal 0 0 rs rt (omega arith) (omega arith)
    ends false = both_to m ask.s ask.goal 0 0 rs rt (omega arith) (omega arith)

-- ---- what the ways are, and what is known of them, while only the bytes beside them change

less-beside : {l m : List ℕ} → Beside l m → (on : Bool) (n v : ℕ) → dist_by on n m v < far → dist_by on n l v < far
less-beside b on n v h = omega (arith, dist-beside b on n v, h)

number-kept : {l m : List ℕ} → Within 0 12 l m → (on : Bool) (v : ℕ) → number_at on m v ≡ number_at on l v
unfolding number_at
number-kept f true v = within-long_at f 48 v refl refl
number-kept f false v = within-long_at f 40 v refl refl

module _ {ask : Ask} {t e l m : List ℕ} where
  step-beside : Beside l m → (on : Bool) (v : ℕ) → Step on ask t e l v → Step on ask t e m v
  step-beside b on v s =
      let a = sym (arc-beside b on v) in
      let w = next_by on t (arc_by on l v) in
      record {
        arc-below = subst (λ x. x < records t) a s.arc-below;
        next-below = subst (λ x. next_by on t x < ask.nodes) a s.next-below;
        nearer = subst (λ x. dist_by on ask.nodes m (next_by on t x) < dist_by on ask.nodes m v) a
            (omega (arith, dist-beside b on ask.nodes w, dist-beside b on ask.nodes v, s.nearer));
        adds = subst (λ x. total_by on ask t e m v ≡ share ask t e x + total_by on ask t e m (next_by on t x)) a
            (total-beside b on ask t e v ∙ s.adds ∙ ap (λ y. share ask t e (arc_by on l v) + y) (sym (total-beside b on ask t e w)));
      }

  led-beside : Beside l m → Led ask t e l → Led ask t e m
  led-beside b d =
      record {
        roomy = roomy-beside b d.roomy;
        step = λ on v h ne k. step-beside b on v (d.step on v h ne (less-beside b on ask.nodes v k));
        small = λ on v h k. subst (λ x. x < far) (sym (total-beside b on ask t e v)) (d.small on v h (less-beside b on ask.nodes v k));
        none = λ on. total-beside b on ask t e (end_by on ask) ∙ d.none on;
      }

  known-own : Beside l m → Known ask t e l m → Known ask t e m m
  known-own b k =
      record {
        ends = k.ends;
        right = λ on v h f. ⊎_elim inl (λ z. inr (z ∙ sym (total-beside b on ask t e v))) (k.right on v h (less-beside b on ask.nodes v f));
      }

  known-keys : Within 0 12 l m → Known ask t e l l → Known ask t e l m
  known-keys f k =
      record {
        ends = λ on. number-kept f on (end_by on ask) ∙ k.ends on;
        right = λ on v h i. ⊎_elim (λ z. inl (number-kept f on v ∙ z)) (λ z. inr (number-kept f on v ∙ z)) (k.right on v h i);
      }

  known-begun : Begun ask l m → Led ask t e l → Known ask t e l m
  known-begun b d = record { ends = b.ends; right = λ on v h f. go on v h (ℕ_discrete v (end_by on ask)) }
    where
      go : (on : Bool) (v : ℕ) → v < ask.nodes → Dec (v ≡ end_by on ask) → (number_at on m v ≡ unknown) ⊎ (number_at on m v ≡ total_by on ask t e l v)
      go on v h (yes z) = inr (ap (number_at on m) z ∙ b.ends on ∙ sym (d.none on) ∙ ap (total_by on ask t e l) (sym z))
      go on v h (no ne) = inl (b.others on v h ne)

  -- ---- on the way from u

  pub not_end : Known ask t e l m → (on : Bool) (u : ℕ) → number_at on m u ≡ unknown → u ≢ end_by on ask
  not_end k on u h z = let c : 0 ≡ unknown = sym (k.ends on) ∙ ap (number_at on m) (sym z) ∙ h in omega (arith, c)

  pub known-put : Led ask t e l → Within 40 16 l m → Known ask t e l m → (on : Bool) (u x : ℕ) → u < ask.nodes → dist_by on ask.nodes l u < far
      → number_at on m u ≡ unknown → x ≡ total_by on ask t e l u → Known ask t e l (put_number on m u x)
  known-put d f k on u x h i g is =
      let same : number_at on (put_number on m u x) u ≡ x =
      number_put m u x on (omega (arith, room_at d.roomy u h, f.long)) (omega (arith, is, d.small on u h i)) in
      record {
        ends = λ way. ⊎_elim
            (λ z. absurd (not_end k on u g (sym z.1 ∙ ap (λ o. end_by o ask) z.0)))
            (λ z. z ∙ k.ends way)
            (number-put-cases m u x on way (end_by way ask));
        right = λ way v below less. ⊎_elim
            (λ z. inr (ap (λ o. number_at o (put_number on m u x) v) z.0 ∙ ap (number_at on (put_number on m u x)) z.1 ∙ same ∙ is
            ∙ ap (total_by on ask t e l) (sym z.1) ∙ ap (λ o. total_by o ask t e l v) (sym z.0)))
            (λ z. ⊎_elim (λ w. inl (z ∙ w)) (λ w. inr (z ∙ w)) (k.right way v below less))
            (number-put-cases m u x on way v);
      }

-- one arc, a, from u to y; it shares x
module _ {on : Bool} {ask : Ask} {t e l : List ℕ} {u : ℕ} (s : Step on ask t e l u) {a : ℕ} (is : a ≡ arc_by on l u) where
  pub turn-arc : a < records t
  turn-arc = subst (λ b. b < records t) (sym is) s.arc-below

  module _ {y : ℕ} (to : y ≡ next_by on t a) where
    to-next : y ≡ next_by on t (arc_by on l u)
    to-next = to ∙ ap (next_by on t) is

    pub turn_below : y < ask.nodes
    turn_below = subst (λ b. b < ask.nodes) (sym to-next) s.next-below

    pub turn-nearer : dist_by on ask.nodes l y < dist_by on ask.nodes l u
    turn-nearer = subst (λ b. dist_by on ask.nodes l b < dist_by on ask.nodes l u) (sym to-next) s.nearer

    pub turn-adds : {x : ℕ} → x ≡ share ask t e a → total_by on ask t e l u ≡ x + total_by on ask t e l y
    turn-adds {x} h =
        s.adds ∙ ap (λ b. share ask t e b + total_by on ask t e l (next_by on t (arc_by on l u))) (sym is)
        ∙ ap (λ z. z + total_by on ask t e l (next_by on t (arc_by on l u))) (sym h) ∙ ap (λ b. x + total_by on ask t e l b) (sym to-next)

-- ---- the whole, after numbers or keys have changed

module _ {ask : Ask} {t slot marks l m : List ℕ} (d : Dropping ask t slot marks l) where
  pub dropping-numbers : Within 40 16 l m → Known ask t (route_in slot) l m → Dropping ask t slot marks m
  dropping-numbers f k =
      record { accepted = d.accepted; filter = d.filter; formed = d.formed; led = led-beside (numbers-beside f) d.led; known = known-own (numbers-beside f) k }

  pub dropping-keys : Within 0 12 l m → Dropping ask t slot marks m
  dropping-keys f =
      record { accepted = d.accepted; filter = d.filter; formed = d.formed; led = led-beside (keys-beside f) d.led; known = known-own (keys-beside f) (known-keys f d.known) }

pub dropping-begun : {ask : Ask} {t slot marks l m : List ℕ} → Accepted ask t → Filter t (route_in slot ∷ []) marks → Formed slot → Led ask t (route_in slot) l → Begun ask l m → Dropping ask t slot marks m
dropping-begun acc f form d b =
    let n = numbers-beside b.within in
    record { accepted = acc; filter = f; formed = form; led = led-beside n d; known = known-own n (known-begun b d) }
