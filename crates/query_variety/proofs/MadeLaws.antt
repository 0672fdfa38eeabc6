-- What the listing leaves is what the choice asks: the listed are simple routes, so none leaves a node twice. What is made then is what is due: for each of the three outcomes
-- the reply computes, and the slots are those of the list, of the chosen, or blank.
use mathlib.Core.Path.{◌≡◌, refl, sym, ap, ap₂, subst, ◌∙◌}
use mathlib.Core.Logic.{◌⊎◌, inl, inr}
use mathlib.Core.Bool.{Bool, true, false, not, ◌&&◌, cond}
use mathlib.Core.Option.{Option, none, some}
use Rattle.std.specs.Prelude.{Some}
use mathlib.Core.List.Memᴰ
use mathlib.Core.List.{List, [], ◌++◌, Memᴰ}
use Prim.Native.Nat.{ℕ, zero, suc, ◌+◌, ◌-◌, ◌*◌, ◌/◌, ◌≤◌, ◌<◌}
use native.Mathlib.Omega.{arith}
use native.Mathlib.Nat.{mul-le-mul_right, le_trans, div-add-mod'}
use lib.Dec.{T, ltb, leb, leb→le}
use lib.ListN.{length, get_or, drop, replicate, length-replicate}
use lib.Seq.{drop-drop}
use borrow.Author.Tests.{lt-ltb, le-ltb}
use borrow.Rule.Slice.PartMut.{put_mid, mid_of}
use Rattle.lists.proofs.Cases.{order}
use Rattle.lists.proofs.TestLaws.{and_l, and_r}
use Rattle.words.specs.Part.{patch, slot}
use Rattle.words.proofs.PartLaws.{back, lent, length-patch, drop-after}
use Rattle.outcome.specs.declared.Told.{Told}
use Rattle.outcome.specs.Outcome.{found, list_full, too_few, plain, beside}
use Rattle.net.specs.Net.{Net}
use Rattle.net.specs.Limits.{most_nodes, most_d}
use Rattle.net.specs.Route.{partial, length_of}
use Rattle.net.proofs.Valid.{Sound}
use Rattle.table.specs.Table.{arcs_of, net_of}
use Rattle.table.specs.Fault.{table_fault, good}
use Rattle.table.proofs.NetLaws.{arc-is, table-sound}
use Rattle.labels.specs.Field.{no_number}
use Rattle.search_ask.specs.Earlier.{route_in, earlier_in}
use Rattle.search_ask.proofs.EarlierLaws.{length-earlier_in, mem-earlier_in}
use Rattle.distances.specs.Distance.{distance}
use Rattle.query_rounds.specs.Area.{slots, area_with}
use Rattle.query_rounds.proofs.AreaLaws.{area-blank}
use Rattle.variety.specs.Variety.{no_route, near, range_wrong, picked, chosen, shortage, Variety, variety_of, variety_reply}
use Rattle.variety.proofs.Shared.{starts_apart, arcs-distinct}
use Rattle.variety.proofs.Listing.{near-e, near-long, near_none}
use Rattle.route_list.specs.Listed.{Listed}
use Rattle.route_apart.proofs.ApartLaws.{members-below}
use Rattle.remaining.specs.Standing.{Roomy}
use Rattle.working_room.specs.Field.{room_bytes, word_at}
use Rattle.route_apart.specs.Marks.{mark_field}
use Rattle.near_list.specs.Near.{Lists}
use Rattle.near_list.proofs.NearLaws.{num-zeros}
use Rattle.near_choice.specs.Choosing.{Routes, Blank}
use Rattle.near_pick.proofs.SlotLaws.{listed-slots}
use Rattle.query_variety.specs.Made.{most_listed, slots_of, Listing, list_after, Left}

-- ---- the range

pub record Ranged (c d : ℕ) : Type 0 where
  pub d-least : 1 ≤ d
  pub d-most : d ≤ most_d
  pub c-most : c ≤ d

pub ranged : (c d : ℕ) → range_wrong c d ≡ false → Ranged c d
unfolding range_wrong
ranged c d e =
    let all = (leb 1 d && leb d most_d) && leb c d in
    let h : T all = not-wrong all e in
    let both = and_l (leb 1 d && leb d most_d) (leb c d) h in
    record {
      d-least = leb→le 1 d (and_l (leb 1 d) (leb d most_d) both);
      d-most = leb→le d most_d (and_r (leb 1 d) (leb d most_d) both);
      c-most = leb→le c d (and_r (leb 1 d && leb d most_d) (leb c d) h);
    }
  where
    not-wrong : (b : Bool) → not b ≡ false → T b
    not-wrong true i = tt
    not-wrong false i = absurd (subst T i tt)

-- ---- the slots of the list

pub slots-most : (words w : ℕ) → slots_of words w ≤ most_listed
unfolding slots_of
slots-most words w = go (order (words / w) most_listed)
  where
    go : (words / w ≤ most_listed) ⊎ (most_listed < words / w) → cond (ltb most_listed (words / w)) most_listed (words / w) ≤ most_listed
    go (inl h) = rw (le-ltb most_listed (words / w) h) h
    go (inr h) = rw (lt-ltb most_listed (words / w) h) (omega arith)

pub slots-fit : (words w : ℕ) → slots_of words w * w ≤ words
unfolding slots_of
slots-fit words w = go (order (words / w) most_listed)
  where
    whole : words / w * w ≤ words
    whole = omega (arith, div-add-mod' words w)

    go : (words / w ≤ most_listed) ⊎ (most_listed < words / w) → cond (ltb most_listed (words / w)) most_listed (words / w) * w ≤ words
    go (inl h) = rw (le-ltb most_listed (words / w) h) whole
    go (inr h) = rw (lt-ltb most_listed (words / w) h) (le_trans (mul-le-mul_right w (omega arith)) whole)

-- ---- a room of zeros has no marks

pub blank : (nodes : ℕ) (room room' : List ℕ) → Roomy nodes room → room' ≡ replicate (length room) 0 → Blank nodes room'
blank nodes room room' h e =
    record {
      roomy = omega (arith, ap length e, length-replicate {A = ℕ} (length room) 0);
      unmarked = λ v. ap (λ z. word_at mark_field z v) e ∙ num-zeros 4 (length room) (v * room_bytes + mark_field);
    }

-- ---- the listing, in a part of the area

pub listing : (t : List ℕ) (w bound : ℕ) (rs : List (List ℕ)) (l area room m path room₁ area' room' : List ℕ) (n : Rattle.std.specs.Prelude.Option ℕ) → w ≤ length area → Lists t w bound rs l m n
    → length m ≡ length l → length path ≡ length (mid_of 0 (w - 0) area) → length room₁ ≡ length room → area' ≡ put_mid 0 (w - 0) area path → room' ≡ replicate (length room₁) 0
    → Listing t w bound rs l area room m area' room' n
listing t w bound rs l area room m path room₁ area' room' n h lists e f g i j =
    let few : length path ≡ w - 0 = f ∙ lent 0 w area (omega arith) h in
    let is : area' ≡ patch 0 w area path = i ∙ back 0 w area path (omega arith) in
    record {
      lists = lists;
      list-long = e;
      area-long = ap length is ∙ length-patch 0 w area path (omega arith) h few;
      area_on = ap (drop w) is ∙ drop-after 0 w area path (omega arith) h few w (omega arith);
      room-is = j ∙ ap (λ k. replicate k 0) g;
    }

-- ---- the listed

-- they stand in the slots
pub record Stand (t : List ℕ) (w slots : ℕ) (rs : List (List ℕ)) (l m : List ℕ) (n : ℕ) : Type 0 where
  pub few : n ≤ slots
  pub listed : Listed t w n m
  pub is : earlier_in w n m ≡ rs
  pub behind : drop (n * w) m ≡ drop (n * w) l

pub lists-stand : (t : List ℕ) (w slots : ℕ) (rs : List (List ℕ)) (l m : List ℕ) (n : ℕ) → Lists t w slots rs l m (Some n) → Stand t w slots rs l m n
lists-stand t w slots rs l m n h = record { few = h.0; listed = h.1; is = h.2; behind = h.3 }

module _ (t closed : List ℕ) (nodes s goal : ℕ) (ok : table_fault nodes t ≡ good) (below : s < nodes) (ne : s ≡ goal → ⊥) (c d w bound : ℕ) (few : w ≤ most_nodes) (l m : List ℕ) (n : ℕ)
    (h : Stand t w bound (near (net_of nodes t closed) s goal c d) l m n) where
  abbrev net : Net
  net = net_of nodes t closed

  abbrev rs : List (List ℕ)
  rs = near net s goal c d

  sound : Sound net
  sound = table-sound nodes t ok closed

  pub many : length rs ≡ n
  many = sym (ap length h.is) ∙ length-earlier_in w n m

  -- each is a simple route
  simple : (p : List ℕ) → Memᴰ p rs → T (partial net s p)
  simple p k = go (distance net s goal) refl
    where
      go : (o : Option ℕ) → distance net s goal ≡ o → T (partial net s p)
      go none e = absurd (Memᴰ.not-nil (subst (Memᴰ p) (near_none net s goal c d e) k))
      go (some x) e = (near-e net sound s goal below c d x e p k).is-partial

  is-simple : (i : ℕ) → i < n → T (partial net s (route_in (slot w i m)))
  is-simple i k = simple (route_in (slot w i m)) (subst (Memᴰ (route_in (slot w i m))) h.is (mem-earlier_in w n m i k))

  long : (i : ℕ) → 0 < length_of (arcs_of t) (get_or rs i no_route)
  unfolding length_of
  long i = go (distance net s goal) refl
    where
      go : (o : Option ℕ) → distance net s goal ≡ o → 0 < length_of (arcs_of t) (get_or rs i no_route)
      go none e = subst (λ z. 0 < length_of (arcs_of t) (get_or z i no_route)) (sym (near_none net s goal c d e)) (omega (arith, sound.positive 0))
      go (some x) e = near-long net sound s goal below c d x e ne i

  pub routes : Routes t nodes w n m
  routes =
      record {
        fine = ok;
        few = few;
        listed = h.listed;
        starts = λ i k a b x y e.
            let in_table = members-below t (slot w i m) (h.listed.words i k) in
            starts_apart net s (route_in (slot w i m)) (is-simple i k) a b x y (ap (λ z. z.from) (arc-is t a (in_table a x)) ∙ e ∙ sym (ap (λ z. z.from) (arc-is t b (in_table b y))));
        once = λ i k. arcs-distinct net s (route_in (slot w i m)) (is-simple i k);
        long = λ i. subst (λ z. 0 < length_of (arcs_of t) (get_or z i no_route)) (sym h.is) (long i);
      }

-- ---- the reply

module _ (net : Net) (s goal c d k bound : ℕ) where
  abbrev reply : Variety
  reply = variety_reply net s goal c d k bound

  abbrev none_of : ℕ → Variety
  none_of o = record { told = plain o; listed = []; routes = [] }

  pub reply-full : bound < length (near net s goal c d) → reply ≡ none_of list_full
  unfolding variety_reply variety_of shortage
  reply-full h = rw (lt-ltb bound (length (near net s goal c d)) h)

  pub reply-few : length (near net s goal c d) ≤ bound → length (near net s goal c d) < k → reply ≡ none_of too_few
  unfolding variety_reply variety_of shortage
  reply-few h i = rw (le-ltb bound (length (near net s goal c d)) h, lt-ltb (length (near net s goal c d)) k i)

  pub reply-found : length (near net s goal c d) ≤ bound → k ≤ length (near net s goal c d)
      → reply ≡ record { told = beside found (length (near net s goal c d)); listed = near net s goal c d; routes = picked (near net s goal c d) (chosen net.arcs (near net s goal c d) k) }
  unfolding variety_reply variety_of shortage
  reply-found h i = rw (le-ltb bound (length (near net s goal c d)) h, le-ltb (length (near net s goal c d)) k i)

-- ---- what is left

module _ (w k : ℕ) (least : 1 ≤ k) (list area room : List ℕ) where
  -- the first slot was used, and the k slots are written
  area_same : (b : List ℕ) → drop w b ≡ drop w area → (ps : List (List ℕ)) → area_with w k b ps ≡ area_with w k area ps
  unfolding area_with
  area_same b e ps =
      let z : k * w ≡ w + (k - 1) * w = split k least in
      ap (λ x. slots w k ps ++ x) (ap (λ i. drop i b) z ∙ sym (drop-drop ((k - 1) * w) w b) ∙ ap (drop ((k - 1) * w)) e ∙ drop-drop ((k - 1) * w) w area ∙ ap (λ i. drop i area) (sym z))
    where
      split : (j : ℕ) → 1 ≤ j → j * w ≡ w + (j - 1) * w
      split zero i = absurd (omega arith)
      split (suc j) i = let y : suc j - 1 ≡ j = omega arith in
          let x : suc j * w ≡ w + j * w = omega arith in
          x ∙ ap (λ u. w + u * w) (sym y)

  pub left-none : (v : Variety) (o : ℕ) → v ≡ record { told = plain (suc o); listed = []; routes = [] } → (m b : List ℕ) → length m ≡ length list → drop w b ≡ drop w area
      → (x : Told) (list' area' room' : List ℕ) → x ≡ plain (suc o) → list' ≡ replicate (length m) no_number → area' ≡ patch 0 (k * w) b (replicate (k * w - 0) no_number) → room' ≡ replicate (length room) 0
      → Left v w k list area room x list' area' room'
  unfolding list_after
  left-none v o is m b long on x list' area' room' e f g h =
      subst (λ u. Left u w k list area room x list' area' room') (sym is)
      (record {
        told = e;
        list-is = f ∙ ap (λ n. replicate n no_number) long;
        area-is = g ∙ area-blank w k b ∙ area_same b on [];
        room-is = h;
      })

  pub left-found : (t : List ℕ) (rs : List (List ℕ)) (bound n : ℕ) (m b : List ℕ) (ps : List (List ℕ)) → Stand t w bound rs list m n → drop w b ≡ drop w area
      → (v : Variety) → v ≡ record { told = beside found (length rs); listed = rs; routes = ps }
      → (x : Told) (area' room' : List ℕ) → x ≡ beside found n → area' ≡ area_with w k b ps → room' ≡ replicate (length room) 0 → Left v w k list area room x m area' room'
  unfolding list_after
  left-found t rs bound n m b ps st on v is x area' room' e g h =
      let many : length rs ≡ n = sym (ap length st.is) ∙ length-earlier_in w n m in
      subst (λ u. Left u w k list area room x m area' room') (sym is)
      (record {
        told = e ∙ ap (beside found) (sym many);
        list-is = listed-slots t w n m st.listed list st.behind ∙ ap₂ (λ i qs. area_with w i list qs) (sym many) st.is;
        area-is = g ∙ area_same b on ps;
        room-is = h;
      })
