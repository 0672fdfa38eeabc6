-- The lists of all nodes. A label put before the list of its node, which it sweeps, gives the lists of one label more; no other node's list has a label whose
-- link a sweep stores, for its labels end elsewhere. A walk down the list of a candidate's end tells whether the candidate is covered.
use mathlib.Core.Path.{◌≡◌, refl, sym, ap, subst, ◌∙◌}
use mathlib.Core.Bool.{true, ◌&&◌}
use mathlib.Core.List.Memᴰ
use mathlib.Core.List.{List, Memᴰ}
use mathlib.Core.Logic.{◌≢◌, inr, ⊎_elim}
use Prim.Native.Nat.{ℕ, zero-le, ◌+◌, ◌*◌, ◌≤◌, ◌<◌}
use native.Mathlib.Decide.{ℕ_discrete}
use native.Mathlib.Omega.{arith}
use lib.Dec.{eqb}
use lib.ListN.{length, set, replicate, length-set}
use lib.Seq.{get_or-set_same, get_or-set_other}
use Rattle.lists.specs.Tests.{any, up_from}
use Rattle.lists.proofs.Cases.{order}
use Rattle.lists.proofs.TestLaws.{and_i, eq→eqb, any-i}
use Rattle.lists.proofs.MemberLaws.{up_from-i}
use Rattle.words.specs.Part.{slot}
use Rattle.words.proofs.NumberLaws.{length-put, num-put-other}
use Rattle.net.specs.Limits.{most_labels}
use Rattle.labels.specs.Field.{label_bytes, head_bytes, most_earlier, no_number, end_at, overlap_at}
use Rattle.search_ask.specs.declared.Ask.{Ask}
use Rattle.search_ask.specs.Ask.{width}
use Rattle.search_queue.specs.Only.{Only}
use Rattle.search_queue.proofs.OnlyLaws.{only-trans, only-wide, only-put, end-only, overlap-only}
use Rattle.search_lists.specs.Link.{link_at, put_link, list_at, Linked, covers_at, Swept}
use Rattle.search_lists.specs.Listed.{Shown, FirstAt, Listed, place_of, head_of, head_at, none_greater, covered_at}
use Rattle.search_lists.proofs.FollowLaws.{list-none, list-cong, list-below, link-new, link-other}
use Rattle.search_lists.proofs.CoverLaws.{covers-cong, covers-refl, covers-trans, none-greater-trans, none-greater-zero}
use Rattle.search_lists.proofs.ShownLaws.{tests_same, shown-none, shown-other, shown-more, shown-any, shown-cong}
use Rattle.search_lists.proofs.HeadLaws.{place-below, place-once, head-blank, head-word}

-- the labels read elsewhere, where ends, overlaps and links are the same
pub listed-like : (ask : Ask) (r : ℕ) (area l m : List ℕ) (n : ℕ) → n * label_bytes ≤ length m → n ≢ 0 → ((i : ℕ) → i < n → end_at m i ≡ end_at l i)
    → ((i j : ℕ) → i < n → j < r → overlap_at m i j ≡ overlap_at l i j) → ((i : ℕ) → i < n → link_at m i ≡ link_at l i) → Listed ask r area l n → Listed ask r area m n
listed-like ask r area l m n room some ends overlaps links d =
    record {
      slot = d.slot;
      linked = record { room = room; links = λ i h. rw (links i h) (d.linked.links i h) };
      first = record {
        node = d.first.node;
        end = ends 0 (omega arith) ∙ d.first.end;
        overlaps = λ j h. overlaps 0 j (omega arith) h ∙ d.first.overlaps j h;
      };
      below = d.below;
      shown = λ v hv ne.
          let h : ℕ = head_at ask r area v in
          let b : h ≤ n = d.below v hv ne in
          let e : list_at m h ≡ list_at l h = list-cong l m h (λ k w. links k (omega (arith, list-below d.linked h k b w))) in
          subst (Shown (end_at m) (covers_at m r) n v) (sym e)
          (shown-cong ends (λ k i hk hi. covers-cong l m r k i (λ j w. overlaps k j hk w) (λ j w. overlaps i j hi w)) (d.shown v hv ne));
    }

-- ---- the first label, alone: no list has begun

pub listed-first : (ask : Ask) (r : ℕ) (area l : List ℕ) → label_bytes ≤ length l → FirstAt ask r l → r * width ask + width ask ≤ length area
    → slot (width ask) r area ≡ replicate (width ask) no_number → Listed ask r area (put_link l 0 0) 1
listed-first ask r area l room first fits blank =
    let m : List ℕ = put_link l 0 0 in
    let end : end_at m 0 ≡ ask.s = (only-put 30 2 1 l 0 0 refl (omega arith)).field 2 0 16 refl refl ∙ first.end in
    let none : (v : ℕ) → v < ask.nodes → v ≢ ask.s → head_at ask r area v ≡ 0 =
    λ v hv ne. head-blank (width ask) r (place_of ask.s v) area blank (place-below ask.nodes ask.s v first.node hv ne) in
    record {
      slot = fits;
      linked = record {
        room = omega (arith, length-put 2 l (0 * label_bytes + 30) 0);
        links = λ i h.
            let z : i ≡ 0 = omega arith in
            rw z (omega (arith, link-new l 0 0 (omega arith) (omega arith)));
      };
      first = record {
        node = first.node;
        end = end;
        overlaps = λ j h. num-put-other 2 8 l (0 * label_bytes + 30) (0 * label_bytes + (head_bytes + 8 * j)) 0 (inr (omega arith)) ∙ first.overlaps j h;
      };
      below = λ v hv ne. omega (arith, none v hv ne);
      shown = λ v hv ne. subst (Shown (end_at m) (covers_at m r) 1 v) (sym (list-none m (head_at ask r area v) (none v hv ne)))
          (shown-none 1 v
          (λ i h e.
          let z : i ≡ 0 = omega arith in
          ne (sym e ∙ ap (end_at m) z ∙ end)));
    }

-- ---- one label more

module _ {ask : Ask} {r : ℕ} {area l : List ℕ} {n : ℕ} (d : Listed ask r area l n) (some : n ≢ 0) (most : n < most_labels) (room : n * label_bytes + label_bytes ≤ length l)
    (few : r ≤ most_earlier) (v : ℕ) (ends : end_at l n ≡ v) (hv : v < ask.nodes) (nv : v ≢ ask.s) where
  -- the head of its node, and the labels with that as its link
  abbrev h : ℕ
  h = head_at ask r area v

  abbrev l₁ : List ℕ
  l₁ = put_link l n h

  only₁ : Only 30 2 (n + 1) l l₁
  only₁ = only-put 30 2 (n + 1) l n h refl (omega arith)

  link₁ : link_at l₁ n ≡ h
  link₁ = link-new l n h room (omega (arith, d.below v hv nv))

  listed₁ : Listed ask r area l₁ n
  listed₁ =
      let w = only-wide 30 2 only₁ refl refl in
      listed-like ask r area l l₁ n (omega (arith, only₁.long)) some (λ i b. end-only w i) (λ i j b g. overlap-only w i j (omega arith)) (λ i b. link-other l n h i (λ z. omega arith)) d

  pub linked-before : Linked l₁ (n + 1)
  linked-before =
      record {
        room = omega (arith, only₁.long);
        links = λ i b. ⊎_elim
            (λ a.
            let z : i ≡ n = omega arith in
            rw (z, link₁) (d.below v hv nv))
            (λ a. listed₁.linked.links i a)
            (order n i);
      }

  module _ (l₂ : List ℕ) (swept : Swept l₁ (n + 1) n r l₂) where
    pub only-more : Only 30 2 (n + 1) l l₂
    only-more = only-trans only₁ swept.only

    abbrev at : ℕ
    at = r * width ask + place_of ask.s v

    abbrev area₂ : List ℕ
    area₂ = set area at (n + 1)

    at-below : at < length area
    at-below = omega (arith, place-below ask.nodes ask.s v d.first.node hv nv, d.slot)

    -- what is shown of the labels before the sweep is shown after it
    moved : (w : ℕ) (ks : List ℕ) → Shown (end_at l₁) (covers_at l₁ r) (n + 1) w ks → Shown (end_at l₂) (covers_at l₂ r) (n + 1) w ks
    moved w ks x =
        let o = only-wide 30 2 swept.only refl refl in
        shown-cong (λ i b. end-only o i) (λ k i a b. covers-cong l₁ l₂ r k i (λ j g. overlap-only o k j (omega arith)) (λ j g. overlap-only o i j (omega arith))) x

    ends₁ : end_at l₁ n ≡ v
    ends₁ = only₁.field 2 n 16 refl refl ∙ ends

    -- the list of the label's own node
    own : Shown (end_at l₂) (covers_at l₂ r) (n + 1) v (list_at l₂ (n + 1))
    own =
        moved v (list_at l₂ (n + 1))
        (subst (Shown (end_at l₁) (covers_at l₁ r) (n + 1) v) (sym swept.list)
        (shown-more (covers-refl l₁ r) (covers-trans l₁ r) ends₁ (subst (λ z. Shown (end_at l₁) (covers_at l₁ r) n v (list_at l₁ z)) (sym link₁) (listed₁.shown v hv nv))))

    -- that of another node
    other : (w : ℕ) → w < ask.nodes → w ≢ ask.s → v ≢ w → Shown (end_at l₂) (covers_at l₂ r) (n + 1) w (list_at l₂ (head_at ask r area w))
    other w hw nw ne =
        let g : ℕ = head_at ask r area w in
        let x = listed₁.shown w hw nw in
        let e : list_at l₂ g ≡ list_at l₁ g =
        list-cong l₁ l₂ g
        (λ k m. swept.others k
        (λ z. ⊎_elim
        (λ y. omega (arith, (x.sound k m).0))
        (λ y. ne (sym ((listed₁.shown v hv nv).sound k (subst (λ u. Memᴰ k (list_at l₁ u)) link₁ y)).1 ∙ (x.sound k m).1))
        (Memᴰ.cases_cons z))) in
        moved w (list_at l₂ g) (subst (Shown (end_at l₁) (covers_at l₁ r) (n + 1) w) (sym e) (shown-other (λ z. ne (sym ends₁ ∙ z)) x))

    head-own : head_at ask r area₂ v ≡ n + 1
    head-own = ap head_of (get_or-set_same area at (n + 1) 0 at-below) ∙ head-word (n + 1) (omega arith)

    head-other : (w : ℕ) → w ≢ ask.s → v ≢ w → head_at ask r area₂ w ≡ head_at ask r area w
    head-other w nw ne =
        ap head_of (get_or-set_other area at (r * width ask + place_of ask.s w) (n + 1) 0 (λ z. ne (place-once ask.s v w nv nw (omega arith))))

    pub listed_more : Listed ask r area₂ l₂ (n + 1)
    listed_more =
        let o = only-wide 30 2 only-more refl refl in
        record {
          slot = omega (arith, d.slot, length-set area at (n + 1));
          linked = swept.linked;
          first = record {
            node = d.first.node;
            end = end-only o 0 ∙ d.first.end;
            overlaps = λ j g. overlap-only o 0 j (omega arith) ∙ d.first.overlaps j g;
          };
          below = λ w hw nw. go-below w hw nw (ℕ_discrete v w);
          shown = λ w hw nw. go-shown w hw nw (ℕ_discrete v w);
        }
      where
        go-below : (w : ℕ) → w < ask.nodes → w ≢ ask.s → Dec (v ≡ w) → head_at ask r area₂ w ≤ n + 1
        go-below w hw nw (yes z) = rw (← z) (omega (arith, head-own))
        go-below w hw nw (no ne) = omega (arith, head-other w nw ne, d.below w hw nw)

        go-shown : (w : ℕ) → w < ask.nodes → w ≢ ask.s → Dec (v ≡ w) → Shown (end_at l₂) (covers_at l₂ r) (n + 1) w (list_at l₂ (head_at ask r area₂ w))
        go-shown w hw nw (yes z) = rw (← z) (subst (λ g. Shown (end_at l₂) (covers_at l₂ r) (n + 1) v (list_at l₂ g)) (sym head-own) own)
        go-shown w hw nw (no ne) = subst (λ g. Shown (end_at l₂) (covers_at l₂ r) (n + 1) w (list_at l₂ g)) (sym (head-other w nw ne)) (other w hw nw ne)

-- ---- whether a candidate is covered

module _ {ask : Ask} {area l : List ℕ} {n : ℕ} (own : List ℕ) (d : Listed ask (length own) area l n) (v : ℕ) where
  pub covered-listed : v < ask.nodes → v ≢ ask.s → any (λ k. none_greater l k own) (list_at l (head_at ask (length own) area v)) ≡ covered_at l n v own
  unfolding covered_at
  covered-listed hv ne = shown-any (λ k. none_greater l k own) (λ k i a b. none-greater-trans l own k i a b) (d.shown v hv ne)

  -- the first label, at s, covers everything
  pub covered_start : n ≢ 0 → v ≡ ask.s → covered_at l n v own ≡ true
  unfolding covered_at
  covered_start some e =
      tests_same (any (λ k. eqb (end_at l k) v && none_greater l k own) (up_from 0 n)) true (λ t. tt)
      (λ t. any-i (λ k. eqb (end_at l k) v && none_greater l k own) (up_from-i 0 n 0 zero-le (omega arith))
      (and_i (eqb (end_at l 0) v) (none_greater l 0 own) (eq→eqb (end_at l 0) v (d.first.end ∙ sym e)) (none-greater-zero l own 0 d.first.overlaps)))
