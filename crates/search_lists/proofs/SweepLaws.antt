-- A sweep goes down the list behind label i. So far label p was kept last, and the rest of the list, from h on, is as it was: what stands up to p, and then
-- what is to be kept of the rest, is the result. A label that is covered is passed over by the link of p, which no label below p and no other list has.
use mathlib.Core.Path.{◌≡◌, refl, sym, ap, subst, ◌∙◌}
use mathlib.Core.Bool.{Bool, true, false, not}
use mathlib.Core.List.Memᴰ
use mathlib.Core.List.{List, [], ◌∷◌, ◌++◌, Memᴰ}
use mathlib.Core.Logic.{⊎_elim}
use Prim.Native.Nat.{ℕ, ◌+◌, ◌-◌, ◌^◌, ◌≤◌, ◌<◌}
use native.Mathlib.Omega.{arith}
use lib.Seq.{append_snoc}
use Rattle.lists.specs.Tests.{keep, cons_if}
use Rattle.labels.specs.Field.{most_earlier}
use Rattle.search_queue.specs.Only.{Only}
use Rattle.search_queue.proofs.OnlyLaws.{only_same, only-trans, only-wide, only-put, overlap-only}
use Rattle.search_lists.specs.Link.{link_at, put_link, list_at, Linked, covers_at, Swept}
use Rattle.search_lists.proofs.FollowLaws.{list-none, list-first, list-step, list-redirect, link-new, link-other, linked-put}
use Rattle.search_lists.proofs.CoverLaws.{covers-cong}

-- what covers what is as it was
covers-only : {l b : List ℕ} {n : ℕ} → Only 30 2 n l b → (r k i : ℕ) → r ≤ most_earlier → covers_at b r k i ≡ covers_at l r k i
covers-only {l} {b} o r k i few =
    let w = only-wide 30 2 o refl refl in
    covers-cong l b r k i (λ j h. overlap-only w k j (omega arith)) (λ j h. overlap-only w i j (omega arith))

keep-yes : (f : ℕ → Bool) (x : ℕ) (xs : List ℕ) → f x ≡ true → keep f (x ∷ xs) ≡ x ∷ keep f xs
unfolding keep cons_if
keep-yes f x xs e = rw e refl

keep-no : (f : ℕ → Bool) (x : ℕ) (xs : List ℕ) → f x ≡ false → keep f (x ∷ xs) ≡ keep f xs
unfolding keep cons_if
keep-no f x xs e = rw e refl

keep-nil : (f : ℕ → Bool) → keep f [] ≡ []
unfolding keep
keep-nil f = refl

-- the list that is swept, and what is kept of a list
abbrev pub whole : List ℕ → ℕ → List ℕ
whole l i = i ∷ list_at l (link_at l i)

abbrev pub kept : List ℕ → ℕ → ℕ → List ℕ → List ℕ
kept l r i ks = keep (λ k. not (covers_at l r i k)) ks

pub record Sweeping (l : List ℕ) (n r i : ℕ) (b : List ℕ) (p h : ℕ) : Type 0 where
  pub only : Only 30 2 n l b
  pub linked : Linked b n
  pub down : p ≤ i
  pub link : link_at b p ≡ h
  pub low : (k : ℕ) → k < p → link_at b k ≡ link_at l k
  pub others : (k : ℕ) → (Memᴰ k (whole l i) → ⊥) → link_at b k ≡ link_at l k
  pub member : Memᴰ p (whole l i)
  pub rest : (k : ℕ) → Memᴰ k (list_at l h) → Memᴰ k (whole l i)
  pub front : List ℕ
  pub above : (k : ℕ) → Memᴰ k front → p < k
  pub list : list_at b (i + 1) ≡ front ++ (p ∷ list_at b h)
  pub result : front ++ (p ∷ kept l r i (list_at l h)) ≡ i ∷ kept l r i (list_at l (link_at l i))

module _ {l : List ℕ} {n : ℕ} (d : Linked l n) (r i : ℕ) (hi : i < n) (few : r ≤ most_earlier) where
  pub sweep-start : Sweeping l n r i l i (link_at l i)
  sweep-start =
      record {
        only = only_same 30 2 n l;
        linked = d;
        down = omega arith;
        link = refl;
        low = λ k h. refl;
        others = λ k h. refl;
        member = Memᴰ.head refl;
        rest = λ k w. Memᴰ.tail w;
        front = [];
        above = λ k w. absurd (Memᴰ.not-nil w);
        list = list-first d i hi;
        result = refl;
      }

  module _ {b : List ℕ} {p h : ℕ} (x : Sweeping l n r i b p h) where
    pub head-below : h ≤ p
    head-below = omega (arith, x.link, x.linked.links p (omega (arith, x.down)))

    module _ (k : ℕ) (ne : h ≡ 0 → ⊥) (e : k ≡ h - 1) where
      label-below : k < p
      label-below = omega (arith, head-below)

      -- the rest of the list, as it is and as it was
      here : list_at b h ≡ k ∷ list_at b (link_at b k)
      here = list-step x.linked h k (omega (arith, head-below, x.down)) ne e

      was : list_at l h ≡ k ∷ list_at l (link_at b k)
      was = list-step d h k (omega (arith, head-below, x.down)) ne e ∙ ap (λ z. k ∷ list_at l z) (sym (x.low k label-below))

      rest-next : (y : ℕ) → Memᴰ y (list_at l (link_at b k)) → Memᴰ y (whole l i)
      rest-next y w = x.rest y (subst (Memᴰ y) (sym was) (Memᴰ.tail w))

      tested : (t : Bool) → covers_at b r i k ≡ t → not (covers_at l r i k) ≡ not t
      tested t c = ap not (sym (covers-only x.only r i k few) ∙ c)

      -- label k stays
      pub sweep-keep : covers_at b r i k ≡ false → Sweeping l n r i b k (link_at b k)
      sweep-keep c =
          record {
            only = x.only;
            linked = x.linked;
            down = omega (arith, label-below, x.down);
            link = refl;
            low = λ y w. x.low y (omega (arith, label-below));
            others = x.others;
            member = x.rest k (subst (Memᴰ k) (sym was) (Memᴰ.head refl));
            rest = rest-next;
            front = x.front ++ (p ∷ []);
            above = λ y w. ⊎_elim
                (λ z. omega (arith, label-below, x.above y z))
                (λ z. omega (arith, label-below, Memᴰ.eq_of_singleton z))
                (Memᴰ.append_cases x.front w);
            list = x.list ∙ ap (λ ks. x.front ++ (p ∷ ks)) here ∙ sym (append_snoc x.front p (k ∷ list_at b (link_at b k)));
            result = append_snoc x.front p (k ∷ kept l r i (list_at l (link_at b k)))
                ∙ ap (λ ks. x.front ++ (p ∷ ks)) (sym (ap (kept l r i) was ∙ keep-yes (λ z. not (covers_at l r i z)) k (list_at l (link_at b k)) (tested false c))) ∙ x.result;
          }

      -- label k is taken out
      pub sweep-drop : (v : ℕ) → v ≡ link_at b k → v < 2 ^ 16 → covers_at b r i k ≡ true → Sweeping l n r i (put_link b p v) p v
      sweep-drop v ev s c =
          let hp : p < n = omega (arith, x.down) in
          let hk : k < n = omega (arith, label-below) in
          let less : v ≤ p = omega (arith, x.linked.links k hk, label-below) in
          let linked = linked-put b p v x.linked hp less s in
          let new = link-new b p v (omega (arith, x.linked.room)) s in
          record {
            only = only-trans x.only (only-put 30 2 n b p v refl hp);
            linked = linked;
            down = x.down;
            link = new;
            low = λ y w. link-other b p v y (λ z. omega arith) ∙ x.low y w;
            others = λ y w. link-other b p v y (λ z. w (subst (λ u. Memᴰ u (whole l i)) (sym z) x.member)) ∙ x.others y w;
            member = x.member;
            rest = λ y w. rest-next y (subst (λ u. Memᴰ y (list_at l u)) ev w);
            front = x.front;
            above = x.above;
            list = list-redirect x.linked linked p (link-other b p v) x.front (list_at b h) (i + 1) (omega arith) x.above x.list
                ∙ ap (λ u. x.front ++ (p ∷ list_at (put_link b p v) u)) new;
            result = ap (λ ks. x.front ++ (p ∷ ks))
                (ap (λ u. kept l r i (list_at l u)) ev
                ∙ sym (ap (kept l r i) was ∙ keep-no (λ z. not (covers_at l r i z)) k (list_at l (link_at b k)) (tested true c))) ∙ x.result;
          }

    pub sweep-done : h ≡ 0 → Swept l n i r b
    sweep-done z =
        record {
          only = x.only;
          linked = x.linked;
          list = x.list ∙ ap (λ ks. x.front ++ (p ∷ ks)) (list-none b h z)
              ∙ ap (λ ks. x.front ++ (p ∷ ks)) (sym (ap (kept l r i) (list-none l h z) ∙ keep-nil (λ k. not (covers_at l r i k)))) ∙ x.result;
          others = x.others;
        }
