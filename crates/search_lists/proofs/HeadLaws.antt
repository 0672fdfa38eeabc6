-- The words of the nodes: each node but s has one of the slot, and no two have one word. A blank slot is the head of no list.
use mathlib.Core.Path.{◌≡◌, sym, ap, ◌∙◌}
use mathlib.Core.List.{List}
use mathlib.Core.Logic.{◌≢◌, ⊎_elim}
use Prim.Native.Nat.{ℕ, ◌+◌, ◌-◌, ◌*◌, ◌≤◌, ◌<◌}
use native.Mathlib.Omega.{arith}
use lib.ListN.{get_or, drop, replicate, get_or-replicate}
use lib.Seq.{get_or-take, get_or-drop}
use borrow.Author.Tests.{lt-ltb, le-ltb, ne_eqb}
use Rattle.lists.proofs.Cases.{order}
use Rattle.words.specs.Part.{slot}
use Rattle.labels.specs.Field.{no_number}
use Rattle.search_lists.specs.Listed.{place_of, head_of}

pub place_after : (s v : ℕ) → s < v → place_of s v ≡ v - 1
unfolding place_of
place_after s v h = rw (lt-ltb s v h)

pub place-before : (s v : ℕ) → v ≤ s → place_of s v ≡ v
unfolding place_of
place-before s v h = rw (le-ltb s v h)

pub place-below : (nodes s v : ℕ) → s < nodes → v < nodes → v ≢ s → place_of s v < nodes - 1
place-below nodes s v hs hv ne = ⊎_elim (λ h. omega (arith, place-before s v h)) (λ h. omega (arith, place_after s v h)) (order v s)

pub place-once : (s v w : ℕ) → v ≢ s → w ≢ s → place_of s v ≡ place_of s w → v ≡ w
place-once s v w nv nw e =
    ⊎_elim
    (λ h. ⊎_elim (λ k. omega (arith, place-before s v h, place-before s w k)) (λ k. omega (arith, place-before s v h, place_after s w k)) (order w s))
    (λ h. ⊎_elim (λ k. omega (arith, place_after s v h, place-before s w k)) (λ k. omega (arith, place_after s v h, place_after s w k)) (order w s))
    (order v s)

pub head-blank : (w r p : ℕ) (area : List ℕ) → slot w r area ≡ replicate w no_number → p < w → head_of (get_or area (r * w + p) 0) ≡ 0
unfolding slot head_of
head-blank w r p area e h =
    let a : get_or area (r * w + p) 0 ≡ no_number =
    sym (get_or-drop (r * w) area p 0) ∙ sym (get_or-take w (drop (r * w) area) p 0 h) ∙ ap (λ l. get_or l p 0) e ∙ get_or-replicate w p no_number 0 h in
    rw a

pub head-word : (n : ℕ) → n < no_number → head_of n ≡ n
unfolding head_of
head-word n h = rw (ne_eqb n no_number (λ e. omega arith))
