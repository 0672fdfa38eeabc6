-- A test at each label of a list: at its end nothing is left, and a step takes the first of what is left.
use mathlib.Core.Path.{◌≡◌, ap}
use mathlib.Core.Bool.{Bool, true, false}
use mathlib.Core.List.{List}
use Prim.Native.Nat.{ℕ, ◌-◌, ◌≤◌}
use Rattle.lists.specs.Tests.{any}
use Rattle.search_lists.specs.Link.{link_at, list_at, Linked}
use Rattle.search_lists.proofs.FollowLaws.{list-none, list-step}

module _ (f : ℕ → Bool) {l : List ℕ} {n : ℕ} (d : Linked l n) where
  pub any_none : (h : ℕ) → h ≡ 0 → any f (list_at l h) ≡ false
  unfolding any
  any_none h e = ap (any f) (list-none l h e)

  module _ (h k : ℕ) (b : h ≤ n) (ne : h ≡ 0 → ⊥) (e : k ≡ h - 1) where
    pub any_found : f k ≡ true → any f (list_at l h) ≡ true
    unfolding any
    any_found t = rw (list-step d h k b ne e, t)

    pub any_next : f k ≡ false → any f (list_at l h) ≡ any f (list_at l (link_at l k))
    unfolding any
    any_next t = rw (list-step d h k b ne e, t)
