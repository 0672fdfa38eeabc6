-- Word by word: what is marked of the words from i on is the part of word i and what is marked of those after it. Where the marks are those of a route, it is what the two
-- share.
use mathlib.Core.Path.{◌≡◌, refl, ap, ◌∙◌}
use mathlib.Core.Logic.{◌≢◌}
use mathlib.Core.Bool.{Bool, true, false, cond}
use mathlib.Core.List.{List, [], ◌∷◌, Memᴰ}
use Prim.Native.Nat.{ℕ, ◌+◌, ◌≤◌, ◌<◌}
use native.Mathlib.Omega.{arith}
use lib.ListN.{length, get_or, drop}
use borrow.Author.Tests.{eq-eqb, ne_eqb}
use Rattle.lists.specs.Tests.{has, keep, cons_if}
use Rattle.net.specs.Route.{length_of}
use Rattle.net.specs.Limits.{most_length}
use Rattle.table.specs.Table.{records, from_at, len_at, arcs_of}
use Rattle.table.proofs.NetLaws.{arc-is}
use Rattle.labels.specs.Field.{no_number}
use Rattle.working_room.specs.Field.{word_at}
use Rattle.search_ask.specs.Earlier.{route_in}
use Rattle.route_list.proofs.WordLaws.{route-step}
use Rattle.variety.specs.Variety.{shared}
use Rattle.route_apart.specs.Marks.{mark_field, marks, Marked, part_of, marked_of}

pub part-marked : (t room : List ℕ) (a : ℕ) → word_at mark_field room (from_at t a) ≡ a + 1 → part_of t room a ≡ len_at t a
unfolding part_of
part-marked t room a e = rw (eq-eqb (word_at mark_field room (from_at t a)) (a + 1) e)

pub part_none : (t room : List ℕ) (a : ℕ) → word_at mark_field room (from_at t a) ≢ a + 1 → part_of t room a ≡ 0
unfolding part_of
part_none t room a e = rw (ne_eqb (word_at mark_field room (from_at t a)) (a + 1) e)

pub part-most : (t room : List ℕ) (a : ℕ) → len_at t a ≤ most_length → part_of t room a ≤ most_length
unfolding part_of
part-most t room a h = go (marks t room a)
  where
    go : (b : Bool) → cond b (len_at t a) 0 ≤ most_length
    go true = h
    go false = omega arith

module _ (t room l : List ℕ) (i : ℕ) where
  pub marked-none : route_in (drop i l) ≡ [] → marked_of t room (drop i l) ≡ 0
  unfolding marked_of length_of keep
  marked-none e = ap (λ z. length_of (arcs_of t) (keep (marks t room) z)) e

  pub marked_step : i < length l → get_or l i 0 ≢ no_number → get_or l i 0 < records t → marked_of t room (drop i l) ≡ part_of t room (get_or l i 0) + marked_of t room (drop (i + 1) l)
  unfolding marked_of part_of keep length_of cons_if
  marked_step h e a = ap (λ z. length_of (arcs_of t) (keep (marks t room) z)) (route-step l i h e) ∙ go (marks t room (get_or l i 0))
    where
      go : (b : Bool) → length_of (arcs_of t) (cons_if b (get_or l i 0) (keep (marks t room) (route_in (drop (i + 1) l)))) ≡ cond b (len_at t (get_or l i 0)) 0 + length_of (arcs_of t) (keep (marks t room) (route_in (drop (i + 1) l)))
      go true = ap (λ z. z.len + length_of (arcs_of t) (keep (marks t room) (route_in (drop (i + 1) l)))) (arc-is t (get_or l i 0) a)
      go false = omega arith

-- ---- the marks of a route

keep_same : (f g : ℕ → Bool) (q : List ℕ) → ((a : ℕ) → Memᴰ a q → f a ≡ g a) → keep f q ≡ keep g q
unfolding keep
keep_same f g [] h = refl
keep_same f g (a ∷ q) h = go (f a) (g a) (h a (Memᴰ.head refl)) (keep_same f g q (λ b m. h b (Memᴰ.tail m)))
  where
    go : (b c : Bool) → b ≡ c → keep f q ≡ keep g q → cons_if b a (keep f q) ≡ cons_if c a (keep g q)
    go b c e i = ap (λ z. cons_if z a (keep f q)) e ∙ ap (cons_if c a) i

pub marked-shared : (t room p words : List ℕ) → Marked t p room → ((a : ℕ) → Memᴰ a (route_in words) → a < records t) → marked_of t room words ≡ shared (arcs_of t) p (route_in words)
unfolding marked_of shared
marked-shared t room p words m below = ap (length_of (arcs_of t)) (keep_same (marks t room) (λ a. has a p) (route_in words) (λ a k. m a (below a k)))
