-- A search ends: each turn leaves fewer candidates waiting, or takes up a chain, which brings at most as many as there are arcs.
use mathlib.Core.Path.{◌≡◌, sym, ap, subst, ◌∙◌}
use mathlib.Core.List.{List, [], ◌∷◌, ◌++◌, flat_map, append-nil, Memᴰ}
use mathlib.Core.Bool.{Bool, true, false}
use Prim.Native.Nat.{ℕ, suc, ◌<◌, ◌≤◌, ◌+◌, ◌-◌}
use native.Mathlib.Omega.{arith}
use lib.Dec.{T}
use lib.ListN.{length, length-append, length-map}
use Rattle.lists.specs.Tests.{keep, cons_if, up_from}
use Rattle.lists.proofs.TestLaws.{keep_append}
use Rattle.lists.proofs.MemberLaws.{length-up_from}
use Rattle.net.specs.Net.{Net}
use Rattle.net.specs.Route.{end_of, leaves, before, leaving}
use Rattle.net.specs.Search.{candidates, waiting, left}
use Rattle.net.proofs.Order.{before-irrefl, before-trans}
use Rattle.net.proofs.Candidates.{Candidate, candidate-i, more}

module _ {A : Type 0} where
  pub length-keep : (f : A → Bool) (xs : List A) → length (keep f xs) ≤ length xs
  unfolding keep
  length-keep f [] = omega arith
  length-keep f (x ∷ xs) = go (f x) (length-keep f xs)
    where
      go : (b : Bool) → length (keep f xs) ≤ length xs → length (cons_if b x (keep f xs)) ≤ suc (length xs)
      go true h = omega arith
      go false h = omega arith

  -- a test that passes where another does keeps no fewer; and more, where it passes at one more
  module _ (f g : A → Bool) (weaker : (x : A) → T (f x) → T (g x)) where
    pub keep-fewer : (xs : List A) → length (keep f xs) ≤ length (keep g xs)
    unfolding keep
    keep-fewer [] = omega arith
    keep-fewer (x ∷ xs) = go (f x) (g x) (weaker x) (keep-fewer xs)
      where
        go : (b c : Bool) → (T b → T c) → length (keep f xs) ≤ length (keep g xs) → length (cons_if b x (keep f xs)) ≤ length (cons_if c x (keep g xs))
        go true true w h = omega arith
        go true false w h = absurd (w tt)
        go false true w h = omega arith
        go false false w h = h

    pub keep-less : {y : A} {xs : List A} → Memᴰ y xs → T (g y) → (T (f y) → ⊥) → length (keep f xs) < length (keep g xs)
    unfolding keep
    keep-less {y} (Memᴰ.head {x = x} {xs = xs} e) k n = go (f x) (g x) (subst (λ z. T (g z)) e k) (subst (λ z. T (f z) → ⊥) e n) (keep-fewer xs)
      where
        go : (b c : Bool) → T c → (T b → ⊥) → length (keep f xs) ≤ length (keep g xs) → length (cons_if b x (keep f xs)) < length (cons_if c x (keep g xs))
        go true c k' n' h = absurd (n' tt)
        go false true k' n' h = omega arith
        go false false k' n' h = absurd k'
    keep-less {y} (Memᴰ.tail {x = x} {xs = xs} m) k n = go (f x) (g x) (weaker x) (keep-less m k n)
      where
        go : (b c : Bool) → (T b → T c) → length (keep f xs) < length (keep g xs) → length (cons_if b x (keep f xs)) < length (cons_if c x (keep g xs))
        go true true w h = omega arith
        go true false w h = absurd (w tt)
        go false true w h = omega arith
        go false false w h = h

module _ (f : List ℕ → ℕ) (net : Net) (s : ℕ) where
  -- past a candidate fewer wait
  pub waiting-less : (taken : List (List ℕ)) (last c : List ℕ) → Candidate f net s taken last c → length (waiting f net s taken c) < length (waiting f net s taken last)
  unfolding waiting
  waiting-less taken last c k =
      keep-less (before f c) (before f last) (λ x h. before-trans f last c x k.after h) (candidate-i net s taken c k.extends) k.after (before-irrefl f c)

  length_more : (p : List ℕ) → length (more net s p) ≤ length net.arcs
  unfolding more leaving
  length_more p =
      omega (arith, length-map (leaving net (end_of net.arcs s p)) (λ a. p ++ (a ∷ [])), length-keep (leaves net (end_of net.arcs s p)) (up_from 0 (length net.arcs)), length-up_from 0 (length net.arcs))

  candidates-more : (taken : List (List ℕ)) (p : List ℕ) → candidates net s (taken ++ (p ∷ [])) ≡ candidates net s taken ++ more net s p
  unfolding candidates more flat_map
  candidates-more [] p = append-nil (more net s p)
  candidates-more (x ∷ taken) p = ap (λ l. more net s x ++ l) (candidates-more taken p) ∙ sym (mathlib.Core.List.append_assoc (more net s x) (candidates net s taken) (more net s p))

  -- a label more brings at most an arc's candidate each
  pub waiting-more : (taken : List (List ℕ)) (p last : List ℕ) → length (waiting f net s (taken ++ (p ∷ [])) last) ≤ length (waiting f net s taken last) + length net.arcs
  unfolding waiting
  waiting-more taken p last =
      let t = before f last in
      let cs = candidates net s taken in
      omega (arith, ap (λ l. length (keep t l)) (candidates-more taken p), ap length (keep_append t cs (more net s p)), length-append (keep t cs) (keep t (more net s p)), length-keep t (more net s p), length_more p)

  -- ---- the number falls

  pub left-dropped : (room : ℕ) (taken : List (List ℕ)) (last c : List ℕ) → Candidate f net s taken last c → left f net s room taken c < left f net s room taken last
  unfolding left
  left-dropped room taken last c k = omega (arith, waiting-less taken last c k)

  pub left-taken : (room : ℕ) (taken : List (List ℕ)) (last c : List ℕ) → Candidate f net s taken last c → length taken < room → left f net s room (taken ++ (c ∷ [])) c < left f net s room taken last
  unfolding left
  left-taken room taken last c k h =
      let n = room - length (taken ++ (c ∷ [])) in
      let e : room - length taken ≡ suc n = omega (arith, length-append taken (c ∷ [])) in
      rw e (omega (arith, waiting-less taken last c k, waiting-more taken c c))
