-- A chain is read back from its end by parents: `front` is what is left to read, `read` what is read.
use mathlib.Core.Path.{◌≡◌, refl, sym, ap, subst, ◌∙◌}
use mathlib.Core.Logic.{◌⊎◌, inl, inr}
use mathlib.Core.List.Memᴰ
use mathlib.Core.List.{List, [], ◌∷◌, ◌++◌, append_assoc, Memᴰ}
use mathlib.Core.Bool.{not}
use Prim.Native.Nat.{ℕ}
use lib.Dec.{T, T_not}
use Rattle.lists.specs.Tests.{has, distinct}
use Rattle.lists.proofs.TestLaws.{and_l, and_r, mem→has}
use Rattle.lists.proofs.MemberLaws.{last_of}
use Rattle.net.specs.Net.{Net, arc}
use Rattle.net.specs.Route.{visited, end_of, chain, partial}
use Rattle.net.proofs.Chains.{leaves-e, chain_next, end_of-more, end-visited, partial-chain, partial-front}

module _ (net : Net) (s : ℕ) (parent : ℕ → ℕ) (p : List ℕ) (h : T (partial net s p)) (follows : (a : ℕ) → Memᴰ a p → parent (arc net.arcs a).to ≡ a) where
  -- at node x, with front before it
  pub record Reading (x : ℕ) (front read : List ℕ) : Type 0 where
    pub whole : p ≡ front ++ read
    pub at : end_of net.arcs s front ≡ x

  pub trace-start : Reading (end_of net.arcs s p) p []
  trace-start = record { whole = sym (mathlib.Core.List.append-nil p); at = refl }

  -- not at s: the last of what is left is the parent
  pub trace-step : (x : ℕ) (front read : List ℕ) → Reading x front read → (x ≡ s → ⊥)
      → (front' : List ℕ) × ((arc net.arcs (parent x)).to ≡ x) × (front ≡ front' ++ (parent x ∷ [])) × Reading (arc net.arcs (parent x)).from front' (parent x ∷ read)
  unfolding end_of partial
  trace-step x front read r n = go (last_of front)
    where
      go : (front ≡ []) ⊎ ((y : List ℕ) × (a : ℕ) × (front ≡ y ++ (a ∷ [])))
          → (front' : List ℕ) × ((arc net.arcs (parent x)).to ≡ x) × (front ≡ front' ++ (parent x ∷ [])) × Reading (arc net.arcs (parent x)).from front' (parent x ∷ read)
      go (inl e) = absurd (n (sym r.at ∙ ap (end_of net.arcs s) e))
      go (inr k) =
          let y = k.0 in
          let a = k.1 in
          let q : p ≡ y ++ (a ∷ read) = r.whole ∙ ap (λ l. l ++ read) k.2 ∙ append_assoc y (a ∷ []) read in
          let t : (arc net.arcs a).to ≡ x = sym (end_of-more net.arcs s y a) ∙ ap (end_of net.arcs s) (sym k.2) ∙ r.at in
          let e : parent x ≡ a = ap parent (sym t) ∙ follows a (subst (Memᴰ a) (sym q) (Memᴰ.append_right y (Memᴰ.head refl))) in
          let c : T (chain net s (y ++ (a ∷ read))) = subst (λ l. T (chain net s l)) q (partial-chain net s p h) in
          let f : (arc net.arcs a).from ≡ end_of net.arcs s y = (leaves-e net (end_of net.arcs s y) a (chain_next net s y a read c)).starts in
          subst (λ b. (front' : List ℕ) × ((arc net.arcs b).to ≡ x) × (front ≡ front' ++ (b ∷ [])) × Reading (arc net.arcs b).from front' (b ∷ read)) (sym e)
          (y, t, k.2, record { whole = q; at = sym f })

  -- at s: all is read
  pub trace-end : (front read : List ℕ) → Reading s front read → read ≡ p
  unfolding partial visited distinct end_of
  trace-end [] read r = sym r.whole
  trace-end (a ∷ front) read r =
      let k : T (partial net s (a ∷ front)) = partial-front net s (a ∷ front) read (subst (λ l. T (partial net s l)) r.whole h) in
      let d = and_r (chain net s (a ∷ front)) (distinct (visited net.arcs s (a ∷ front))) k in
      let l = visited net.arcs (arc net.arcs a).to front in
      absurd (T_not (has s l) (and_l (not (has s l)) (distinct l) d) (mem→has (subst (λ x. Memᴰ x l) (back r.at) (end-visited net.arcs (arc net.arcs a).to front))))
    where
      back : end_of net.arcs s (a ∷ front) ≡ s → end_of net.arcs (arc net.arcs a).to front ≡ s
      back e = e
