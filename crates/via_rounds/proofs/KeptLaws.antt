-- One route more of the profile. Of the candidates in order, those before the first that is within the threshold of all kept are passed over, that one is kept, and what is
-- left is looked at with one more kept. It comes to the same to begin again with that one kept: what was passed over is passed over again, and the one kept is not within
-- the threshold of itself. So the candidates in order give the same at every turn, and no place in them need be remembered.
use mathlib.Core.Path.{◌≡◌, refl, sym, ap, subst, ◌∙◌}
use mathlib.Core.Logic.{◌⊎◌, inl, inr}
use mathlib.Core.Bool.{Bool, true, false}
use mathlib.Core.List.Memᴰ
use mathlib.Core.List.{List, [], ◌∷◌, ◌++◌, map, Memᴰ}
use Prim.Native.Nat.{ℕ, suc, ◌*◌, ◌≤◌, ◌<◌}
use native.Mathlib.Omega.{arith}
use native.Mathlib.Nat.{mul-le-mul_right}
use lib.Dec.{T}
use lib.ListN.{length}
use Rattle.net.specs.Route.{length_of, overlap}
use Rattle.net.specs.Round.{Query, within_all}
use Rattle.net.proofs.Step.{within-e, within-i}
use Rattle.via.specs.Via.{kept_of}
use Rattle.via.specs.Joined.{DrivesOwn}
use Rattle.via.proofs.Sift.{none_true, overlap-own}
use Rattle.via.proofs.Profile.{kept-none, kept_on, kept-over}
use Rattle.via_rounds.proofs.NodesLaws.{Rising}

module _ (q : Query) (own : DrivesOwn q.net) (below : q.a < q.b) where
  abbrev len : List ℕ → ℕ
  len = length_of q.net.arcs

  -- what is not within the threshold of all kept is not within that of more
  off-more : (kept more : List (List ℕ)) (c : List ℕ) → within_all q kept c ≡ false → within_all q (kept ++ more) c ≡ false
  off-more kept more c e =
      none_true (within_all q (kept ++ more) c) (λ h. subst T e (within-i q kept c (λ x m. within-e q (kept ++ more) c h x (Memᴰ.append_left more m))))

  -- nor is what is kept
  off-own : (kept : List (List ℕ)) (c : List ℕ) → 0 < len c → within_all q (kept ++ (c ∷ [])) c ≡ false
  off-own kept c long =
      none_true (within_all q (kept ++ (c ∷ [])) c)
      (λ h.
      let x : q.b * overlap q.net c c ≤ q.a * len c = within-e q (kept ++ (c ∷ [])) c h c (Memᴰ.append_right kept (Memᴰ.head refl)) in
      let y : q.b * len c ≤ q.a * len c = subst (λ n. q.b * n ≤ q.a * len c) (overlap-own q.net own c) x in
      omega (arith, y, mul-le-mul_right {m = suc q.a} {n = q.b} (len c) below))

  module _ (k : ℕ) (chain_by : ℕ → List ℕ) (key : ℕ → ℕ) (kept : List (List ℕ)) where
    -- w is the first of those within the threshold of all kept
    pub record FirstLeft (ns : List ℕ) (w : ℕ) : Type 0 where
      pub is-in : Memᴰ w ns
      pub is_within : within_all q kept (chain_by w) ≡ true
      pub least : (v : ℕ) → Memᴰ v ns → within_all q kept (chain_by v) ≡ true → key w ≤ key v

    pub kept_again : (ns : List ℕ) → Rising key ns → ((v w : ℕ) → Memᴰ v ns → Memᴰ w ns → key v ≡ key w → v ≡ w) → length kept < k
        → (w : ℕ) → FirstLeft ns w → 0 < len (chain_by w) → kept_of q k kept (map chain_by ns) ≡ kept_of q k (kept ++ (chain_by w ∷ [])) (map chain_by ns)
    kept_again [] rise one few w f long = absurd (Memᴰ.not-nil f.is-in)
    kept_again (v ∷ ns) rise one few w f long =
        go (within_all q kept (chain_by v)) refl (λ g. kept_again ns rise.1 (λ x y i j. one x y (Memᴰ.tail i) (Memᴰ.tail j)) few w g long) (Memᴰ.cases_cons f.is-in)
      where
        Below : Type 0
        Below = FirstLeft ns w → kept_of q k kept (map chain_by ns) ≡ kept_of q k (kept ++ (chain_by w ∷ [])) (map chain_by ns)

        here : v ≡ w → within_all q kept (chain_by v) ≡ true → kept_of q k kept (chain_by v ∷ map chain_by ns) ≡ kept_of q k (kept ++ (chain_by w ∷ [])) (chain_by v ∷ map chain_by ns)
        here i e =
            kept_on q k kept (map chain_by ns) (chain_by v) few e
            ∙ ap (λ x. kept_of q k (kept ++ (chain_by x ∷ [])) (map chain_by ns)) i
            ∙ sym (kept-over q k (kept ++ (chain_by w ∷ [])) (map chain_by ns) (chain_by w) (off-own kept (chain_by w) long))
            ∙ ap (λ x. kept_of q k (kept ++ (chain_by w ∷ [])) (chain_by x ∷ map chain_by ns)) (sym i)

        go : (b : Bool) → within_all q kept (chain_by v) ≡ b → Below → (w ≡ v) ⊎ Memᴰ w ns
            → kept_of q k kept (chain_by v ∷ map chain_by ns) ≡ kept_of q k (kept ++ (chain_by w ∷ [])) (chain_by v ∷ map chain_by ns)
        go true e rest (inl i) = here (sym i) e
        go true e rest (inr m) =
            here (one v w (Memᴰ.head refl) (Memᴰ.tail m) (omega (arith, rise.0 w m, f.least v (Memᴰ.head refl) e))) e
        go false e rest (inl i) = absurd (subst T (sym f.is_within ∙ ap (λ x. within_all q kept (chain_by x)) i ∙ e) tt)
        go false e rest (inr m) =
            kept-over q k kept (map chain_by ns) (chain_by v) e
            ∙ rest (record { is-in = m; is_within = f.is_within; least = λ x i h. f.least x (Memᴰ.tail i) h })
            ∙ sym (kept-over q k (kept ++ (chain_by w ∷ [])) (map chain_by ns) (chain_by v) (off-more kept (chain_by w ∷ []) (chain_by v) e))

    -- none is left
    pub kept-last : (ns : List ℕ) → ((v : ℕ) → Memᴰ v ns → within_all q kept (chain_by v) ≡ false) → kept_of q k kept (map chain_by ns) ≡ kept
    kept-last [] h = kept-none q k kept
    kept-last (v ∷ ns) h = kept-over q k kept (map chain_by ns) (chain_by v) (h v (Memᴰ.head refl)) ∙ kept-last ns (λ w m. h w (Memᴰ.tail m))
