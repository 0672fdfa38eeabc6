-- Where each label's far ancestor is as the rule says, it is a lower label whose chain begins this one's: by induction on the label, since the rule leads from the
-- label extended to a far ancestor's far ancestor or nowhere. Labels whose chains have as many arcs have far ancestors whose chains have as many: the rule asks
-- for numbers of arcs only.
use mathlib.Core.Path.{◌≡◌, refl, sym, ap, ◌∙◌}
use mathlib.Core.Bool.{true, false}
use mathlib.Core.List.{List, [], ◌∷◌, ◌++◌, append_assoc, append-nil}
use mathlib.Core.Logic.{⊎_elim}
use Prim.Native.Nat.{ℕ, zero, suc, ◌+◌, ◌-◌, ◌≤◌, ◌<◌}
use native.Mathlib.Omega.{arith}
use native.Mathlib.Decide.{ℕ_discrete}
use lib.Dec.{eqb}
use lib.ListN.{length, length-append}
use borrow.Author.Tests.{eq-eqb, ne_eqb}
use Rattle.lists.proofs.Cases.{cases}
use Rattle.labels.specs.Field.{last_arc_at, extends_at, depth_at, far_at, far_from, far_of, depth_of}
use Rattle.labels.specs.Chain.{chain_at}
use Rattle.labels.specs.Standing.{Down, Jumping}
use Rattle.labels.proofs.ChainLaws.{chain_more, chain-one, chain-none}

-- p begins q
pub record Begins (p q : List ℕ) : Type 0 where
  pub rest : List ℕ
  pub whole : q ≡ p ++ rest

begins-trans : {p q r : List ℕ} → Begins p q → Begins q r → Begins p r
begins-trans {p} {q} {r} x y =
    record { rest = x.rest ++ y.rest; whole = y.whole ∙ ap (λ z. z ++ y.rest) x.whole ∙ append_assoc p x.rest y.rest }

-- ---- the rule

module _ (b : List ℕ) (i x : ℕ) where
  pub far-first : i ≡ 0 → far_of b i x ≡ 0
  unfolding far_of
  far-first e = rw e

  pub depth-first : i ≡ 0 → depth_of b i x ≡ 0
  unfolding depth_of
  depth-first e = rw e

pub far-later : (b : List ℕ) (i x : ℕ) → (i ≡ 0 → ⊥) → far_of b i x ≡ far_from b x
unfolding far_of
far-later b zero x ne = absurd (ne refl)
far-later b (suc i) x ne = refl

pub depth-later : (b : List ℕ) (i x : ℕ) → (i ≡ 0 → ⊥) → depth_of b i x ≡ depth_at b x + 1
unfolding depth_of
depth-later b zero x ne = absurd (ne refl)
depth-later b (suc i) x ne = refl

-- as the code has it: j and k are the next two far ancestors from x, and d, e, f the three numbers of arcs
module _ (b : List ℕ) (x j k d e f : ℕ) (hj : j ≡ far_at b x) (hk : k ≡ far_at b j) (hd : d ≡ depth_at b x) (he : e ≡ depth_at b j) (hf : f ≡ depth_at b k) where
  test-is : eqb (depth_at b x - depth_at b (far_at b x)) (depth_at b (far_at b x) - depth_at b (far_at b (far_at b x))) ≡ eqb (d - e) (e - f)
  test-is = rw (hf, he, hd, hk, hj)

  pub rule-over : d - e ≡ e - f → k ≡ far_from b x
  unfolding far_from
  rule-over h = rw (test-is, eq-eqb (d - e) (e - f) h) (hk ∙ ap (far_at b) hj)

  pub rule-one : (d - e ≡ e - f → ⊥) → x ≡ far_from b x
  unfolding far_from
  rule-one h = rw (test-is, ne_eqb (d - e) (e - f) h) refl

-- ---- where it leads

module _ {b : List ℕ} {n : ℕ} (d : Down b n) (g : Jumping b n) where
  abbrev Leads : ℕ → Type 0
  Leads i = (far_at b i ≤ i) × ((i ≡ 0 → ⊥) → far_at b i < i) × Begins (chain_at b (far_at b i)) (chain_at b i)

  extends-begins : (i : ℕ) → i < n → (i ≡ 0 → ⊥) → Begins (chain_at b (extends_at b i)) (chain_at b i)
  extends-begins i h ne = record { rest = last_arc_at b i ∷ []; whole = chain_more d i h ne }

  -- what the rule gives, from what x and its far ancestor have
  from-leads : (i x : ℕ) → x < i → Leads x → Leads (far_at b x) → Begins (chain_at b x) (chain_at b i) → (far_from b x < i) × Begins (chain_at b (far_from b x)) (chain_at b i)
  unfolding far_from
  from-leads i x h lx lj bx =
      let test = eqb (depth_at b x - depth_at b (far_at b x)) (depth_at b (far_at b x) - depth_at b (far_at b (far_at b x))) in
      ⊎_elim
      (λ (e : test ≡ true). rw e (omega (arith, lx.0, lj.0), begins-trans (begins-trans lj.2 lx.2) bx))
      (λ (e : test ≡ false). rw e (h, bx))
      (cases test)

  leads-to : (f i : ℕ) → i < f → i < n → Leads i
  leads-to zero i h k = absurd (omega arith)
  leads-to (suc f) i h k = go (ℕ_discrete i 0) (λ x w. leads-to f x (omega arith) (omega arith))
    where
      go : Dec (i ≡ 0) → ((x : ℕ) → x < i → Leads x) → Leads i
      go (yes z) below =
          let e : far_at b i ≡ i = g.far i k ∙ far-first b i (extends_at b i) z ∙ sym z in
          (omega arith, λ ne. absurd (ne z), record { rest = []; whole = ap (chain_at b) (sym e) ∙ sym (append-nil (chain_at b (far_at b i))) })
      go (no ne) below =
          let x = extends_at b i in
          let w : x < i = d.lower i k ne in
          let lx = below x w in
          let lj = below (far_at b x) (omega (arith, lx.0)) in
          let m = from-leads i x w lx lj (extends-begins i k ne) in
          rw (g.far i k, far-later b i x ne) (omega (arith, m.0), λ z. m.0, m.1)

  module _ (i : ℕ) (h : i < n) where
    pub far-le : far_at b i ≤ i
    far-le = (leads-to (suc i) i (omega arith) h).0

    pub far-lower : (i ≡ 0 → ⊥) → far_at b i < i
    far-lower = (leads-to (suc i) i (omega arith) h).1

    pub far-begins : Begins (chain_at b (far_at b i)) (chain_at b i)
    far-begins = (leads-to (suc i) i (omega arith) h).2

    pub far-shorter : length (chain_at b (far_at b i)) ≤ length (chain_at b i)
    far-shorter = let w = far-begins in omega (arith, ap length w.whole, length-append (chain_at b (far_at b i)) w.rest)

    -- the rule leads no higher than the label extended
    pub from_le : far_from b i ≤ i
    unfolding far_from
    from_le =
        let test = eqb (depth_at b i - depth_at b (far_at b i)) (depth_at b (far_at b i) - depth_at b (far_at b (far_at b i))) in
        let k = far-le in
        ⊎_elim (λ (e : test ≡ true). rw e (omega (arith, (leads-to (suc (far_at b i)) (far_at b i) (omega arith) (omega arith)).0))) (λ (e : test ≡ false). rw e (omega arith)) (cases test)

  -- ---- labels whose chains have as many arcs

  abbrev arcs : ℕ → ℕ
  arcs i = length (chain_at b i)

  abbrev Alike : ℕ → ℕ → Type 0
  Alike i k = arcs (far_at b i) ≡ arcs (far_at b k)

  no-arcs : (i : ℕ) → i < n → arcs i ≡ 0 → i ≡ 0
  no-arcs i h e = go (ℕ_discrete i 0)
    where
      go : Dec (i ≡ 0) → i ≡ 0
      go (yes z) = z
      go (no ne) = absurd (omega (arith, chain-one d i h ne))

  from-alike : (x y : ℕ) → x < n → y < n → arcs x ≡ arcs y → Alike x y → Alike (far_at b x) (far_at b y) → arcs (far_from b x) ≡ arcs (far_from b y)
  unfolding far_from
  from-alike x y hx hy e k m =
      let jx = far_at b x in
      let jy = far_at b y in
      let hjx : jx < n = omega (arith, far-le x hx) in
      let hjy : jy < n = omega (arith, far-le y hy) in
      let kx : far_at b jx < n = omega (arith, far-le jx hjx) in
      let ky : far_at b jy < n = omega (arith, far-le jy hjy) in
      let test = eqb (depth_at b y - depth_at b jy) (depth_at b jy - depth_at b (far_at b jy)) in
      let d1 : depth_at b x ≡ depth_at b y = g.depths x hx ∙ e ∙ sym (g.depths y hy) in
      let d2 : depth_at b jx ≡ depth_at b jy = g.depths jx hjx ∙ k ∙ sym (g.depths jy hjy) in
      let d3 : depth_at b (far_at b jx) ≡ depth_at b (far_at b jy) = g.depths (far_at b jx) kx ∙ m ∙ sym (g.depths (far_at b jy) ky) in
      rw (d1, d2, d3) (⊎_elim (λ (z : test ≡ true). rw z m) (λ (z : test ≡ false). rw z e) (cases test))

  alike : (f i k : ℕ) → i < f → i < n → k < n → arcs i ≡ arcs k → Alike i k
  alike zero i k h hi hk e = absurd (omega arith)
  alike (suc f) i k h hi hk e = go (ℕ_discrete i 0) (ℕ_discrete k 0) (λ x y w hy q. alike f x y (omega arith) (omega arith) hy q)
    where
      go : Dec (i ≡ 0) → Dec (k ≡ 0) → ((x y : ℕ) → x < i → y < n → arcs x ≡ arcs y → Alike x y) → Alike i k
      go (yes z) d2 below = ap (λ w. arcs (far_at b w)) (z ∙ sym (no-arcs k hk (sym e ∙ ap length (chain-none b i z))))
      go (no ne) (yes z) below = absurd (ne (no-arcs i hi (e ∙ ap length (chain-none b k z))))
      go (no ne) (no mk) below =
          let x = extends_at b i in
          let y = extends_at b k in
          let wx : x < i = d.lower i hi ne in
          let wy : y < k = d.lower k hk mk in
          let exy : arcs x ≡ arcs y = omega (arith, chain-one d i hi ne, chain-one d k hk mk) in
          let hx : x < n = omega arith in
          let hy : y < n = omega arith in
          let a1 = below x y wx hy exy in
          let a2 = below (far_at b x) (far_at b y) (omega (arith, far-le x hx)) (omega (arith, far-le y hy)) a1 in
          rw (g.far i hi, g.far k hk, far-later b i x ne, far-later b k y mk) (from-alike x y hx hy exy a1 a2)

  pub far-alike : (u v : ℕ) → u < n → v < n → length (chain_at b u) ≡ length (chain_at b v) → length (chain_at b (far_at b u)) ≡ length (chain_at b (far_at b v))
  far-alike u v hu hv e = alike (suc u) u v (omega arith) hu hv e
