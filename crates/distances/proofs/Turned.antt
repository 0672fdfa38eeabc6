-- A net with arcs turned round: what an arc of it is.
use mathlib.Core.Path.{◌≡◌, refl, ap, ◌∙◌}
use mathlib.Core.Bool.{Bool, true, false}
use Prim.Native.Nat.{ℕ, ◌+◌, ◌<◌}
use native.Mathlib.Omega.{arith}
use lib.ListN.{length}
use Rattle.lists.proofs.LoopLaws.{length-map-up_from, get_or-map-up_from}
use Rattle.net.specs.Net.{Net, no_arc, arc}
use Rattle.distances.specs.Turned.{turned_if, turned, reversed}
use Rattle.distances.specs.Search.{Open}

module _ (net : Net) (f : ℕ → Bool) (c : ℕ → ℕ) where
  pub turned-arcs : length (turned net f c).arcs ≡ length net.arcs
  unfolding turned
  turned-arcs = length-map-up_from (λ a. turned_if (f a) (arc net.arcs a) (c a)) 0 (length net.arcs)

  pub turned-arc : (a : ℕ) → a < length net.arcs → arc (turned net f c).arcs a ≡ turned_if (f a) (arc net.arcs a) (c a)
  unfolding turned
  turned-arc a h =
      let e : 0 + a ≡ a = omega arith in
      get_or-map-up_from (λ b. turned_if (f b) (arc net.arcs b) (c b)) 0 (length net.arcs) a no_arc h ∙ ap (λ b. turned_if (f b) (arc net.arcs b) (c b)) e

  pub turned-usable : (a : ℕ) → (turned net f c).usable a ≡ net.usable a
  unfolding turned
  turned-usable a = refl

  pub turned-open : (a : ℕ) → Open net a → Open (turned net f c) a
  unfolding turned
  turned-open a o = (omega (arith, o.0, turned-arcs), o.1)

  pub open-turned : (a : ℕ) → Open (turned net f c) a → Open net a
  unfolding turned
  open-turned a o = (omega (arith, o.0, turned-arcs), o.1)

  -- an arc turned round
  module _ (a : ℕ) (h : a < length net.arcs) (e : f a ≡ true) where
    there : arc (turned net f c).arcs a ≡ turned_if true (arc net.arcs a) (c a)
    there = turned-arc a h ∙ ap (λ b. turned_if b (arc net.arcs a) (c a)) e

    pub round-from : (arc (turned net f c).arcs a).from ≡ (arc net.arcs a).to
    unfolding turned_if
    round-from = ap (λ x. x.from) there

    pub round-to : (arc (turned net f c).arcs a).to ≡ (arc net.arcs a).from
    unfolding turned_if
    round-to = ap (λ x. x.to) there

    pub round-len : (arc (turned net f c).arcs a).len ≡ c a
    unfolding turned_if
    round-len = ap (λ x. x.len) there

  -- one that is not
  module _ (a : ℕ) (h : a < length net.arcs) (e : f a ≡ false) where
    here : arc (turned net f c).arcs a ≡ turned_if false (arc net.arcs a) (c a)
    here = turned-arc a h ∙ ap (λ b. turned_if b (arc net.arcs a) (c a)) e

    pub plain-from : (arc (turned net f c).arcs a).from ≡ (arc net.arcs a).from
    unfolding turned_if
    plain-from = ap (λ x. x.from) here

    pub plain-to : (arc (turned net f c).arcs a).to ≡ (arc net.arcs a).to
    unfolding turned_if
    plain-to = ap (λ x. x.to) here

    pub plain-len : (arc (turned net f c).arcs a).len ≡ c a
    unfolding turned_if
    plain-len = ap (λ x. x.len) here

-- ---- every arc turned round

module _ (net : Net) where
  pub rev-from : (a : ℕ) → a < length net.arcs → (arc (reversed net).arcs a).from ≡ (arc net.arcs a).to
  unfolding reversed
  rev-from a h = round-from net (λ x. true) (λ x. (arc net.arcs x).len) a h refl

  pub rev-to : (a : ℕ) → a < length net.arcs → (arc (reversed net).arcs a).to ≡ (arc net.arcs a).from
  unfolding reversed
  rev-to a h = round-to net (λ x. true) (λ x. (arc net.arcs x).len) a h refl

  pub rev-len : (a : ℕ) → a < length net.arcs → (arc (reversed net).arcs a).len ≡ (arc net.arcs a).len
  unfolding reversed
  rev-len a h = round-len net (λ x. true) (λ x. (arc net.arcs x).len) a h refl

  pub rev-open : (a : ℕ) → Open net a → Open (reversed net) a
  unfolding reversed
  rev-open = turned-open net (λ x. true) (λ x. (arc net.arcs x).len)

  pub open-rev : (a : ℕ) → Open (reversed net) a → Open net a
  unfolding reversed
  open-rev = open-turned net (λ x. true) (λ x. (arc net.arcs x).len)
