-- A closed road takes no part in the ratios: nets that differ only in what is usable have the same overlaps and the same lengths, so, by induction over the
-- earlier routes and over the answers, the same ratios.
use mathlib.Core.Path.{◌≡◌, refl, ap, ap₂}
use mathlib.Core.List.{List, [], ◌∷◌, ◌++◌}
use Prim.Native.Nat.{ℕ, ◌-◌}
use lib.ListN.{length, replicate}
use Rattle.net.specs.Route.{overlap}
use Rattle.search_ask.specs.declared.Ask.{Ask}
use Rattle.search_ask.specs.Ask.{net_for}
use Rattle.products.specs.declared.Fraction.{Fraction}
use Rattle.ratios.specs.declared.Ratios.{Ratios}
use Rattle.ratios.specs.Ratios.{quotient, share_with, greater_of, greatest_from, no_share, detour, ratios_from, no_ratios, ratios_for}

module _ (ask : Ask) (table c d : List ℕ) where
  greatest-open : (q : List ℕ) (f : Fraction) (ps : List (List ℕ)) → greatest_from (net_for ask table c) q f ps ≡ greatest_from (net_for ask table d) q f ps
  unfolding greatest_from overlap
  greatest-open q f [] = refl
  greatest-open q f (p ∷ ps) = greatest-open q (greater_of f (share_with (net_for ask table c) q p)) ps

  from-open : (earlier qs : List (List ℕ)) → ratios_from (net_for ask table c) earlier qs ≡ ratios_from (net_for ask table d) earlier qs
  unfolding ratios_from
  from-open earlier [] = refl
  from-open earlier (q ∷ qs) =
      let row : Fraction → Ratios = λ f. record { overlap = quotient f; detour = quotient (detour (net_for ask table c) q earlier) } in
      ap₂ (λ f l. row f ∷ l) (greatest-open q no_share earlier) (from-open (earlier ++ (q ∷ [])) qs)

  pub ratios-open : (k : ℕ) (qs : List (List ℕ)) → ratios_for (net_for ask table c) k qs ≡ ratios_for (net_for ask table d) k qs
  unfolding ratios_for
  ratios-open k qs = ap (λ l. l ++ replicate (k - length qs) no_ratios) (from-open [] qs)
