-- The candidates of a search by f: what the list of those after `last` holds.
use mathlib.Core.Path.{◌≡◌, sym}
use mathlib.Core.List.Memᴰ
use mathlib.Core.List.{List, [], ◌∷◌, ◌++◌, map, Memᴰ}
use Prim.Native.Nat.{ℕ}
use lib.Dec.{T}
use Rattle.lists.proofs.TestLaws.{keep-e, keep-i}
use Rattle.lists.proofs.MemberLaws.{flat_map-e, flat_map-i}
use Rattle.net.specs.Net.{Net}
use Rattle.net.specs.Route.{end_of, leaves, before, leaving}
use Rattle.net.specs.Search.{candidates, waiting}
use Rattle.net.proofs.Listing.{leaving-e, leaving-i}

module _ (net : Net) (s : ℕ) where
  -- c is the chain of a label with an arc more that leaves its end
  pub record Extends (taken : List (List ℕ)) (c : List ℕ) : Type 0 where
    pub label : List ℕ
    pub last-arc : ℕ
    pub stands : Memᴰ label taken
    pub leaves-end : T (leaves net (end_of net.arcs s label) last-arc)
    pub is : c ≡ label ++ (last-arc ∷ [])

  -- the chains that p is extended to by one arc
  unfoldable pub more : List ℕ → List (List ℕ)
  more p = map (λ a. p ++ (a ∷ [])) (leaving net (end_of net.arcs s p))

  pub candidate-e : (taken : List (List ℕ)) (c : List ℕ) → Memᴰ c (candidates net s taken) → Extends taken c
  unfolding candidates more
  candidate-e taken c m =
      let w = flat_map-e more c taken m in
      let k = Memᴰ.of_map (λ a. w.0 ++ (a ∷ [])) (leaving net (end_of net.arcs s w.0)) w.2 in
      record {
        label = w.0;
        last-arc = k.0;
        stands = w.1;
        leaves-end = leaving-e net s (end_of net.arcs s w.0) k.0 k.1;
        is = sym k.2;
      }

  pub candidate-i : (taken : List (List ℕ)) (c : List ℕ) → Extends taken c → Memᴰ c (candidates net s taken)
  unfolding candidates more
  candidate-i taken c x =
      Memᴰ.cast x.is
      (flat_map-i more x.stands (Memᴰ.map (λ a. x.label ++ (a ∷ [])) (leaving-i net s (end_of net.arcs s x.label) x.last-arc x.leaves-end)))

module _ (f : List ℕ → ℕ) (net : Net) (s : ℕ) where
  pub record Candidate (taken : List (List ℕ)) (last c : List ℕ) : Type 0 where
    pub extends : Extends net s taken c
    pub after : T (before f last c)

  pub waiting-e : (taken : List (List ℕ)) (last c : List ℕ) → Memᴰ c (waiting f net s taken last) → Candidate taken last c
  unfolding waiting
  waiting-e taken last c m =
      let k = keep-e (before f last) c (candidates net s taken) m in
      record { extends = candidate-e net s taken c k.0; after = k.1 }

  pub waiting-i : (taken : List (List ℕ)) (last c : List ℕ) → Candidate taken last c → Memᴰ c (waiting f net s taken last)
  unfolding waiting
  waiting-i taken last c k = keep-i (before f last) (candidate-i net s taken c k.extends) k.after
