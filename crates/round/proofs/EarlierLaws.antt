-- An answer in its slot becomes the next earlier route: the slot read back is the answer, since no arc is numbered 4,294,967,295, and every other slot is as it
-- was.
use mathlib.Core.Path.{◌≡◌, refl, sym, ap, ap₂, subst, ◌∙◌}
use mathlib.Core.Logic.{◌⊎◌, inl, inr}
use mathlib.Core.Bool.{Bool, false, not}
use mathlib.Core.List.{List, [], ◌∷◌, ◌++◌, append-nil, Memᴰ}
use Prim.Native.Nat.{ℕ, zero, suc, ◌+◌, ◌-◌, ◌*◌, ◌≤◌, ◌<◌}
use native.Mathlib.Omega.{arith}
use lib.Dec.{T, eqb}
use lib.ListN.{length, get_or, set, replicate, length-append, length-replicate, get_or-replicate, length-set}
use lib.Seq.{get_or-set_same, get_or-set_other}
use borrow.Author.Tests.{ne_eqb}
use Rattle.lists.specs.Tests.{keep}
use Rattle.lists.proofs.Cases.{order}
use Rattle.lists.proofs.TestLaws.{and_l, keep_append}
use Rattle.lists.proofs.LoopLaws.{map-up_from-more, map-up_from-cong}
use Rattle.words.specs.Part.{slot}
use Rattle.words.proofs.PartLaws.{slot_same, slot-other, length-patch}
use Rattle.net.specs.Net.{Net, arc}
use Rattle.net.specs.Route.{chain, partial, length_of}
use Rattle.net.specs.Round.{Query, answered, ending}
use Rattle.net.specs.Limits.{most_nodes, most_length, most_routes}
use Rattle.net.proofs.Valid.{Valid}
use Rattle.net.proofs.Chains.{leaves-e, chain-cons}
use Rattle.net.proofs.Listing.{partial-short}
use Rattle.net.proofs.Lengths.{length_of-most}
use Rattle.net.proofs.Ends.{answered-partial}
use Rattle.labels.specs.Field.{no_number}
use Rattle.search_ask.specs.Earlier.{route_in, earlier_in, Formed, Earlier}
use Rattle.labels.specs.Chain.{slot_of}
use Rattle.round.specs.Round.{area_after}

-- ---- a slot read back

abbrev is_arc : ℕ → Bool
is_arc x = not (eqb x no_number)

keep-arcs : (p : List ℕ) → ((a : ℕ) → Memᴰ a p → a < no_number) → keep is_arc p ≡ p
unfolding keep
keep-arcs [] h = refl
keep-arcs (a ∷ p) h =
    let e : eqb a no_number ≡ false = ne_eqb a no_number (λ k. omega (arith, h a (Memᴰ.head refl))) in
    rw e (ap (λ l. a ∷ l) (keep-arcs p (λ b m. h b (Memᴰ.tail m))))

keep-rest : (n : ℕ) → keep is_arc (replicate n no_number) ≡ []
unfolding keep
keep-rest zero = refl
keep-rest (suc n) = keep-rest n

pub slot-route : (w : ℕ) (p : List ℕ) → ((a : ℕ) → Memᴰ a p → a < no_number) → route_in (slot_of w p) ≡ p
unfolding route_in
slot-route w p h = keep_append is_arc p (replicate (w - length p) no_number) ∙ ap₂ ◌++◌ (keep-arcs p h) (keep-rest (w - length p)) ∙ append-nil p

pub length-slot_of : (w : ℕ) (p : List ℕ) → length p ≤ w → length (slot_of w p) ≡ w
length-slot_of w p h = omega (arith, length-append p (replicate (w - length p) no_number), length-replicate (w - length p) no_number)

-- after its arcs it is blank
formed-blank : (n : ℕ) → Formed (replicate n no_number)
formed-blank n i j le h e = get_or-replicate n j no_number 0 (omega (arith, length-replicate n no_number))

formed-cons : (a : ℕ) (l : List ℕ) → a < no_number → Formed l → Formed (a ∷ l)
formed-cons a l small f zero j le h e = absurd (omega (arith, e))
formed-cons a l small f (suc i) zero le h e = absurd (omega arith)
formed-cons a l small f (suc i) (suc j) le h e = f i j (omega arith) (omega arith) e

arcs-formed : (p l : List ℕ) → ((a : ℕ) → Memᴰ a p → a < no_number) → Formed l → Formed (p ++ l)
arcs-formed [] l h f = f
arcs-formed (a ∷ p) l h f = formed-cons a (p ++ l) (h a (Memᴰ.head refl)) (arcs-formed p l (λ b m. h b (Memᴰ.tail m)) f)

pub slot-formed : (w : ℕ) (p : List ℕ) → ((a : ℕ) → Memᴰ a p → a < no_number) → Formed (slot_of w p)
slot-formed w p h = arcs-formed p (replicate (w - length p) no_number) h (formed-blank (w - length p))

-- ---- the arcs of a chain are the net's

pub chain-arcs : (net : Net) (s : ℕ) (p : List ℕ) → T (chain net s p) → (a : ℕ) → Memᴰ a p → a < length net.arcs
chain-arcs net s [] h a m = elim m [ ]
chain-arcs net s (b ∷ p) h a (Memᴰ.head e) = subst (λ x. x < length net.arcs) (sym e) (leaves-e net s b (chain-cons net s b p h).0).is-arc
chain-arcs net s (b ∷ p) h a (Memᴰ.tail m) = chain-arcs net (arc net.arcs b).to p (chain-cons net s b p h).1 a m

module _ (q : Query) (earlier : List (List ℕ)) (v : Valid q) (few : length q.net.arcs < no_number) (p : List ℕ) (n : ℕ) (e : ending q earlier ≡ answered p n) where
  pub answered-arcs : (a : ℕ) → Memᴰ a p → a < no_number
  unfolding partial
  answered-arcs a m =
      omega (arith, chain-arcs q.net q.s p (and_l (chain q.net q.s p) _ (answered-partial q earlier v (length_of q.net.arcs) p n e)) a m)

  pub answered-short : length p ≤ q.net.nodes - 1
  answered-short = omega (arith, partial-short q.net q.s v.s-below v.sound.to_below p (answered-partial q earlier v (length_of q.net.arcs) p n e), v.s-below)

  module _ (r : ℕ) (area : List ℕ) (slots : r * (q.net.nodes - 1) + (q.net.nodes - 1) ≤ length area) where
    long : length (slot_of (q.net.nodes - 1) p) ≡ q.net.nodes - 1
    long = length-slot_of (q.net.nodes - 1) p answered-short

    slot-here : slot (q.net.nodes - 1) r (area_after (q.net.nodes - 1) r area (answered p n)) ≡ slot_of (q.net.nodes - 1) p
    unfolding area_after
    slot-here = slot_same (q.net.nodes - 1) r area (slot_of (q.net.nodes - 1) p) slots long

    slot-there : (j : ℕ) → j < r → slot (q.net.nodes - 1) j (area_after (q.net.nodes - 1) r area (answered p n)) ≡ slot (q.net.nodes - 1) j area
    unfolding area_after
    slot-there j h = slot-other (q.net.nodes - 1) r j area (slot_of (q.net.nodes - 1) p) slots long (λ k. omega arith)

    pub here : route_in (slot (q.net.nodes - 1) r (area_after (q.net.nodes - 1) r area (answered p n))) ≡ p
    here = ap route_in slot-here ∙ slot-route (q.net.nodes - 1) p answered-arcs

    pub there : (j : ℕ) → j < r → route_in (slot (q.net.nodes - 1) j (area_after (q.net.nodes - 1) r area (answered p n))) ≡ route_in (slot (q.net.nodes - 1) j area)
    there j h = ap route_in (slot-there j h)

    pub length-area : length (area_after (q.net.nodes - 1) r area (answered p n)) ≡ length area
    unfolding area_after
    length-area =
        length-patch (r * (q.net.nodes - 1)) (r * (q.net.nodes - 1) + (q.net.nodes - 1)) area (slot_of (q.net.nodes - 1) p) (omega arith) slots (omega (arith, long))

    -- the earlier routes are one more
    pub earlier_more : earlier_in (q.net.nodes - 1) (r + 1) (area_after (q.net.nodes - 1) r area (answered p n)) ≡ earlier_in (q.net.nodes - 1) r area ++ (p ∷ [])
    unfolding earlier_in
    earlier_more =
        let after = area_after (q.net.nodes - 1) r area (answered p n) in
        let f : ℕ → List ℕ = λ j. route_in (slot (q.net.nodes - 1) j after) in
        let g : ℕ → List ℕ = λ j. route_in (slot (q.net.nodes - 1) j area) in
        map-up_from-more f r ∙ ap₂ ◌++◌ (map-up_from-cong f g 0 r (λ j a b. there j (omega arith))) (ap (λ x. x ∷ []) here)

    -- and so are their lengths
    pub earlier-kept : (lens : List ℕ) → Earlier q.net.arcs (q.net.nodes - 1) r area lens → r < most_routes → r < length lens → q.net.nodes ≤ most_nodes
        → ((a : ℕ) → (arc q.net.arcs a).len ≤ most_length) → Earlier q.net.arcs (q.net.nodes - 1) (r + 1) (area_after (q.net.nodes - 1) r area (answered p n)) (set lens r (length_of q.net.arcs p))
    earlier-kept lens k h i nodes-most len-most =
        record {
          few = omega arith;
          slots = omega (arith, length-area, slots);
          formed = λ j m. formed j (order r j) m;
          enough = omega (arith, length-set lens r (length_of q.net.arcs p));
          lengths = λ j m. lengths j (order r j) m;
          most = λ j m. most j (order r j) m;
        }
      where
        formed : (j : ℕ) → (r ≤ j) ⊎ (j < r) → j < r + 1 → Formed (slot (q.net.nodes - 1) j (area_after (q.net.nodes - 1) r area (answered p n)))
        formed j (inl a) m =
            let z : r ≡ j = omega arith in
            subst (λ y. Formed (slot (q.net.nodes - 1) y (area_after (q.net.nodes - 1) r area (answered p n)))) z
            (subst Formed (sym slot-here) (slot-formed (q.net.nodes - 1) p answered-arcs))
        formed j (inr a) m = subst Formed (sym (slot-there j a)) (k.formed j a)

        lengths : (j : ℕ) → (r ≤ j) ⊎ (j < r) → j < r + 1 → get_or (set lens r (length_of q.net.arcs p)) j 0 ≡ length_of q.net.arcs (route_in (slot (q.net.nodes - 1) j (area_after (q.net.nodes - 1) r area (answered p n))))
        lengths j (inl a) m =
            let z : r ≡ j = omega arith in
            subst (λ y. get_or (set lens r (length_of q.net.arcs p)) y 0 ≡ length_of q.net.arcs (route_in (slot (q.net.nodes - 1) y (area_after (q.net.nodes - 1) r area (answered p n))))) z
            (get_or-set_same lens r (length_of q.net.arcs p) 0 i ∙ ap (length_of q.net.arcs) (sym here))
        lengths j (inr a) m = get_or-set_other lens r j (length_of q.net.arcs p) 0 (λ z. omega arith) ∙ k.lengths j a ∙ ap (length_of q.net.arcs) (sym (there j a))

        most : (j : ℕ) → (r ≤ j) ⊎ (j < r) → j < r + 1 → get_or (set lens r (length_of q.net.arcs p)) j 0 ≤ most_nodes * most_length
        most j (inl a) m =
            let z : r ≡ j = omega arith in
            subst (λ y. get_or (set lens r (length_of q.net.arcs p)) y 0 ≤ most_nodes * most_length) z
            (rw (get_or-set_same lens r (length_of q.net.arcs p) 0 i) (omega (arith, length_of-most q.net.arcs most_length len-most p, answered-short)))
        most j (inr a) m = rw (get_or-set_other lens r j (length_of q.net.arcs p) 0 (λ z. omega arith)) (k.most j a)
