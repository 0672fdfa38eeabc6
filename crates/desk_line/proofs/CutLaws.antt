-- A number takes at most ten bytes and what follows it one, so a line of n numbers is read within n * 11 bytes: what stands past them changes nothing of it.
use mathlib.Core.Path.{◌≡◌, refl, sym, ap, ◌∙◌}
use mathlib.Core.Bool.{Bool, true, false, cond}
use mathlib.Core.List.{List, [], ◌∷◌}
use mathlib.Core.Option.{Option, none, some}
use Prim.Native.Nat.{ℕ, zero, suc, ◌+◌, ◌-◌, ◌*◌, ◌≤◌}
use native.Mathlib.Nat.{sub-zero, zero-sub, suc-sub-suc}
use native.Mathlib.Omega.{arith}
use lib.Dec.{eqb}
use lib.ListN.{get_or, take, drop}
use lib.Seq.{take-nil, get_or-take}
use Rattle.numerals.specs.Decimal.{Number, number}
use Rattle.numerals.proofs.CutLaws.{number-takes, number_cut}
use Rattle.desk_line.specs.Line.{Row, separator, prepend, with_number, past, line_from, after}

drop-take : (at c : ℕ) (l : List ℕ) → drop at (take c l) ≡ take (c - at) (drop at l)
drop-take zero c l = rw sub-zero
drop-take (suc at) zero l = rw zero-sub
drop-take (suc at) (suc c) [] = sym (take-nil (suc c - suc at))
drop-take (suc at) (suc c) (x ∷ l) = rw suc-sub-suc (drop-take at c l)

pub line-cut : (n : ℕ) (c : ℕ) (text : List ℕ) (at : ℕ) → at + n * 11 ≤ c → line_from n (take c text) at ≡ line_from n text at
unfolding line_from with_number past
line-cut zero c text at h = refl
line-cut (suc n) c text at h = go (λ p k. line-cut n c text p k) (number (drop at text)) refl
  where
    same : number (drop at (take c text)) ≡ number (drop at text)
    same = ap number (drop-take at c text) ∙ number_cut (c - at) (drop at text) (omega arith)

    go : ((p : ℕ) → p + n * 11 ≤ c → line_from n (take c text) p ≡ line_from n text p)
        → (o : Option Number) → number (drop at text) ≡ o → line_from (suc n) (take c text) at ≡ line_from (suc n) text at
    go below none e = rw (same, e)
    go below (some x) e =
        let t = number-takes (drop at text) x e in
        rw (same, e, get_or-take c text (at + x.takes) 0 (omega arith), below (at + x.takes + 1) (omega arith))

past-reach : (at : ℕ) (l : List ℕ) → past at (number l) ≤ at + 11
unfolding past
past-reach at l = go (number l) refl
  where
    go : (o : Option Number) → number l ≡ o → past at o ≤ at + 11
    go none e = omega arith
    go (some x) e = omega (arith, number-takes l x e)

prepend-reach : (b : Bool) (v d m : ℕ) (rest : Option Row) → d ≤ m → after d rest ≤ m → after d (cond b (prepend v rest) none) ≤ m
unfolding after prepend
prepend-reach true v d m none g h = h
prepend-reach true v d m (some r) g h = h
prepend-reach false v d m rest g h = g

number-reach : (n : ℕ) (text : List ℕ) (at d m : ℕ) (o : Option Number) (rest : Option Row) → d ≤ m → after d rest ≤ m → after d (with_number n text at o rest) ≤ m
unfolding after with_number
number-reach n text at d m none rest g h = g
number-reach n text at d m (some x) rest g h = prepend-reach (eqb (get_or text (at + x.takes) 0) (separator n)) x.is d m rest g h

-- where a line of n numbers ends, or d where there is no such line
pub after-reach : (n : ℕ) (text : List ℕ) (at d m : ℕ) → d ≤ m → at + n * 11 ≤ m → after d (line_from n text at) ≤ m
unfolding line_from after
after-reach zero text at d m g h = omega arith
after-reach (suc n) text at d m g h =
    let next = past at (number (drop at text)) in
    number-reach n text at d m (number (drop at text)) (line_from n text next) g (after-reach n text next d m g (omega (arith, past-reach at (drop at text))))

pub line-reach : (n : ℕ) (text : List ℕ) (at : ℕ) (r : Row) → line_from n text at ≡ some r → r.next ≤ at + n * 11
unfolding after
line-reach n text at r e = rw e at (after-reach n text at at (at + n * 11) (omega arith) (omega arith))
