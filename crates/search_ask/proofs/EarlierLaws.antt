-- The slots of the earlier answers in the area: each ends in it, and the answers are those of the slots, in order.
use mathlib.Core.Path.{◌≡◌}
use mathlib.Core.List.Memᴰ
use mathlib.Core.List.{List, [], Memᴰ}
use Prim.Native.Nat.{ℕ, suc, ◌+◌, ◌*◌, ◌≤◌, ◌<◌}
use native.Mathlib.Omega.{arith}
use native.Mathlib.Nat.{mul-le-mul_right}
use lib.ListN.{length, get_or}
use Rattle.lists.proofs.MemberLaws.{up_from-i}
use Rattle.lists.proofs.LoopLaws.{length-map-up_from, get_or-map-up_from}
use Rattle.words.specs.Part.{slot}
use Rattle.search_ask.specs.Earlier.{route_in, earlier_in}

-- slot j of r ends in an area of m words
pub slot-end : (w r m j : ℕ) → j < r → r * w ≤ m → j * w + w ≤ m
slot-end w r m j h k = omega (arith, mul-le-mul_right {m = suc j} {n = r} w h)

pub length-earlier_in : (w r : ℕ) (area : List ℕ) → length (earlier_in w r area) ≡ r
unfolding earlier_in
length-earlier_in w r area = length-map-up_from (λ j. route_in (slot w j area)) 0 r

pub get_or-earlier_in : (w r : ℕ) (area : List ℕ) (j : ℕ) → j < r → get_or (earlier_in w r area) j [] ≡ route_in (slot w j area)
unfolding earlier_in
get_or-earlier_in w r area j h =
    let e : 0 + j ≡ j = omega arith in
    rw e at (get_or-map-up_from (λ j. route_in (slot w j area)) 0 r j [] h)

pub mem-earlier_in : (w r : ℕ) (area : List ℕ) (j : ℕ) → j < r → Memᴰ (route_in (slot w j area)) (earlier_in w r area)
unfolding earlier_in
mem-earlier_in w r area j h = Memᴰ.map (λ j. route_in (slot w j area)) (up_from-i 0 r j (omega arith) (omega arith))
