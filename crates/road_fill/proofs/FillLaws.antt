-- Filling in file order. A number put right behind a front, over what stands there, makes the front longer by its four bytes; so the four of a record make it longer
-- by the record, and behind the arcs so far the next is put at its place. The number of arcs only grows along a text, so that there is room for each.
use mathlib.Core.Path.{◌≡◌, refl, sym, ap, ◌∙◌}
use mathlib.Core.List.{List, [], ◌∷◌, ◌++◌, append_assoc, append-nil}
use mathlib.Core.Bool.{cond}
use mathlib.Core.Logic.{◌⊎◌, inl, inr}
use Prim.Native.Nat.{ℕ, ◌+◌, ◌*◌, ◌≤◌}
use native.Mathlib.Omega.{arith}
use lib.Dec.{eqb}
use lib.ListN.{length, take, drop, length-append, length-drop, take-append-drop}
use lib.Seq.{drop-drop, length-take-le}
use borrow.Author.Tests.{eq-eqb, ne_eqb}
use Rattle.words.specs.Number.{put, bytes_of}
use Rattle.words.proofs.BytesLaws.{length-bytes_of, put-bytes}
use Rattle.net.specs.Net.{Arc}
use Rattle.table.specs.Table.{record_bytes, put_arc}
use Rattle.road_file.specs.File.{Said, Fed, unfed, feed_byte, feed}
use Rattle.road_file.specs.Reader.{last_arc}
use Rattle.road_file.proofs.FeedLaws.{feed-append}
use Rattle.road_file.proofs.GrowLaws.{Kept, One, feed-grows, fed_to}
use Rattle.road_fill.specs.Filled.{placed_of, placed_from, filled}

-- a number right behind the front p
put_next : (p t : List ℕ) (at v : ℕ) → length p ≡ at → at + 4 ≤ length t → put 4 (p ++ drop at t) at v ≡ (p ++ bytes_of 4 v) ++ drop (at + 4) t
put_next p t at v h k =
    let d = drop at t in
    let e : take 4 d ++ drop (at + 4) t ≡ d = ap (λ z. take 4 d ++ z) (sym (drop-drop 4 at t)) ∙ take-append-drop 4 d in
    let n : length (take 4 d) ≡ 4 = length-take-le 4 d (omega (arith, length-drop at t)) in
    ap (λ z. put 4 (p ++ z) at v) (sym e) ∙ put-bytes 4 p (take 4 d) (drop (at + 4) t) at v (sym h) n ∙ sym (append_assoc p (bytes_of 4 v) (drop (at + 4) t))

longer : (p : List ℕ) (at v : ℕ) → length p ≡ at → length (p ++ bytes_of 4 v) ≡ at + 4
longer p at v h = length-append p (bytes_of 4 v) ∙ omega (arith, length-bytes_of 4 v)

-- a record behind the front
put-placed : (p t : List ℕ) (i : ℕ) (x : Arc) → length p ≡ i * record_bytes → i * record_bytes + record_bytes ≤ length t
    → put 4 (put_arc (p ++ drop (i * record_bytes) t) i x) (i * record_bytes + 12) i ≡ (p ++ placed_of i x) ++ drop ((i + 1) * record_bytes) t
unfolding put_arc placed_of
put-placed p t i x h k =
    let at = i * record_bytes in
    let eight : at + 4 + 4 ≡ at + 8 = omega arith in
    let twelve : at + 8 + 4 ≡ at + 12 = omega arith in
    let sixteen : at + 12 + 4 ≡ (i + 1) * record_bytes = omega arith in
    let p1 = p ++ bytes_of 4 x.from in
    let p2 = p1 ++ bytes_of 4 x.to in
    let p3 = p2 ++ bytes_of 4 x.len in
    let h1 : length p1 ≡ at + 4 = longer p at x.from h in
    let h2 : length p2 ≡ at + 8 = longer p1 (at + 4) x.to h1 ∙ eight in
    let h3 : length p3 ≡ at + 12 = longer p2 (at + 8) x.len h2 ∙ twelve in
    let zero_more : at + 0 ≡ at = omega arith in
    let e0 : put 4 (p ++ drop at t) (at + 0) x.from ≡ p1 ++ drop (at + 4) t =
    ap (λ a. put 4 (p ++ drop at t) a x.from) zero_more ∙ put_next p t at x.from h (omega arith) in
    let e1 : put 4 (p1 ++ drop (at + 4) t) (at + 4) x.to ≡ p2 ++ drop (at + 8) t =
    put_next p1 t (at + 4) x.to h1 (omega arith) ∙ ap (λ a. p2 ++ drop a t) eight in
    let e2 : put 4 (p2 ++ drop (at + 8) t) (at + 8) x.len ≡ p3 ++ drop (at + 12) t =
    put_next p2 t (at + 8) x.len h2 (omega arith) ∙ ap (λ a. p3 ++ drop a t) twelve in
    let e3 : put 4 (p3 ++ drop (at + 12) t) (at + 12) i ≡ (p3 ++ bytes_of 4 i) ++ drop ((i + 1) * record_bytes) t =
    put_next p3 t (at + 12) i h3 (omega arith) ∙ ap (λ a. (p3 ++ bytes_of 4 i) ++ drop a t) sixteen in
    let front : p3 ++ bytes_of 4 i ≡ p ++ (bytes_of 4 x.from ++ (bytes_of 4 x.to ++ (bytes_of 4 x.len ++ bytes_of 4 i))) = simp append_assoc in
    ap (λ l. put 4 (put 4 (put 4 l (at + 4) x.to) (at + 8) x.len) (at + 12) i) e0
    ∙ ap (λ l. put 4 (put 4 l (at + 8) x.len) (at + 12) i) e1
    ∙ ap (λ l. put 4 l (at + 12) i) e2
    ∙ e3
    ∙ ap (λ l. l ++ drop ((i + 1) * record_bytes) t) front

-- ---- the arcs so far

pub length-placed : (i : ℕ) (x : Arc) → length (placed_of i x) ≡ record_bytes
unfolding placed_of
length-placed i x = simp length-append (omega (arith, length-bytes_of 4 x.from, length-bytes_of 4 x.to, length-bytes_of 4 x.len, length-bytes_of 4 i))

pub length-placed_from : (i : ℕ) (xs : List Arc) → length (placed_from i xs) ≡ length xs * record_bytes
unfolding placed_from
length-placed_from i [] = refl
length-placed_from i (x ∷ xs) = length-append (placed_of i x) (placed_from (i + 1) xs) ∙ omega (arith, length-placed i x, length-placed_from (i + 1) xs)

placed-more : (i : ℕ) (xs : List Arc) (a : Arc) → placed_from i (xs ++ (a ∷ [])) ≡ placed_from i xs ++ placed_of (i + length xs) a
unfolding placed_from
placed-more i [] a = append-nil (placed_of i a) ∙ ap (λ n. placed_of n a) (omega arith)
placed-more i (x ∷ xs) a =
    ap (λ l. placed_of i x ++ l) (placed-more (i + 1) xs a ∙ ap (λ n. placed_from (i + 1) xs ++ placed_of n a) (omega arith))
    ∙ sym (append_assoc (placed_of i x) (placed_from (i + 1) xs) (placed_of (i + length (x ∷ xs)) a))

pub filled_none : (t : List ℕ) → filled [] t ≡ t
unfolding filled placed_from
filled_none t = refl

pub length-filled : (xs : List Arc) (t : List ℕ) → length xs * record_bytes ≤ length t → length (filled xs t) ≡ length t
unfolding filled
length-filled xs t h =
    length-append (placed_from 0 xs) (drop (length xs * record_bytes) t) ∙ omega (arith, length-placed_from 0 xs, length-drop (length xs * record_bytes) t)

pub filled_more : (xs : List Arc) (a : Arc) (t : List ℕ) → length xs * record_bytes + record_bytes ≤ length t
    → put 4 (put_arc (filled xs t) (length xs) a) (length xs * record_bytes + 12) (length xs) ≡ filled (xs ++ (a ∷ [])) t
unfolding filled
filled_more xs a t h =
    let n : length (xs ++ (a ∷ [])) ≡ length xs + 1 = length-append xs (a ∷ []) in
    put-placed (placed_from 0 xs) t (length xs) a (length-placed_from 0 xs) h
    ∙ ap (λ l. l ++ drop ((length xs + 1) * record_bytes) t) (ap (λ k. placed_from 0 xs ++ placed_of k a) (omega arith) ∙ sym (placed-more 0 xs a))
    ∙ ap (λ k. placed_from 0 (xs ++ (a ∷ [])) ++ drop (k * record_bytes) t) (sym n)

-- ---- along the text

pub byte-rises : (x : Fed) (b : ℕ) → length x.said.arcs ≤ length (feed_byte x b).said.arcs
byte-rises x b = go (feed-grows x b)
  where
    go : Kept x.said (feed_byte x b).said ⊎ One x.said (feed_byte x b).said → length x.said.arcs ≤ length (feed_byte x b).said.arcs
    go (inl k) = omega (arith, ap length k.arcs)
    go (inr o) = omega (arith, ap length o.arcs, length-append x.said.arcs (last_arc (feed_byte x b).said.arcs ∷ []))

feed-rises : (x : Fed) (l : List ℕ) → length x.said.arcs ≤ length (feed x l).said.arcs
unfolding feed
feed-rises x [] = omega arith
feed-rises x (b ∷ l) = omega (arith, byte-rises x b, feed-rises (feed_byte x b) l)

pub text-rises : (text : List ℕ) (i : ℕ) → length (fed_to text i).said.arcs ≤ length (feed unfed text).said.arcs
text-rises text i =
    let whole : feed (fed_to text i) (drop i text) ≡ feed unfed text = sym (feed-append unfed (take i text) (drop i text)) ∙ ap (feed unfed) (take-append-drop i text) in
    omega (arith, feed-rises (fed_to text i) (drop i text), ap (λ y. length y.said.arcs) whole)

-- a byte more: what is there now, and where an arc has come, its record
pub fill-next : (x : Fed) (b : ℕ) (t : List ℕ) → length (feed_byte x b).said.arcs * record_bytes ≤ length t
    → cond (eqb (length (feed_byte x b).said.arcs) (length x.said.arcs)) (filled x.said.arcs t)
    (put 4 (put_arc (filled x.said.arcs t) (length x.said.arcs) (last_arc (feed_byte x b).said.arcs)) (length x.said.arcs * record_bytes + 12) (length x.said.arcs))
    ≡ filled (feed_byte x b).said.arcs t
fill-next x b t h = go (feed-grows x b)
  where
    y : Said
    y = (feed_byte x b).said

    go : Kept x.said y ⊎ One x.said y
        → cond (eqb (length y.arcs) (length x.said.arcs)) (filled x.said.arcs t)
        (put 4 (put_arc (filled x.said.arcs t) (length x.said.arcs) (last_arc y.arcs)) (length x.said.arcs * record_bytes + 12) (length x.said.arcs))
        ≡ filled y.arcs t
    go (inl k) = rw (eq-eqb (length y.arcs) (length x.said.arcs) (ap length k.arcs)) (ap (λ l. filled l t) (sym k.arcs))
    go (inr o) =
        let n : length y.arcs ≡ length x.said.arcs + 1 = ap length o.arcs ∙ length-append x.said.arcs (last_arc y.arcs ∷ []) in
        rw (ne_eqb (length y.arcs) (length x.said.arcs) (λ z. omega arith))
        (filled_more x.said.arcs (last_arc y.arcs) t (omega arith) ∙ ap (λ l. filled l t) (sym o.arcs))
