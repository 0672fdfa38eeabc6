-- A file with the parts of a new plan placed in its free records. A record of the plan is one of those parts: no two are the same part, each but the first comes
-- after another, and read rank by rank and part by part they give the routes. Every other plan is kept where it stands, so the file is sound.
use mathlib.Core.Path.{◌≡◌, refl, sym, ap, ap₂, subst, ◌∙◌}
use mathlib.Core.Bool.{Bool, true, false}
use mathlib.Core.List.{List, [], ◌∷◌, ◌++◌}
use mathlib.Core.Logic.{◌≢◌, ◌⊎◌, inl, inr, ⊎_elim}
use Prim.Native.Nat.{ℕ, zero, suc, ◌+◌, ◌*◌, ◌/◌, ◌%◌, ◌≤◌, ◌<◌}
use native.Mathlib.Omega.{arith}
use native.Mathlib.Nat.{zero-add}
use native.Mathlib.Numerals.{add-one}
use native.Mathlib.Decide.{ℕ_discrete}
use lib.Dec.{eqb}
use lib.ListN.{length, get_or, take, drop, length-take, length-drop, drop_of_length-le, take-append-drop}
use lib.Seq.{get_or-take, get_or-drop, drop-drop, drop-cons}
use borrow.Author.Tests.{eqb-true, eqb-false}
use Rattle.lists.specs.Tests.{up_from, any}
use Rattle.lists.proofs.Cases.{cases, order}
use Rattle.net.specs.Limits.{most_routes, most_arcs}
use Rattle.plan_record.specs.Record.{record_bytes, records, plan_at, rank_at, used_at, part_at, part_arcs, arcs_at, formed, record_of}
use Rattle.plan_record.proofs.RecordLaws.{plan-of, formed-of}
use Rattle.plan_file.specs.Meaning.{place_of, has_part, route_from, route_of, routes_from, plan_in, has_plan, free_in}
use Rattle.plan_file.proofs.EachLaws.{untrue, any_none, any-one}
use Rattle.plan_file.proofs.SoundLaws.{Sound}
use Rattle.plan_file.proofs.SameLaws.{route-none, routes-none, route-step, route-stop, routes-step, routes-stop}
use Rattle.plan_file.proofs.ThereLaws.{follows-i, Stands, stands-e, stands-i, absent-e}
use Rattle.plan_file.proofs.KeptLaws.{Linked, SoundPlan, sound-plan, sound-plans, Kept, kept-sound, kept-plan}
use Rattle.plan_store.specs.Store.{parts_of}
use Rattle.plan_history.proofs.RowLaws.{Proper, plan-row, rank-row, used-row, part-row, arcs-row, formed-row}
use Rattle.plan_history.proofs.PartsLaws.{part_of, no_row, parts-e, parts-i, parts-apart, parts-long}
use Rattle.plan_history.proofs.PlacedLaws.{free-e, free-most, Placed}
use Rattle.plan_history.proofs.RequestLaws.{Asked}

-- ---- the parts are rows in their form

part_length : (m : ℕ) (p : List ℕ) → part_arcs * m < length p
    → (1 ≤ length (take part_arcs (drop (part_arcs * m) p))) × (length (take part_arcs (drop (part_arcs * m) p)) ≤ part_arcs)
    × (length (take part_arcs (drop (part_arcs * m) p)) + part_arcs * m ≤ length p)
    × (part_arcs * m + part_arcs ≤ length p → length (take part_arcs (drop (part_arcs * m) p)) ≡ part_arcs)
part_length m p b =
    let x = length-take part_arcs (drop (part_arcs * m) p) in
    let y = length-drop (part_arcs * m) p in
    (omega arith, omega arith, omega arith, λ h. omega arith)

module _ (plan : ℕ) (ps : List (List ℕ)) (a : Asked plan ps) (fits : plan < 4294967296) where
  proper-part : (r m : ℕ) → r < length ps → part_arcs * m < length (get_or ps r []) → Proper (part_of plan (0 + r) m (get_or ps r []))
  proper-part r m i b =
      let p = get_or ps r [] in
      let n = part_length m p b in
      let good = a.each r i in
      record {
        some = a.some;
        plan-fits = fits;
        rank-low = omega (arith, a.most);
        part-fits = omega (arith, good.most);
        least = n.0;
        most = n.1;
        low = λ k h.
            let e = get_or-take part_arcs (drop (part_arcs * m) p) k 0 (omega (arith, n.1)) ∙ get_or-drop (part_arcs * m) p k 0 in
            subst (λ x. x < most_arcs) (sym e) (good.low (part_arcs * m + k) (omega (arith, n.2)));
      }

  pub proper : (k : ℕ) → k < length (parts_of plan 0 ps) → Proper (get_or (parts_of plan 0 ps) k no_row)
  proper k b =
      let w = parts-e plan 0 ps k b in
      subst Proper (sym w.4) (proper-part w.0 w.1 w.2 w.3)

-- ---- a record of the plan afterwards

-- record i of g is part `part` of rank `rank`, the parts placed in the free records of f
record New (f : List ℕ) (plan : ℕ) (ps : List (List ℕ)) (g : List ℕ) (i : ℕ) : Type 0 where
  index : ℕ
  below : index < length (parts_of plan 0 ps)
  place : i ≡ get_or (free_in f) index 0
  rank : ℕ
  part : ℕ
  rank-in : rank < length ps
  part_in : part_arcs * part < length (get_or ps rank [])
  row : get_or (parts_of plan 0 ps) index no_row ≡ part_of plan (0 + rank) part (get_or ps rank [])
  there : i < records g
  plan-is : plan_at g i ≡ plan
  rank_is : rank_at g i ≡ rank
  part-is : part_at g i ≡ part
  used-is : used_at g i ≡ length (take part_arcs (drop (part_arcs * part) (get_or ps rank [])))
  arcs-is : arcs_at g i ≡ take part_arcs (drop (part_arcs * part) (get_or ps rank []))
  formed-is : formed g i ≡ true

module _
    (f : List ℕ) (plan : ℕ) (ps : List (List ℕ)) (g : List ℕ)
    (s : Sound f) (a : Asked plan ps) (fits : plan < 4294967296) (absent : has_plan f plan ≡ false)
    (room : length (parts_of plan 0 ps) ≤ length (free_in f)) (w : Placed f (parts_of plan 0 ps) g)
  where
    count : records g ≡ records f
    count = ap (λ n. n / record_bytes) w.long

    new-part : (k r m : ℕ) → k < length (parts_of plan 0 ps) → r < length ps → part_arcs * m < length (get_or ps r [])
        → get_or (parts_of plan 0 ps) k no_row ≡ part_of plan (0 + r) m (get_or ps r []) → New f plan ps g (get_or (free_in f) k 0)
    new-part k r m b c d e =
        let i = get_or (free_in f) k 0 in
        let x = part_of plan (0 + r) m (get_or ps r []) in
        let q = proper-part plan ps a fits r m c d in
        let there : i < records g = omega (arith, count, (free-e f k (omega arith)).0) in
        let bytes = w.at k b ∙ ap record_of e in
        record {
          index = k;
          below = b;
          place = refl;
          rank = r;
          part = m;
          rank-in = c;
          part_in = d;
          row = e;
          there = there;
          plan-is = plan-row g i x there q bytes;
          rank_is = rank-row g i x there q bytes ∙ zero-add r;
          part-is = part-row g i x there q bytes;
          used-is = used-row g i x there q bytes;
          arcs-is = arcs-row g i x there q bytes;
          formed-is = formed-row g i x there q bytes;
        }

    new-at : (k : ℕ) → k < length (parts_of plan 0 ps) → New f plan ps g (get_or (free_in f) k 0)
    new-at k b =
        let v = parts-e plan 0 ps k b in
        new-part k v.0 v.1 b v.2 v.3 v.4

    -- each record is one of them, or none
    new-or-not : (i : ℕ) → New f plan ps g i ⊎ ((k : ℕ) → k < length (parts_of plan 0 ps) → i ≢ get_or (free_in f) k 0)
    new-or-not i =
        let n = length (parts_of plan 0 ps) in
        let p : ℕ → Bool = λ k. eqb i (get_or (free_in f) k 0) in
        ⊎_elim
        (λ t.
        let v = any-one p 0 n t in
        inl (subst (New f plan ps g) (sym (eqb-true i (get_or (free_in f) v.0 0) v.3)) (new-at v.0 (omega (arith, v.2)))))
        (λ t. inr (λ k b. eqb-false i (get_or (free_in f) k 0) (any_none p 0 n k t (omega arith) (omega arith))))
        (cases (any p (up_from 0 n)))

    -- a record of the plan is one of them
    new-of : (i : ℕ) → i < records g → plan_at g i ≡ plan → New f plan ps g i
    new-of i b e =
        ⊎_elim (λ v. v) (λ v. absurd (absent-e f plan absent i (omega (arith, count)) (sym (plan-of g f i i (w.rest i v)) ∙ e))) (new-or-not i)

    -- and there is one for each part
    new-for : (r m : ℕ) → r < length ps → part_arcs * m < length (get_or ps r []) → (i : ℕ) × (v : New f plan ps g i) × (v.rank ≡ r) × (v.part ≡ m)
    unfolding new-part
    new-for r m c d =
        let v = parts-i plan 0 ps r m c d in
        (get_or (free_in f) v.0 0, new-part v.0 r m v.1 c d v.2, refl, refl)

    -- ---- the file is sound

    -- part m of rank r stands
    new-stands : (r m : ℕ) → r < length ps → part_arcs * m < length (get_or ps r []) → Stands g plan r m
    new-stands r m c d =
        let v = new-for r m c d in
        let x = v.1 in
        (v.0, x.there, x.plan-is, x.rank_is ∙ v.2, x.part-is ∙ v.3)

    new-single : (i j : ℕ) → New f plan ps g i → New f plan ps g j → rank_at g i ≡ rank_at g j → part_at g i ≡ part_at g j → i ≡ j
    new-single i j u v r p =
        let e : u.rank ≡ v.rank = sym u.rank_is ∙ r ∙ v.rank_is in
        let d : u.part ≡ v.part = sym u.part-is ∙ p ∙ v.part-is in
        let k : u.index ≡ v.index =
        parts-apart plan 0 ps u.index v.index u.below v.below
        (ap (λ x. x.rank) u.row ∙ ap (λ x. 0 + x) e ∙ sym (ap (λ x. x.rank) v.row))
        (ap (λ x. x.part) u.row ∙ d ∙ sym (ap (λ x. x.part) v.row)) in
        u.place ∙ ap (λ x. get_or (free_in f) x 0) k ∙ sym v.place

    -- after the part before it, which has six arcs; or after the first part of the rank before it
    new-linked : (i : ℕ) → New f plan ps g i → Linked g i
    new-linked i u = go u.rank u.part refl refl
      where
        go : (r m : ℕ) → u.rank ≡ r → u.part ≡ m → Linked g i
        go r (suc m) e d =
            let long : part_arcs * suc m < length (get_or ps u.rank []) = subst (λ x. part_arcs * x < length (get_or ps u.rank [])) d u.part_in in
            let v = new-for u.rank m u.rank-in (omega arith) in
            let x = v.1 in
            let same : get_or ps x.rank [] ≡ get_or ps u.rank [] = ap (λ y. get_or ps y []) v.2 in
            let six : length (take part_arcs (drop (part_arcs * m) (get_or ps u.rank []))) ≡ part_arcs = (part_length m (get_or ps u.rank []) (omega arith)).3 (omega arith) in
            let used = x.used-is ∙ ap (λ y. length (take part_arcs (drop (part_arcs * y) (get_or ps x.rank [])))) v.3 ∙ ap (λ y. length (take part_arcs (drop (part_arcs * m) y))) same ∙ six in
            inr (
              v.0,
              x.there,
              follows-i g i v.0 (x.plan-is ∙ sym u.plan-is)
                  (inr (λ z. omega (arith, u.part-is), x.rank_is ∙ v.2 ∙ sym u.rank_is, omega (arith, x.part-is, v.3, u.part-is), used)),
            )
        go (suc r) zero e d =
            let i : r < length ps = omega (arith, u.rank-in) in
            let v = new-for r 0 i (omega (arith, (a.each r i).least)) in
            let x = v.1 in
            inr (
              v.0,
              x.there,
              follows-i g _ v.0 (x.plan-is ∙ sym u.plan-is) (inl (u.part-is ∙ d, omega (arith, x.rank_is, v.2, u.rank_is))),
            )
        go zero zero e d = inl (u.rank_is ∙ e, u.part-is ∙ d)

    plan-sound : SoundPlan g plan
    plan-sound =
        record {
          formed = λ i b e. (new-of i b e).formed-is;
          single = λ i j b c e d r p. new-single i j (new-of i b e) (new-of j c d) r p;
          linked = λ i b e. new-linked i (new-of i b e);
        }

    -- another plan stands where it stood
    other-kept : (q : ℕ) → q ≢ plan → q ≢ 0 → Kept f g q
    other-kept q ne nz =
        record {
          into = λ i b e. (
            i,
            omega (arith, count),
            w.rest i (λ k c z. nz (sym e ∙ ap (plan_at f) z ∙ (free-e f k (omega arith)).1)),
          );
          source = λ i. i;
          from = λ i b e. (omega (arith, count), ⊎_elim (λ v. absurd (ne (sym e ∙ v.plan-is))) (λ v. sym (w.rest i v)) (new-or-not i));
          apart = λ i j b c d e z. z;
        }

    pub stored-sound : Sound g
    stored-sound =
        sound-plans g (ap (λ n. n % record_bytes) w.long ∙ s.whole)
        (λ i b e. ⊎_elim (λ v. v.formed-is) (λ v. formed-of g f i i (w.rest i v) ∙ s.formed i (omega (arith, count))) (new-or-not i))
        (λ q nz. go q nz (ℕ_discrete q plan))
      where
        go : (q : ℕ) → q ≢ 0 → Dec (q ≡ plan) → SoundPlan g q
        go q nz (yes e) = subst (SoundPlan g) (sym e) plan-sound
        go q nz (no e) = kept-sound f g q (other-kept q e nz) (sound-plan f q nz s)

    pub stored-others : (q : ℕ) → q ≢ plan → q ≢ 0 → plan_in g q ≡ plan_in f q
    stored-others q ne nz = kept-plan f g q (other-kept q ne nz) (sound-plan f q nz s) count

    -- ---- read again

    part-read : (r m : ℕ) → has_part g plan r m ≡ true
        → (r < length ps) × (part_arcs * m < length (get_or ps r [])) × (arcs_at g (place_of g plan r m) ≡ take part_arcs (drop (part_arcs * m) (get_or ps r [])))
    part-read r m h =
        let v = stands-i g plan r m h in
        let u = new-of v.0 v.1 v.2 in
        let e : u.rank ≡ r = sym u.rank_is ∙ v.3 in
        let d : u.part ≡ m = sym u.part-is ∙ v.4 in
        let t : (u.rank < length ps) × (part_arcs * u.part < length (get_or ps u.rank [])) × (arcs_at g v.0 ≡ take part_arcs (drop (part_arcs * u.part) (get_or ps u.rank []))) =
        (u.rank-in, u.part_in, u.arcs-is) in
        rw (e, d) at t

    route-read : (r : ℕ) → r < length ps → (n m : ℕ) → length (get_or ps r []) ≤ part_arcs * (m + n) → route_from n g plan r m ≡ drop (part_arcs * m) (get_or ps r [])
    route-read r c zero m h = route-none g plan r m ∙ sym (drop_of_length-le (get_or ps r []) {i = part_arcs * m} (omega arith))
    route-read r c (suc n) m h =
        let p = get_or ps r [] in
        ⊎_elim
        (λ b.
        route-stop g plan (suc n) r m (untrue (has_part g plan r m) (λ t. omega (arith, (part-read r m t).1)))
        ∙ sym (drop_of_length-le p {i = part_arcs * m} b))
        (λ b.
        let t = stands-e g plan r m (new-stands r m c b) in
        let e : part_arcs * m + part_arcs ≡ part_arcs * (m + 1) = omega arith in
        route-step g plan n r m t
        ∙ ap₂ ◌++◌ (part-read r m t).2
        (route-read r c n (m + 1) (omega arith) ∙ sym (drop-drop part_arcs (part_arcs * m) p ∙ ap (λ x. drop x p) e))
        ∙ take-append-drop part_arcs (drop (part_arcs * m) p))
        (order (length p) (part_arcs * m))

    whole-read : (r : ℕ) → r < length ps → route_of g plan r ≡ get_or ps r []
    unfolding route_of
    whole-read r c = route-read r c (records g) 0 (omega (arith, parts-long plan 0 ps r c, free-most f, count))

    routes-read : (n r : ℕ) → length ps ≤ r + n → routes_from n g plan r ≡ drop r ps
    routes-read zero r h = routes-none g plan r ∙ sym (drop_of_length-le ps {i = r} (omega arith))
    routes-read (suc n) r h =
        ⊎_elim
        (λ b. routes-stop g plan (suc n) r (untrue (has_part g plan r 0) (λ t. omega (arith, (part-read r 0 t).0))) ∙ sym (drop_of_length-le ps {i = r} b))
        (λ b.
        routes-step g plan n r (stands-e g plan r 0 (new-stands r 0 b (omega (arith, (a.each r b).least))))
        ∙ ap₂ ◌∷◌ (whole-read r b) (routes-read n (r + 1) (omega arith) ∙ ap (λ x. drop x ps) (add-one r))
        ∙ sym (drop-cons ps r [] b))
        (order (length ps) r)

    pub stored-plan : plan_in g plan ≡ ps
    unfolding plan_in
    stored-plan = routes-read most_routes 0 (omega (arith, a.most))
