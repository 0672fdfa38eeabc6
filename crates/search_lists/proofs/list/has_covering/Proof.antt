-- The labels of the list are looked at in order: those from the head h on give what all give. Links lead down, so the head falls.
use mathlib.Core.Path.{◌≡◌, refl, sym, ap, ◌∙◌}
use mathlib.Core.Bool.{Bool}
use mathlib.Core.List.{List}
use Prim.Native.Nat.{ℕ, ◌-◌, ◌≤◌}
use native.Mathlib.Omega.{arith}
use borrow.Author.Rules.{rules}
use Rattle.lists.specs.Tests.{any}
use Rattle.search_lists.specs.Link.{list_at}
use Rattle.search_lists.specs.Listed.{none_greater}
use Rattle.search_lists.proofs.WalkLaws.{any_none, any_found, any_next}
use Rattle.search_lists.proofs.list.has_covering.Statement.{statement}
use Rattle.search_lists.proofs.list.has_covering.Tie as tie

abbrev test : List ℕ → List ℕ → ℕ → Bool
test labels own k = none_greater labels k own

abbrev invariant-loop-h : tie.invariant-loop-h
invariant-loop-h labels n head own h₀ h = (h ≤ n) × (any (test labels own) (list_at labels h) ≡ any (test labels own) (list_at labels head))

abbrev decreases-loop-h : tie.decreases-loop-h
decreases-loop-h labels n head own h₀ h = h

abbrev start : tie.At-loop-h invariant-loop-h decreases-loop-h → tie.Start invariant-loop-h decreases-loop-h
start a = a.before.before.before

abbrev tested : tie.At-loop-h invariant-loop-h decreases-loop-h → ℕ → Bool
tested a = let s = start a in test s.args.labels.now s.args.own.now

no-greater-requires : tie.Need-no_greater-requires invariant-loop-h decreases-loop-h
no-greater-requires c κs =
    let s = start c.before in
    (omega (arith, c.loop-h-test.true, c.loop-h.invariant.0, s.requires.0.room), s.requires.2)

returns : tie.Need-returns-then-no_greater invariant-loop-h decreases-loop-h
returns c =
    let q = c in
    let i = q in
    let a = i.before.before.before in
    sym (any_found (tested a) (start a).requires.0 a.loop-h.h (a.loop-h.h - 1) a.loop-h.invariant.0 i.loop-h-test.true refl (sym q.no_greater.ensures ∙ c.if-no_greater.true))
    ∙ a.loop-h.invariant.1

link-requires : tie.Need-link-h-requires invariant-loop-h decreases-loop-h
link-requires c κs =
    let i = c.before in
    omega (arith, i.loop-h-test.true, i.loop-h.invariant.0, (start i.before.before).requires.0.room)

lower : (c : tie.After-link-h invariant-loop-h decreases-loop-h) → c.link-h.result ≤ c.loop-h.h - 1
lower c =
    let i = c in
    let a = i.before.before.before.before in
    omega (arith, c.link-h.ensures, (start a).requires.0.links (a.loop-h.h - 1) (omega (arith, i.loop-h-test.true, a.loop-h.invariant.0)))

loop-less : tie.Need-loop-h-smaller invariant-loop-h decreases-loop-h
loop-less c = omega (arith, lower c, c.loop-h-test.true)

loop-again : tie.Need-loop-h-preserved invariant-loop-h decreases-loop-h
loop-again c =
    let e = c in
    let q = e in
    let i = q in
    let a = i.before.before.before.before in (
      omega (arith, lower c, a.loop-h.invariant.0),
      ap (λ z. any (tested a) (list_at (start a).args.labels.now z)) c.link-h.ensures
          ∙ sym (any_next (tested a) (start a).requires.0 a.loop-h.h (a.loop-h.h - 1) a.loop-h.invariant.0 i.loop-h-test.true refl (sym q.no_greater.ensures ∙ e.if-no_greater.false))
          ∙ a.loop-h.invariant.1,
    )

returns-2 : tie.Need-returns invariant-loop-h decreases-loop-h
returns-2 c =
    let a = c.before in
    sym (any_none (tested a) (start a).requires.0 a.loop-h.h c.loop-h-test.false) ∙ a.loop-h.invariant.1

pub has_covering_spec : {M : Type 1} → statement M
has_covering_spec =
    tie.close
    (tie.spec
    invariant-loop-h
    decreases-loop-h
    (λ c. (c.requires.1, refl))
    (λ c. search rules)
    no-greater-requires
    returns
    link-requires
    (λ c. search rules)
    loop-less
    loop-again
    returns-2)
