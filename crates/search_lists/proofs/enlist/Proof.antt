-- The head of the label's node becomes its link, the list behind it is swept, and the label the head: the lists are those of one label more (`listed_more`).
use mathlib.Core.Path.{◌≡◌, refl, sym, ap, subst, ◌∙◌}
use Prim.Native.Nat.{ℕ, ◌+◌, ◌*◌}
use native.Mathlib.Omega.{arith}
use lib.ListN.{get_or, set}
use borrow.Author.Rules.{rules}
use Rattle.labels.specs.Field.{end_at}
use Rattle.search_ask.specs.Ask.{width}
use Rattle.search_lists.specs.Link.{put_link, Linked, Swept}
use Rattle.search_lists.specs.Listed.{Listed, place_of, head_of, head_at}
use Rattle.search_lists.proofs.ListedLaws.{linked-before, only-more, listed_more}
use Rattle.search_lists.proofs.enlist.Statement.{statement}
use Rattle.search_lists.proofs.enlist.Tie as tie

abbrev start : tie.After-place-place → tie.Start
start c = c.before.before.before.before

abbrev placed : tie.After-head → tie.After-place-place
placed c = c.before.before.before

abbrev linked : tie.After-sweep-arg-1 → tie.After-put_link
linked c = c.before.before.before

abbrev node : tie.After-place-place → ℕ
node c = end_at (start c).args.labels.now (start c).args.n

-- the word, the head there, and the labels that are swept
place_is : (c : tie.After-place-place) → c.place-place.result ≡ (start c).args.r * width (start c).args.ask + place_of (start c).args.ask.s (node c)
place_is c =
    let s = start c in
    c.place-place.ensures.0 ∙ ap (λ v. s.args.r * width s.args.ask + place_of s.args.ask.s v) c.end.ensures

head-is : (c : tie.After-head) → let s = start (placed c) in c.head.result ≡ head_at s.args.ask s.args.r s.args.area.now (node (placed c))
head-is c = c.head.ensures ∙ ap (λ p. head_of (get_or (start (placed c)).args.area.now p 0)) (place_is (placed c))

link-is : (c : tie.After-put_link) → let p = placed c.before in let s = start p in
    c.put_link.new.labels ≡ put_link s.args.labels.now s.args.n (head_at s.args.ask s.args.r s.args.area.now (node p))
link-is c = let s = start (placed c.before) in c.put_link.ensures ∙ ap (put_link s.args.labels.now s.args.n) (head-is c.before)

cast-put-link : tie.Need-overflow_cast-head
cast-put-link c =
    let s = start (placed c) in
    omega (arith, head-is c, s.requires.0.below (node (placed c)) s.requires.5 s.requires.6, s.requires.2)

sweep-requires : tie.Need-sweep-requires
sweep-requires c κs =
    let p = placed (linked c).before in
    let s = start p in (
      subst (λ l. Linked l (s.args.n + 1)) (sym (link-is (linked c))) (linked-before s.requires.0 s.requires.1 s.requires.2 s.requires.3 s.requires.4 (node p) refl s.requires.5 s.requires.6),
      s.requires.4,
      omega arith,
    )

returns : tie.Need-returns
returns c =
    let w = c in
    let p = placed (linked w.before.before.before).before in
    let s = start p in
    let swept = subst (λ l. Swept l (s.args.n + 1) s.args.n s.args.r w.sweep.new.labels) (link-is (linked w.before.before.before)) w.sweep.ensures in
    let stored = ap (λ x. set s.args.area.now x (s.args.n + 1)) (place_is p) in (
      only-more s.requires.0 s.requires.1 s.requires.2 s.requires.3 s.requires.4 (node p) refl s.requires.5 s.requires.6 w.sweep.new.labels swept,
      stored,
      subst (λ area. Listed s.args.ask s.args.r area w.sweep.new.labels (s.args.n + 1)) (sym stored)
          (listed_more s.requires.0 s.requires.1 s.requires.2 s.requires.3 s.requires.4 (node p) refl s.requires.5 s.requires.6 w.sweep.new.labels swept),
    )

pub enlist_spec : {M : Type 1} → statement M
enlist_spec =
    tie.close
    (tie.spec
    (λ c κs. search rules)
    (λ c κs. search rules)
    (λ c. search rules)
    (λ c. search rules)
    (λ c. search rules)
    (λ c. search rules)
    (λ c κs. search rules)
    cast-put-link
    (λ c κs. search rules)
    (λ c. search rules)
    sweep-requires
    (λ c. search rules)
    (λ c. search rules)
    (λ c. search rules)
    (λ c. search rules)
    returns)
