-- All nodes are far, and then the goal is at 0.
use borrow.Author.Rules.{rules}
use Rattle.remaining.proofs.StandingLaws.{begun}
use Rattle.remaining.proofs.start.Statement.{statement}
use Rattle.remaining.proofs.start.Tie as tie

returns : tie.Need-returns
returns c =
    let p = c in
    let x = p in
    let s = x in
    begun s.args.n s.args.goal s.args.room.now _ s.requires.0 s.requires.1 x.clear.ensures _ p.put_long.ensures

pub start_spec : {M : Type 1} → statement M
start_spec = tie.close (tie.spec (λ c κs. search rules) (λ c κs. search rules) (λ c. search rules) returns)
