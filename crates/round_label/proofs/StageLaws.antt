-- What the stages of a search keep. The query depends on the bytes only by their length; and where only working bytes change the labels' chains, what they hold and
-- the candidate last looked at are what they were, so that a search that goes on still does, and one that is over is.
use mathlib.Core.Path.{◌≡◌, sym, ap, subst, ◌∙◌}
use mathlib.Core.List.{List, [], ◌∷◌, ◌++◌, Memᴰ}
use Prim.Native.Nat.{ℕ, ◌/◌}
use lib.ListN.{length}
use Rattle.net.specs.Round.{Query, Ending}
use Rattle.net.specs.Labels.{labels}
use Rattle.net.specs.Search.{up_to}
use Rattle.labels.specs.Field.{label_bytes}
use Rattle.labels.specs.Rows.{labelled}
use Rattle.search_ask.specs.Ask.{chain_of, last_in, net_for, query_for}
use Rattle.search_ask.specs.declared.Ask.{Ask}
use Rattle.search_ask.specs.declared.Candidate.{Candidate}
use Rattle.search_queue.specs.Only.{Only}
use Rattle.search_queue.proofs.OnlyLaws.{only-trans, chain-only, chains-only, labels-only, standing-only, holding-only}
use Rattle.round_label.specs.declared.State.{State}
use Rattle.round_label.specs.Stage.{guide, Going, Over, Keeps}

pub query-same : (ask : Ask) (t closed l l' : List ℕ) → length l ≡ length l' → query_for ask t closed l ≡ query_for ask t closed l'
query-same ask t closed l l' e = ap {B = Query} (λ n. record { net = net_for ask t closed; s = ask.s; t = ask.goal; a = ask.a; b = ask.b; room = n / label_bytes }) e

module _ {k : ℕ} {l m : List ℕ} (o : Only 20 20 k l m) where
  pub chain-of-only : (c : Candidate) → chain_of m c ≡ chain_of l c
  chain-of-only c = ap (λ p. p ++ (c.arc ∷ [])) (chain-only o c.label)

  pub last-only : (c : Candidate) → last_in m c ≡ last_in l c
  unfolding last_in
  last-only c = rw (chain-only o c.label)

  pub going-only : (q : Query) (earlier : List (List ℕ)) (x : State) → Going q earlier l x → Going q earlier m x
  going-only q earlier x g =
      record {
        standing = standing-only o x.n g.standing;
        holding = holding-only o x.n g.holding;
        begun = g.begun;
        fits = g.fits;
        points = g.points;
        taken = chains-only o x.n ∙ g.taken ∙ ap (up_to (guide q) q earlier) (sym (last-only x.last));
        read = labels-only o x.n ∙ g.read ∙ ap labels (sym (chains-only o x.n));
        short = λ p i. g.short p (subst (Memᴰ p) (chains-only o x.n) i);
      }

  pub over-only : (q : Query) (earlier : List (List ℕ)) (n : ℕ) (e : Ending) → Over q earlier l n e → Over q earlier m n e
  over-only q earlier n e h =
      record {
        standing = standing-only o n h.standing;
        holding = holding-only o n h.holding;
        ends = h.ends;
        chains = chains-only o n ∙ h.chains;
        holds = labels-only o n ∙ h.holds;
      }

pub keeps-only : (q : Query) (earlier : List (List ℕ)) (n : ℕ) {l m : List ℕ} → Only 20 20 n l m → Keeps q earlier l n m n
keeps-only q earlier n {l} {m} o l₀ h = only-trans (subst (λ z. Only 20 20 n (labelled q.net q.s earlier l₀ z) l) (sym (chains-only o n)) h) o
