-- The rounds of a query, as its loop has them. The query depends on the labels only by their length, which no round changes.
use mathlib.Core.Path.{◌≡◌, refl, sym, ap, subst, ◌∙◌}
use mathlib.Core.Logic.{◌≢◌}
use mathlib.Core.List.{List}
use Prim.Native.Nat.{ℕ, ◌-◌, ◌*◌, ◌≤◌}
use lib.ListN.{length, replicate}
use Rattle.lists.specs.Tests.{up_from}
use Rattle.words.specs.Part.{patch}
use Rattle.net.specs.Limits.{most_routes}
use Rattle.net.specs.Round.{Query}
use Rattle.labels.specs.Field.{no_number}
use Rattle.search_ask.specs.Ask.{query_for, width}
use Rattle.search_ask.specs.Earlier.{earlier_in}
use Rattle.search_ask.specs.declared.Ask.{Ask}
use Rattle.round_label.proofs.StageLaws.{query-same}
use Rattle.query_rounds.specs.Finished.{Finished}
use Rattle.query_rounds.specs.Progress.{Progress, progress, Zeros, Underway, Slotted, Stepped, outcome_at}
use Rattle.query_rounds.specs.declared.Got.{Got}
use Rattle.query_rounds.specs.declared.Stage.{Stage}
use Rattle.query_rounds.specs.declared.Stage.TheVariants.{GoesOn}
use Rattle.query_rounds.proofs.AreaLaws.{area-blank, blank-at}
use Rattle.query_rounds.proofs.FinishLaws.{at_start, underway-start, finished}

-- the labels l₀ and the area a₀ have become l and a
pub record Gone (q : Query) (w k : ℕ) (l₀ a₀ l a : List ℕ) (x : Progress) : Type 0 where
  pub underway : Underway q w k a x
  pub labels-long : length l ≡ length l₀
  pub area-long : length a ≡ length a₀
  pub slots : Slotted w k a₀ 0 a x.r

module _ (ask : Ask) (t closed : List ℕ) (k : ℕ) (l₀ a₀ : List ℕ) where
  -- a₀ is the area b with its slots blank
  module _ (h : 1 ≤ k) (b : List ℕ) (e : a₀ ≡ patch 0 (k * (width ask)) b (replicate (k * (width ask) - 0) no_number)) where
    gone-zeros : Gone (query_for ask t closed l₀) (width ask) k l₀ a₀ l₀ a₀ at_start
    gone-zeros =
        record { underway = underway-start (query_for ask t closed l₀) (width ask) k a₀ h (blank-at (width ask) k b a₀ e); labels-long = refl; area-long = refl; slots = λ b e. e }

    pub gone-start : (lens arcs labels : List ℕ) → Zeros lens arcs labels → Gone (query_for ask t closed l₀) (width ask) k l₀ a₀ l₀ a₀ (progress 0 GoesOn lens arcs labels)
    gone-start lens arcs labels z =
        subst (λ v. Gone (query_for ask t closed l₀) (width ask) k l₀ a₀ l₀ a₀ (progress 0 GoesOn v arcs labels)) (sym z.0)
        (subst (λ v. Gone (query_for ask t closed l₀) (width ask) k l₀ a₀ l₀ a₀ (progress 0 GoesOn (replicate most_routes 0) v labels)) (sym z.1)
        (subst (λ v. Gone (query_for ask t closed l₀) (width ask) k l₀ a₀ l₀ a₀ (progress 0 GoesOn (replicate most_routes 0) (replicate most_routes 0) v)) (sym z.2) gone-zeros))

  module _ (l a : List ℕ) (x : Progress) (g : Gone (query_for ask t closed l₀) (width ask) k l₀ a₀ l a x) where
    -- as the step finds it, while it goes on
    abbrev going : Stage → Progress
    going s = record { r = x.r; stage = s; sums = x.sums }

    pub gone-underway : x.stage ≡ GoesOn → Underway (query_for ask t closed l) (width ask) k a (going GoesOn)
    gone-underway z =
        subst (λ q. Underway q (width ask) k a (going GoesOn)) (query-same ask t closed l₀ l (sym g.labels-long))
        (subst (λ s. Underway (query_for ask t closed l₀) (width ask) k a (going s)) z g.underway)

    module _ (l' a' : List ℕ) (y : Progress) (long : length l' ≡ length l) (s : Stepped (query_for ask t closed l) (width ask) k a (going GoesOn) a' y) where
      pub gone-step : Gone (query_for ask t closed l₀) (width ask) k l₀ a₀ l' a' y
      gone-step =
          record {
            underway = subst (λ q. Underway q (width ask) k a' y) (query-same ask t closed l l₀ g.labels-long) s.underway;
            labels-long = long ∙ g.labels-long;
            area-long = s.long ∙ g.area-long;
            slots = λ b e. s.slots b (g.slots b e);
          }

    pub gone-end : (b : List ℕ) → k ≤ most_routes → a₀ ≡ patch 0 (k * (width ask)) b (replicate (k * (width ask) - 0) no_number) → x.stage ≢ GoesOn
        → (l' : List ℕ) → l' ≡ replicate (length l) 0 → (r : Got) → r.told ≡ outcome_at x.stage x.r → r.sums ≡ x.sums → r.n ≡ k → Finished (query_for ask t closed l₀) (width ask) k l₀ b r l' a
    unfolding earlier_in up_from
    gone-end b h e late l' z r tells sums all =
        finished (query_for ask t closed l₀) (width ask) k l₀ b a x r l' h g.underway late (g.slots b (e ∙ area-blank (width ask) k b)) tells sums all (z ∙ ap (λ n. replicate n 0) g.labels-long)
