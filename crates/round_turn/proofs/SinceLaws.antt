-- The turns of a search, one after the other. The query depends on the bytes only by their length, which no turn changes; so what a turn says of its own bytes
-- it says of those at the start, and what turns do adds up.
use mathlib.Core.Path.{◌≡◌, refl, sym, subst, ◌∙◌}
use mathlib.Core.List.{List}
use Prim.Native.Nat.{ℕ, ◌<◌}
use lib.ListN.{length}
use Rattle.net.specs.Round.{Query}
use Rattle.search_ask.specs.Ask.{query_for, last_in}
use Rattle.search_ask.specs.declared.Ask.{Ask}
use Rattle.search_cursor.specs.Queue.{Queued}
use Rattle.round_label.specs.declared.State.{State}
use Rattle.round_label.specs.Stage.{Going, StageAt, Stage, Keeps, Searched}
use Rattle.round_label.proofs.StageLaws.{query-same}
use Rattle.round_label.specs.declared.Stage.TheVariants.{GoesOn}
use Rattle.round_turn.specs.Turn.{left_in, Turned}

-- the bytes l₀ with state x₀ have become l with state x
pub record Since (q : Query) (earlier : List (List ℕ)) (l₀ : List ℕ) (x₀ : State) (l : List ℕ) (x : State) : Type 0 where
  pub long : length l ≡ length l₀
  pub stage : Stage q earlier l x
  pub keeps : Keeps q earlier l₀ x₀.n l x.n

module _ (ask : Ask) (t closed : List ℕ) (earlier : List (List ℕ)) where
  module _ (l₀ : List ℕ) (x₀ : State) where
    pub since-start : (l : List ℕ) → Searched (query_for ask t closed l) earlier l l₀ x₀ → Since (query_for ask t closed l₀) earlier l₀ x₀ l₀ x₀
    since-start l h = record { long = refl; stage = subst (λ q. Stage q earlier l₀ x₀) (query-same ask t closed l l₀ (sym h.long)) h.stage; keeps = λ b e. e }

    module _ (l : List ℕ) (x : State) (h : Since (query_for ask t closed l₀) earlier l₀ x₀ l x) where
      pub since-going : x.stage ≡ GoesOn → Going (query_for ask t closed l) earlier l x × Queued (query_for ask t closed l) earlier (last_in l x.last) l x.n x.root
      since-going e =
          subst (λ q. Going q earlier l x × Queued q earlier (last_in l x.last) l x.n x.root) (query-same ask t closed l₀ l (sym h.long)) (subst (λ k. StageAt k (query_for ask t closed l₀) earlier l x) e h.stage)

      module _ (l' : List ℕ) (y : State) (k : Turned (query_for ask t closed l) earlier l x l' y) where
        turned : Turned (query_for ask t closed l₀) earlier l x l' y
        turned = subst (λ q. Turned q earlier l x l' y) (query-same ask t closed l l₀ h.long) k

        pub since-turned : Since (query_for ask t closed l₀) earlier l₀ x₀ l' y
        since-turned = record { long = k.long ∙ h.long; stage = turned.stage; keeps = λ b e. turned.keeps b (h.keeps b e) }

        pub since-less : left_in (query_for ask t closed l₀) l' y < left_in (query_for ask t closed l₀) l x
        since-less = turned.less

      pub since-end : (b : List ℕ) → Searched (query_for ask t closed b) earlier b l₀ x₀ → Searched (query_for ask t closed b) earlier b l x
      since-end b k =
          let w = subst (λ q. Since q earlier l₀ x₀ l x) (query-same ask t closed l₀ b k.long) h in
          record { long = h.long ∙ k.long; stage = w.stage; keeps = λ c e. w.keeps c (k.keeps c e) }
