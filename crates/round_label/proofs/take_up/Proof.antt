-- What is put is the candidate's row: its length, its last arc's end, which is its own, and its overlaps. An arc's number fits 32 bits, and a label's 16.
use mathlib.Core.Path.{◌≡◌, ap₂, ◌∙◌}
use mathlib.Core.List.{[]}
use Prim.Native.Nat.{ℕ, ◌^◌, ◌<◌}
use native.Mathlib.Omega.{arith}
use borrow.Author.Rules.{rules}
use Rattle.net.specs.Route.{end_of}
use Rattle.net.proofs.Listing.{end_below}
use Rattle.table.specs.Table.{arcs_of}
use Rattle.labels.specs.Chain.{chain_at}
use Rattle.labels.specs.Field.{put_head}
use Rattle.labels.proofs.StoreLaws.{row_put}
use Rattle.search_ask.specs.Ask.{net_for, chain_of}
use Rattle.search_ask.proofs.AskLaws.{accepted-valid, few-records, nodes-most}
use Rattle.search_trial.proofs.OverlapLaws.{end_is}
use Rattle.round_label.specs.Stage.{row_for}
use Rattle.round_label.proofs.take_up.Statement.{statement}
use Rattle.round_label.proofs.take_up.Tie as tie

abbrev start : tie.After-to_of-end → tie.Start
start c = c.before.before.before.before

-- the candidate's end
abbrev end : tie.Start → ℕ
end s = end_of (arcs_of s.args.table.now) s.args.ask.s (chain_of s.args.labels.now s.args.c)

ends : (c : tie.After-to_of-end) → c.to_of-end.result ≡ end (start c)
ends c = let s = start c in c.to_of-end.ensures ∙ end_is s.args.table.now s.args.ask.s (chain_at s.args.labels.now s.args.c.label) s.args.c.arc s.requires.1.arc-below

-- a node's number has 16 bits
end_fits : (s : tie.Start) → end s < 2 ^ 16
end_fits s =
    let ok = s.requires.0.accepted in
    let v = accepted-valid ok [] s.args.labels.now in
    omega (arith, end_below (net_for s.args.ask s.args.table.now []) s.args.ask.s v.s-below v.sound.to_below (chain_of s.args.labels.now s.args.c), nodes-most ok)

abbrev after : tie.After-slice_known-3-1 → tie.After-to_of-end
after c = c.before.before.before.before.before.before.before.before.before

returns : tie.Need-returns
returns c =
    let s = start (after c) in
    let o = c in
    let k = o in
    row_put s.args.labels.now s.args.n (row_for (arcs_of s.args.table.now) s.args.ask.s s.args.labels.now s.args.c s.args.own.now) _ _
    (k.put_head.ensures ∙ ap₂ (put_head s.args.labels.now s.args.n s.args.c.arc s.args.c.label) k.length_of-len.ensures (ends (after c)))
    o.put_overlaps.ensures

put-head-requires : tie.Need-put_head-requires
put-head-requires c κs =
    let s = start c.before.before in
    let st = s.requires.0.standing in
    (s.requires.3, st.down, st.jumping, λ e. s.requires.1.label-below, s.requires.2)

pub take_up_spec : {M : Type 1} → statement M
take_up_spec =
    tie.close
    (tie.spec
    (λ c κs. search rules)
    (λ c κs. search rules)
    (λ c. let s = start c.before.before in omega (arith, few-records s.requires.0.accepted, s.requires.1.arc-below))
    (λ c. search rules)
    (λ c. let k = c.before.before in omega (arith, ends k, end_fits (start k)))
    put-head-requires
    (λ c κs. search rules)
    (λ c. search rules)
    returns)
