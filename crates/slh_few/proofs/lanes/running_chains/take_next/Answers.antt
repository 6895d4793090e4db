-- The ended chain's group is changed alone.
use Rattle.std.proofs.Common.{ℕ, List, [], slice_index, ap, subst, sym, ◌∙◌, arith}
use Rattle.std.proofs.lemmas.List.{get_or-set_same, get_or-set_other}
use Rattle.slh_lanes.specs.Lanes.{value_at}
use Rattle.slh_few.specs.RunningChains.{IsSameChain, running_at}
use Rattle.slh_few.specs.declared.lanes.running_chains.RunningChains.{RunningChains}
use Rattle.slh_few.proofs.RunningChains.{put_same, put_other}
use Rattle.slh_few.proofs.lanes.running_chains.take_next.Goals as goal

pub returns-clause-number : goal.returns-clause-number
returns-clause-number over c =
    ap (λ (r : RunningChains). slice_index r.numbers c.args.end.lane) (put_same c.args.running.now c.args.end.group c.put.new.self (omega (arith, c.told-running, c.requires.group))) ∙ c.put.ensures.number

pub returns-clause-step : goal.returns-clause-step
returns-clause-step over c =
    ap (λ (r : RunningChains). slice_index r.steps c.args.end.lane) (put_same c.args.running.now c.args.end.group c.put.new.self (omega (arith, c.told-running, c.requires.group))) ∙ c.put.ensures.step

pub returns-clause-left : goal.returns-clause-left
returns-clause-left over c =
    ap (λ (r : RunningChains). slice_index r.left c.args.end.lane) (put_same c.args.running.now c.args.end.group c.put.new.self (omega (arith, c.told-running, c.requires.group))) ∙ c.put.ensures.left

pub returns-clause-others : goal.returns-clause-others
returns-clause-others over c = λ i lane other.
    let old = running_at c.args.running.now c.args.end.group in
    subst (λ (r : RunningChains). IsSameChain old r i) (sym (put_same c.args.running.now c.args.end.group c.put.new.self (omega (arith, c.told-running, c.requires.group)))) (c.put.ensures.others i lane other)

pub returns-clause-running : goal.returns-clause-running
returns-clause-running over c = λ g other. put_other c.args.running.now c.args.end.group c.put.new.self g other

pub returns-clause-value : goal.returns-clause-value
returns-clause-value over c =
    let j : ℕ = c.args.end.lane in
    let made = c.with_node.result in
    ap (λ (v : List (List ℕ)). value_at v j c.args.n) (get_or-set_same c.args.nodes.now c.args.end.group made [] (omega (arith, c.told-nodes, c.requires.group)))
    ∙ ap (value_at made j) (sym c.chunk_at.ensures.len) ∙ c.with_node.ensures.set ∙ c.chunk_at.ensures.value

pub returns-clause-values : goal.returns-clause-values
returns-clause-values over c = λ i m lane other.
    ap (λ (v : List (List ℕ)). value_at v i m) (get_or-set_same c.args.nodes.now c.args.end.group c.with_node.result [] (omega (arith, c.told-nodes, c.requires.group)))
    ∙ c.with_node.ensures.others i m lane other

pub returns-clause-nodes : goal.returns-clause-nodes
returns-clause-nodes over c = λ g other. get_or-set_other c.args.nodes.now c.args.end.group g c.with_node.result [] other
