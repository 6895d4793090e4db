-- All chains are run on by the steps that one has left, so that it is at its end.
use Rattle.std.proofs.Common.{◌≡◌, ℕ, ◌<◌, List, [], replicate, slice_index, ap, ◌∙◌, arith}
use Rattle.std.proofs.lemmas.List.{get_or-replicate}
use Rattle.slh_params.specs.ParamSet.{params}
use Rattle.slh_lanes.specs.Lanes.{group, value_at}
use Rattle.slh_lanes.proofs.Columns.{splat_lane}
use Rattle.slh_few.specs.RunningChains.{running_at}
use Rattle.slh_few.specs.Wots.{chain}
use Rattle.slh_few.proofs.RunningChains.{ends_advanced, in_all}
use Rattle.slh_few.proofs.lanes.running_chains.run_to_an_end.Goals as goal

-- each lane runs by as many steps
count_at : (most count g j : ℕ) → g < most → j < 8 → slice_index (group (replicate most (in_all count)) g) j ≡ count
count_at most count g j in_batch lane = ap (λ (v : List ℕ). slice_index v j) (get_or-replicate most g (in_all count) [] in_batch) ∙ splat_lane count j lane

pub run_batch-requires : goal.run_batch-requires
run_batch-requires over c = (
  omega (arith, c.requires.few),
  (
    omega (arith, c.requires.few),
    (
      omega (arith, c.requires.few),
      (
        c.requires.few,
        λ g j in_batch lane.
            omega (arith, count_at over.row.G c.first_end-first.result.count g j in_batch lane, c.first_end-first.ensures.least g j in_batch lane, c.requires.within g in_batch j lane),
      ),
    ),
  ),
)

pub returns-clause-ended : goal.returns-clause-ended
returns-clause-ended over c =
    let first = c.first_end-first.ensures in
    omega (arith, (c.advance_all.ensures c.first_end-first.result.group first.group).left c.first_end-first.result.lane first.lane, first.count)

pub returns-clause-numbers : goal.returns-clause-numbers
returns-clause-numbers over c = λ g in_batch. (c.advance_all.ensures g in_batch).numbers

pub returns-clause-within : goal.returns-clause-within
returns-clause-within over c = λ g in_batch j lane.
    let taken = c.advance_all.ensures g in_batch in
    omega (arith, taken.steps j lane, taken.left j lane, c.requires.within g in_batch j lane, c.first_end-first.ensures.least g j in_batch lane)

pub returns-clause-ends : goal.returns-clause-ends
returns-clause-ends over c = λ f at adrs g in_batch.
    let p = params c.args.lanes.now.set in
    let pk = c.args.lanes.now.pk_seed.now in
    let old = running_at c.args.running.now g in
    let nodes = group c.args.nodes.now g in
    let count : ℕ = c.first_end-first.result.count in
    ends_advanced f p pk at old (running_at c.advance_all.new.running g) nodes (group c.run_batch.new.nodes g) count (c.advance_all.ensures g in_batch)
    (λ j lane. c.first_end-first.ensures.least g j in_batch lane)
    (λ j lane. c.run_batch.ensures at adrs g j in_batch lane
    ∙ ap (chain p pk at (slice_index old.numbers j) (value_at nodes j p.n) (slice_index old.steps j)) (count_at over.row.G count g j in_batch lane))
