use Rattle.std.proofs.Common.{slice_index, arith, ◌∙◌}
use Rattle.slh_params.specs.ParamSet.{params}
use Rattle.slh_lanes.specs.Lanes.{value_at}
use Rattle.slh_few.proofs.ChainLanes.{chain-steps}
use Rattle.slh_few.proofs.lanes.chains.run_lanes.Goals as goal

pub returns : goal.returns
returns c = λ j lane.
    let p = params c.args.lanes.now.set in
    let pk = c.args.lanes.now.pk_seed.now in
    c.chains_each.ensures 0 j (omega arith) lane _ (c.chain_adrs.ensures j lane)
    ∙ chain-steps p pk c.args.at (slice_index c.args.group.now j) (value_at c.args.x.now j p.n) (slice_index c.args.from j) (slice_index c.args.counts j)
