use Rattle.std.proofs.Common.{slice_index, ◌∙◌}
use Rattle.slh_params.specs.ParamSet.{params}
use Rattle.slh_lanes.specs.Lanes.{value_at}
use Rattle.slh_lanes.proofs.Columns.{splat_lane}
use Rattle.slh_few.specs.Wots.{chain}
use Rattle.slh_few.proofs.lanes.chains.run_alike.Goals as goal

pub returns : goal.returns
returns c = λ j lane.
    let p = params c.args.lanes.now.set in
    let pk = c.args.lanes.now.pk_seed.now in
    c.run_lanes.ensures j lane
    ∙ (λ k. chain p pk c.args.at (slice_index c.args.group.now j) (value_at c.args.x.now j p.n) (splat_lane c.args.from j lane k) (splat_lane c.args.count j lane k))
