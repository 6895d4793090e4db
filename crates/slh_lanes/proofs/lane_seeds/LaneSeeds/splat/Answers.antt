use Rattle.std.proofs.Common.{ap, ◌∙◌}
use Rattle.slh_lanes.specs.Columns.{column}
use Rattle.slh_lanes.specs.LaneSeeds.{HasSeedAt}
use Rattle.slh_lanes.proofs.lane_seeds.LaneSeeds.splat.Goals as goal

pub returns-clause-seeds : goal.returns-clause-seeds
unfolding HasSeedAt
returns-clause-seeds c = λ j lane.
    let seed = c.args.seed.now in (
      seed.len,
      ap (column j) c.wrapped.ensures ∙ c.splat_all.ensures j lane ∙ seed.short_state,
      λ other. ap (column j) c.wrapped-2.ensures ∙ c.splat_all-2.ensures j lane ∙ seed.long_state other,
    )
