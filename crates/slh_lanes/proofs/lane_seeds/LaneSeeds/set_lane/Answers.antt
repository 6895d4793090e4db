use Rattle.std.proofs.Common.{ap, sym, ◌∙◌}
use Rattle.slh_lanes.specs.Columns.{column}
use Rattle.slh_lanes.specs.LaneSeeds.{HasSeedAt}
use Rattle.slh_lanes.proofs.lane_seeds.LaneSeeds.set_lane.Goals as goal

pub returns-clause-seed : goal.returns-clause-seed
unfolding HasSeedAt
returns-clause-seed c =
    let seed = c.args.seed.now in
    let j = c.args.j in
    rw (sym c.requires.set) (
      seed.len,
      ap (column j) c.wrapped-self.ensures ∙ c.put_words.ensures.set ∙ seed.short_state,
      λ other. ap (column j) c.wrapped-self-2.ensures ∙ c.put_words-2.ensures.set ∙ seed.long_state other,
    )

pub returns-clause-others : goal.returns-clause-others
unfolding HasSeedAt
returns-clause-others c = λ i pk other held. (
  held.0,
  ap (column i) c.wrapped-self.ensures ∙ c.put_words.ensures.others i other ∙ ap (column i) c.bare-short.ensures ∙ held.1,
  λ long. ap (column i) c.wrapped-self-2.ensures ∙ c.put_words-2.ensures.others i other ∙ ap (column i) c.bare-long.ensures ∙ held.2 long,
)
