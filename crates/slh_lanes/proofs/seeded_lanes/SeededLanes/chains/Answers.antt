use Rattle.std.proofs.Common.{arith, ◌∙◌}
use Rattle.slh_params.specs.ParamSet.{params}
use Rattle.slh_lanes.specs.Lanes.{group, value_at}
use Rattle.slh_lanes.specs.Steps.{steps}
use Rattle.slh_lanes.proofs.Batches.{splat_group}
use Rattle.slh_lanes.proofs.seeded_lanes.SeededLanes.chains.Goals as goal

pub chains_each-requires : goal.chains_each-requires
chains_each-requires over c = (
  omega (arith, c.requires.few),
  (
    omega (arith, c.requires.few),
    (
      omega (arith, c.requires.few),
      (
        c.requires.few,
        λ g j in_batch lane.
            omega (arith, splat_group over.row.G c.args.from g j in_batch lane, splat_group over.row.G c.args.count g j in_batch lane, c.requires.steps),
      ),
    ),
  ),
)

pub returns : goal.returns
returns over c = λ g j in_batch lane a held.
    let lanes = c.args.self.now in
    let p = params lanes.set in
    c.chains_each.ensures g j in_batch lane a held
    ∙ (λ i. steps p lanes.pk_seed.now a (value_at (group c.args.x.now g) j p.n)
    (splat_group over.row.G c.args.from g j in_batch lane i) (splat_group over.row.G c.args.count g j in_batch lane i))
