use Rattle.std.proofs.Common.{ℕ, arith, ap, ◌∙◌}
use Rattle.slh_params.specs.ParamSet.{params}
use Rattle.slh_params.proofs.Bounds.{n_cases}
use Rattle.slh_hash.specs.Hash.{F, tweaked_hash}
use Rattle.slh_hash.specs.HashFunctions.{SHA_256}
use Rattle.slh_lanes.specs.Lanes.{group, value_at}
use Rattle.slh_lanes.proofs.seeded_lanes.SeededLanes.f.Goals as goal

pub digests-requires : goal.digests-requires
digests-requires over c = (omega (arith, c.requires), (omega (arith, c.requires), (c.requires.few, rw c.n.ensures (n_cases c.args.self.now.set))))

pub returns : goal.returns
unfolding F
returns over c = λ g j in_batch lane a held.
    let lanes = c.args.self.now in
    c.digests.ensures g j in_batch lane a held
    ∙ ap (λ (k : ℕ). tweaked_hash SHA_256 (params lanes.set) lanes.pk_seed.now a (value_at (group c.args.x.now g) j k)) c.n.ensures
