-- The ends are those of the whole chains.
use Rattle.std.proofs.Common.{ap, ◌∙◌}
use Rattle.slh_params.specs.ParamSet.{params}
use Rattle.slh_hash.specs.Hash.{T}
use Rattle.slh_few.specs.Wots.{wots_address, wots_pk}
use Rattle.slh_few.proofs.context.SigningContext.wots_pk_with_checkpoints.Goals as goal

pub returns-clause-value : goal.returns-clause-value
unfolding wots_pk
returns-clause-value c =
    c.compressed_ends.ensures.value
    ∙ ap (T (params c.args.self.now.public.set) c.args.self.now.public.pk_seed.now (wots_address c.args.at 1 0 0))
    (rw (c.lanes.ensures.set, c.lanes.ensures.pk_seed) at c.run_with_checkpoints.ensures.ends)

pub returns-clause-checkpoints : goal.returns-clause-checkpoints
returns-clause-checkpoints c = rw (c.lanes.ensures.set, c.lanes.ensures.pk_seed) at c.run_with_checkpoints.ensures.checkpoints
