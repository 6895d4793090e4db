use Rattle.std.proofs.Common.{ap, ◌∙◌}
use Rattle.std.specs.Int.{div_ceil}
use Rattle.slh_params.specs.ParamSet.{params}
use Rattle.slh_params.specs.Params.{w}
use Rattle.slh_few.specs.KeyCheckpoints.{spacing}
use Rattle.slh_few.proofs.KeyCheckpoints.{ceil_16}
use Rattle.slh_few.proofs.key_checkpoints.spacing.Goals as goal

pub returns-clause-value : goal.returns-clause-value
unfolding spacing
returns-clause-value c = c.div_ceil.ensures ∙ ap (λ x. div_ceil x 16) c.w.ensures ∙ ceil_16 (w (params c.args.set))
