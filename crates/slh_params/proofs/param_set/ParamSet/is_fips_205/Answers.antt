use Rattle.std.proofs.Common.{◌∙◌}
use Rattle.slh_params.proofs.Names.{named_standard}
use Rattle.slh_params.proofs.param_set.ParamSet.is_fips_205.Goals as goal

pub returns : goal.returns
returns c = (rw c.name.ensures at c.ne.ensures) ∙ named_standard c.args.self.now
