-- A signature of the right length has room for R.
use Rattle.std.proofs.Common.{length, rules}
use Rattle.slh_params.specs.ParamSet.{params}
use Rattle.slh_core.proofs.Lengths.{r_fits}
use Rattle.slh_core.proofs.hashed_message.verify_front.Goals as goal

pub split_at-requires : goal.split_at-requires
split_at-requires c = r_fits (params c.args.pk.now.set) c.n.result (length c.args.sig.now) (search rules) (search rules)
