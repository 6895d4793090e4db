use Rattle.std.proofs.Common.{length, rules}
use Rattle.slh_params.specs.ParamSet.{params}
use Rattle.slh_core.proofs.Lengths.{r_fits, fors_fits, tree_fits}
use Rattle.slh_jobs.proofs.joining.Judged.put_signature.Goals as goal
use Rattle.slh_jobs.proofs.joining.Judged.put_signature.Goals.{After-n-n}

pub split_at_mut-front-requires : goal.split_at_mut-front-requires
split_at_mut-front-requires c = r_fits (params c.args.self.now.answered.now.signing.trees.signer.now.public.set) c.n-n.result (length c.args.out.now) c.n-n.ensures c.requires

pub split_at_mut-fors-requires : goal.split_at_mut-fors-requires
split_at_mut-fors-requires c =
    fors_fits (params c.args.self.now.answered.now.signing.trees.signer.now.public.set) c.fors_sig_len.result (length c.split_at_mut-front.result.1.now) c.fors_sig_len.ensures (search rules)

pub put_layers-requires : goal.put_layers-requires
put_layers-requires c =
    tree_fits (params c.args.self.now.answered.now.signing.trees.signer.now.public.set) c.fors_sig_len.result (length c.split_at_mut-front.result.1.now) _ c.fors_sig_len.ensures (search rules) (search rules)
