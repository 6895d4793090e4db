use Rattle.std.proofs.Common.{length, rules}
use Rattle.slh_params.specs.ParamSet.{params}
use Rattle.slh_core.proofs.Lengths.{r_fits, fors_fits, tree_fits}
use Rattle.slh_par.proofs.signing.put_signature.Goals as goal

pub split_at_mut-front-requires : goal.split_at_mut-front-requires
split_at_mut-front-requires g c = r_fits (params c.args.answered.now.trees.now.signer.now.public.set) c.n.result (length c.args.out.now) c.n.ensures c.requires.out

pub split_at_mut-sig_fors-requires : goal.split_at_mut-sig_fors-requires
split_at_mut-sig_fors-requires g c =
    fors_fits (params c.args.answered.now.trees.now.signer.now.public.set) c.fors_sig_len.result (length c.split_at_mut-front.result.1.now) c.fors_sig_len.ensures (search rules)

pub put_layers-requires-clause-out : goal.put_layers-requires-clause-out
put_layers-requires-clause-out g c =
    tree_fits (params c.args.answered.now.trees.now.signer.now.public.set) c.fors_sig_len.result (length c.split_at_mut-front.result.1.now) _ c.fors_sig_len.ensures (search rules) (search rules)
