use Rattle.std.proofs.Common.{length, rules}
use Rattle.slh_params.specs.ParamSet.{params}
use Rattle.slh_core.proofs.Lengths.{fors_fits, tree_fits}
use Rattle.slh_core.proofs.signing.sign_digest.Goals as goal

pub split_at_mut-sig_fors-requires : goal.split_at_mut-sig_fors-requires
split_at_mut-sig_fors-requires c =
    fors_fits (params c.args.sk.now.set) c.fors_sig_len.result (length c.args.out.now) (search rules) c.requires.out

pub ht_sign-requires-clause-out : goal.ht_sign-requires-clause-out
ht_sign-requires-clause-out c =
    rw c.signer-signer.ensures.set (tree_fits (params c.args.sk.now.set) c.fors_sig_len.result (length c.args.out.now) _ (search rules) c.requires.out (search rules))
