use Rattle.std.proofs.Common.{◌≤◌, length, ap, ◌∙◌, arith}
use Rattle.slh_params.specs.ParamSet.{params}
use Rattle.slh_few.proofs.Sizes.{secret_fits}
use Rattle.slh_few.proofs.fors_tree.ForsNodes.sign.Goals as goal

pub copy_from_slice-requires : goal.copy_from_slice-requires
copy_from_slice-requires c =
    let s = c.args.self.now.signer.now.public.set in
    let fits : (params s).n ≤ length c.args.out.now = omega (arith, secret_fits s, c.requires.out) in
    omega (arith, c.split_at_mut-secret.ensures.front_len, c.n.ensures, fits, ap length c.deref.ensures.0 ∙ c.secret.ensures.len)
