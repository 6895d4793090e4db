-- A signature of the right length has room for its three parts.
use Rattle.std.proofs.Common.{◌≡◌, length, arith, rules}
use Rattle.slh_params.specs.ParamSet.{params}
use Rattle.slh_core.proofs.Lengths.{r_fits, fors_fits, tree_fits}
use Rattle.slh_core.proofs.verifying.root_by_digest.Goals as goal

pub split_at-requires : goal.split_at-requires
split_at-requires c = r_fits (params c.args.pk.now.set) c.n.result (length c.args.sig.now) (search rules) c.requires.sig

pub split_at-requires-2 : goal.split_at-requires-2
split_at-requires-2 c =
    let n : c.n.result ≡ (params c.args.pk.now.set).n = search rules in
    fors_fits (params c.args.pk.now.set) c.fors_sig_len.result (length c.split_at.result.1.now) (search rules) (omega (arith, c.split_at.ensures.back_len, n, c.requires.sig))

pub root_of_parts-requires-clause-sig_ht : goal.root_of_parts-requires-clause-sig_ht
root_of_parts-requires-clause-sig_ht c =
    let n : c.n.result ≡ (params c.args.pk.now.set).n = search rules in
    tree_fits (params c.args.pk.now.set) c.fors_sig_len.result (length c.split_at.result.1.now) _ (search rules) (omega (arith, c.split_at.ensures.back_len, n, c.requires.sig)) (search rules)
