-- No product of the length wraps, in any set.
use Rattle.std.proofs.Common.{◌≡◌, ◌+◌, ◌*◌, refl, arith}
use Rattle.slh_params.specs.ParamSet.{params}
use Rattle.slh_params.proofs.Bounds.{len_high, hp_high}
use Rattle.slh_few.specs.Xmss.{xmss_sig_len}
use Rattle.slh_few.proofs.Sizes.{xmss_sig_len_small}
use Rattle.slh_few.proofs.hypertree.xmss_sig_len.Goals as goal

pub overflow_add-result : goal.overflow_add-result
overflow_add-result c = omega (arith, c.len.ensures, c.hp.ensures, len_high c.args.set, hp_high c.args.set)

pub overflow_mul-result : goal.overflow_mul-result
overflow_mul-result c =
    let e : (c.len.result + c.hp.result) * c.n.result ≡ xmss_sig_len (params c.args.set) = rw (c.len.ensures, c.hp.ensures, c.n.ensures) refl in
    omega (arith, e, xmss_sig_len_small c.args.set)

pub returns-clause-small : goal.returns-clause-small
returns-clause-small c =
    let e : (c.len.result + c.hp.result) * c.n.result ≡ xmss_sig_len (params c.args.set) = rw (c.len.ensures, c.hp.ensures, c.n.ensures) refl in
    omega (arith, e, xmss_sig_len_small c.args.set)
