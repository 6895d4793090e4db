-- The most bytes of a hypertree signature.
use Rattle.std.proofs.Common.{◌+◌, ◌*◌, ◌≤◌, arith}
use Rattle.std.proofs.Math.Nat.{mul-le-mul}
use Rattle.slh_params.specs.declared.param_set.ParamSet.{ParamSet}
use Rattle.slh_params.specs.ParamSet.{params}
use Rattle.slh_params.specs.Params.{len}
use Rattle.slh_params.proofs.Bounds.{n_high, hp_high, d_high, len_high}
use Rattle.slh_few.specs.Xmss.{xmss_sig_len}

xmss_fits : (s : ParamSet) → xmss_sig_len (params s) ≤ 4640
xmss_fits s =
    let nodes : len (params s) + (params s).hp ≤ 145 = omega (arith, len_high s, hp_high s) in
    mul-le-mul nodes (n_high s)

pub ht_fits : (s : ParamSet) → (params s).d * xmss_sig_len (params s) ≤ 301600
ht_fits s = mul-le-mul (d_high s) (xmss_fits s)
