-- How long the parts of a signature are at most.
use Rattle.std.proofs.Common.{◌≡◌, suc, ◌+◌, ◌-◌, ◌*◌, ◌≤◌, arith}
use Rattle.std.proofs.Math.Nat.{mul-le-mul, mul-le-mul_right}
use Rattle.slh_params.specs.declared.param_set.ParamSet.{ParamSet}
use Rattle.slh_params.specs.ParamSet.{params}
use Rattle.slh_params.proofs.Bounds.{n_high, len_high, hp_high, d_low}
use Rattle.slh_few.specs.Fors.{fors_part_len}
use Rattle.slh_few.specs.Xmss.{xmss_sig_len}

pub xmss_sig_len_small : (s : ParamSet) → xmss_sig_len (params s) ≤ 4640
xmss_sig_len_small s = mul-le-mul {n₂ = 145} (omega (arith, len_high s, hp_high s)) (n_high s)

-- d is one more than the number of the top layer
pub top_layer : (s : ParamSet) → (params s).d ≡ suc ((params s).d - 1)
top_layer s = omega (arith, d_low s)

-- a secret is a part of what a FORS tree adds to a signature
pub secret_fits : (s : ParamSet) → (params s).n ≤ fors_part_len (params s)
secret_fits s =
    let up : 1 * (params s).n ≤ (1 + (params s).a) * (params s).n = mul-le-mul_right (params s).n (omega arith) in
    omega (arith, up)
