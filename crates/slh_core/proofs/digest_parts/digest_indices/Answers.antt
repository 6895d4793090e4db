use Rattle.std.proofs.Common.{◌<◌, ◌^◌, arith}
use Rattle.std.proofs.Math.Nat.{mod-lt}
use Rattle.slh_params.specs.ParamSet.{params}
use Rattle.slh_params.proofs.Bounds.{leaves_low, leaves_high}
use Rattle.slh_core.proofs.digest_parts.digest_indices.Goals as goal

pub overflow_cast-result : goal.overflow_cast-result
overflow_cast-result c =
    let s = c.args.set in
    let below : c.low_bits-2.result < 2 ^ (params s).hp = rw (c.low_bits-2.ensures, c.hp-2.ensures) (mod-lt c.to_int-leaf.result (leaves_low s)) in
    omega (arith, below, leaves_high s)
