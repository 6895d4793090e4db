use Rattle.std.proofs.Common.{◌-◌, arith}
use Rattle.slh_params.specs.ParamSet.{params}
use Rattle.slh_params.specs.Params.{w}
use Rattle.slh_params.proofs.Bounds.{w_high}
use Rattle.slh_few.proofs.Checksum.{checksum-more}
use Rattle.slh_few.proofs.wots_digits.checksum.Goals as goal

pub loop-digit-preserved : goal.loop-digit-preserved
loop-digit-preserved c = record {
  value = rw c.w-last.ensures (checksum-more (w (params c.args.set) - 1) c.loop-digit.sum c.loop-digit.digit-index c.args.digits.now c.loop-digit-test.true c.loop-digit.invariant.value);
  small = omega (arith, c.w-last.ensures, w_high c.args.set);
}
