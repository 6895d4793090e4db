use Rattle.std.proofs.Common.{arith}
use Rattle.slh_params.proofs.Count.{pow_one, pow_none, digit_count_done}
use Rattle.slh_params.proofs.param_set.numbers.digit_count.Goals as goal

pub loop-capacity-init : goal.loop-capacity-init
loop-capacity-init c = record {
  some = omega arith;
  few = omega arith;
  capacity = pow_one c.args.base;
  below = pow_none c.args.base c.args.number c.requires.some;
}

pub returns : goal.returns
returns c = digit_count_done c.args.base c.args.number c.loop-capacity.count c.loop-capacity.capacity c.requires.base
    c.loop-capacity.invariant.some c.loop-capacity.invariant.capacity c.loop-capacity.invariant.below c.loop-capacity-test.false
