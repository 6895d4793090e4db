-- At most 133 nodes of 32 bytes.
use Rattle.std.proofs.Common.{arith}
use Rattle.std.proofs.Math.Nat.{mul-le-mul}
use Rattle.slh_params.proofs.Bounds.{len_high, n_high}
use Rattle.slh_few.proofs.wots.wots_sig_len.Goals as goal

pub overflow_mul-result : goal.overflow_mul-result
overflow_mul-result c = rw (c.len.ensures, c.n.ensures) (omega (arith, mul-le-mul (len_high c.args.set) (n_high c.args.set)))

pub returns-clause-small : goal.returns-clause-small
returns-clause-small c = rw (c.len.ensures, c.n.ensures) (mul-le-mul (len_high c.args.set) (n_high c.args.set))
