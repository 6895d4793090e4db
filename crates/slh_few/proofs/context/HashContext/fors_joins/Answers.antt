use Rattle.std.proofs.Common.{arith}
use Rattle.slh_params.proofs.Bounds.{k_high}
use Rattle.slh_few.proofs.context.HashContext.fors_joins.Goals as goal

pub invariant_of-result : goal.invariant_of-result
invariant_of-result c = record { small = omega (arith, c.requires, k_high c.args.self.now.set) }
