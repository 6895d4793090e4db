use Rattle.std.proofs.Common.{arith}
use Rattle.slh_params.proofs.Bounds.{a_high}
use Rattle.slh_few.proofs.fors_tree.ForsNodes.hash_block.Goals as goal

pub overflow_shr-lo : goal.overflow_shr-lo
overflow_shr-lo c = omega (arith, a_high c.args.self.now.signer.now.public.set, c.requires.height)
