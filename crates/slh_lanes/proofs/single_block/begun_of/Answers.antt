use Rattle.std.proofs.Common.{refl, arith}
use Rattle.sha2.specs.Sha256.{rounds, schedule}
use Rattle.slh_lanes.proofs.Quads.{block_quad}
use Rattle.slh_lanes.proofs.single_block.begun_of.Goals as goal

pub returns : goal.returns
unfolding rounds
returns c = λ b q0. c.quad_rounds.ensures (schedule b 48) _ (block_quad b c.args.w0 0 0 refl (omega arith) q0) refl
