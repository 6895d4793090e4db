use Rattle.std.proofs.Common.{◌∙◌}
use Rattle.slh_lanes.proofs.Quads.{below_one}
use Rattle.slh_lanes.proofs.single_block.InstructionsChainCompressionWord.compress_begun.Goals as goal

pub returns : goal.returns
returns c = below_one _ (λ b words begun. c.compress_quads.ensures b words (c.state_of.ensures ∙ begun))
