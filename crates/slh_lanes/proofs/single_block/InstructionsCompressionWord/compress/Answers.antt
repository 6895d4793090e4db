use Rattle.std.proofs.Common.{ℕ, ◌+◌, List, sym, ap, arith, ◌∙◌}
use Rattle.sha2.specs.Sha256.{rounds, schedule}
use Rattle.slh_lanes.proofs.Quads.{below_one}
use Rattle.slh_lanes.proofs.single_block.InstructionsCompressionWord.compress.Goals as goal

pub returns : goal.returns
returns c = below_one _ (λ b words.
    c.compress_quads.ensures b words
    (c.begun_of-begun.ensures b (λ j lt. c.quad.ensures j lt ∙ sym (words (0 + j) (omega arith)))
    ∙ ap (λ (h : List ℕ). rounds h (schedule b 48) 4) c.state_of.ensures))
