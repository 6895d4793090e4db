use Rattle.std.proofs.Common.{◌+◌, sym, ap₂, ◌∙◌, arith}
use Rattle.sha2.specs.Sha256.{add_state, compress}
use Rattle.slh_lanes.specs.Columns.{column}
use Rattle.slh_lanes.proofs.single_block.compress_quads.Goals as goal

pub returns : goal.returns
unfolding compress
returns c = λ b words begun.
    let held = c.rest_of_rounds-v.ensures b (column 0 c.args.state.now)
    (λ j lt. c.quad.ensures j lt ∙ sym (words (0 + j) (omega arith)))
    (λ j lt. c.quad-2.ensures j lt ∙ sym (words (4 + j) (omega arith)))
    (λ j lt. c.quad-3.ensures j lt ∙ sym (words (8 + j) (omega arith)))
    (λ j lt. c.quad-4.ensures j lt ∙ sym (words (12 + j) (omega arith)))
    begun in
    c.words_of.ensures
    ∙ rw (
      c.sum.ensures 0 (omega arith),
      c.sum.ensures 1 (omega arith),
      c.sum.ensures 2 (omega arith),
      c.sum.ensures 3 (omega arith),
      c.sum-2.ensures 0 (omega arith),
      c.sum-2.ensures 1 (omega arith),
      c.sum-2.ensures 2 (omega arith),
      c.sum-2.ensures 3 (omega arith),
    )
    (ap₂ add_state c.state_of-from.ensures held)
