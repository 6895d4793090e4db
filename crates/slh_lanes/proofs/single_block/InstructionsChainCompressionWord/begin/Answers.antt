use Rattle.std.proofs.Common.{ℕ, List, sym, ap, ◌∙◌}
use Rattle.sha2.specs.Sha256.{rounds, schedule}
use Rattle.slh_lanes.proofs.Quads.{below_four, below_one}
use Rattle.slh_lanes.proofs.single_block.InstructionsChainCompressionWord.begin.Goals as goal

pub returns : goal.returns
returns c = below_one _ (λ b e0 e1 e2 e3 _e4.
    c.words_of.ensures ∙ c.begun_of.ensures b (below_four _ (sym e0) (sym e1) (sym e2) (sym e3))
    ∙ ap (λ (h : List ℕ). rounds h (schedule b 48) 4) c.state_of.ensures)
