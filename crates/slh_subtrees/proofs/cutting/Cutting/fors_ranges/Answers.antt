use Rattle.slh_subtrees.proofs.Ends.{end_to_end-good}
use Rattle.slh_subtrees.proofs.cutting.Cutting.fors_ranges.Goals as goal

pub returns-clause-end_to_end : goal.returns-clause-end_to_end
returns-clause-end_to_end c = rw (← c.self.view_is) (end_to_end-good _ _ c.self.invariant.1)
