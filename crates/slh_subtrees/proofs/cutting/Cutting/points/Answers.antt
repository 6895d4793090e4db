use Rattle.slh_subtrees.proofs.Ends.{end_to_end-good}
use Rattle.slh_subtrees.proofs.cutting.Cutting.points.Goals as goal

pub returns-in-Xmss-clause-end_to_end : goal.returns-in-Xmss-clause-end_to_end
returns-in-Xmss-clause-end_to_end c = rw (c.in-Xmss.is, ← c.self.view_is) (end_to_end-good _ _ c.self.invariant.0)

pub returns-in-Fors-clause-end_to_end : goal.returns-in-Fors-clause-end_to_end
returns-in-Fors-clause-end_to_end c = rw (c.in-Fors.is, ← c.self.view_is) (end_to_end-good _ _ c.self.invariant.1)
