use Rattle.slh_subtrees.proofs.Levels.{ranges-level_points}
use Rattle.slh_subtrees.proofs.cuts.levels_cut_evenly.Goals as goal

pub returns : goal.returns
returns c = ranges-level_points
