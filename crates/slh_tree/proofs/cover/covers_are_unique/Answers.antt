use Rattle.slh_tree.proofs.OneCover.{unique_cover}
use Rattle.slh_tree.proofs.cover.covers_are_unique.Goals as goal

pub returns : goal.returns
returns c = unique_cover
