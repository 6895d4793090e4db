use Rattle.slh_subtrees.proofs.Merging.{Merged}
use Rattle.slh_subtrees.proofs.gathered_tree.gathered.Given as goal

abbrev pub invariant-loop-record : goal.invariant-loop-record
invariant-loop-record g l = Merged (g.T.Climbs.tree l.tree) l.leaf l.covers l.record-index l.path
