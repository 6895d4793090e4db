-- The nodes of the height end to end, and the path's nodes below it.
use Rattle.std.proofs.Common.{◌-◌, ◌^◌}
use Rattle.slh_tree.specs.Tree.{node, sibling}
use Rattle.slh_few.specs.Chunks.{HasChunks}
use Rattle.slh_few.proofs.heights.path_from_leaves.Given as goal

abbrev pub invariant-loop-z : goal.invariant-loop-z
invariant-loop-z g l = let t = g.T.Climbs.tree l.tree in record {
  nodes : HasChunks l.n l.nodes (node t l.z) (2 ^ (t.height - l.z));
  path : HasChunks l.n l.out (sibling t l.idx) l.z;
}
