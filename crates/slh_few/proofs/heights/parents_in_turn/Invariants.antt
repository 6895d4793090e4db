use Rattle.std.proofs.Common.{◌≡◌, length}
use Rattle.slh_few.specs.Heights.{AreParents}
use Rattle.slh_few.proofs.heights.parents_in_turn.Given as goal

abbrev pub invariant-loop-j : goal.invariant-loop-j
invariant-loop-j g l = record {
  len : length l.nodes.items ≡ l.j;
  parents : AreParents (g.T.Climbs.tree l.tree) l.n l.z l.first l.below l.nodes.items;
}
