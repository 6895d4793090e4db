-- The bytes as the loop found them, and then with one node more at each turn.
use Rattle.std.proofs.Common.{ℕ, ◌+◌, List}
use Rattle.slh_few.specs.Heights.{AreJoined}
use Rattle.slh_few.proofs.heights.put_parents.Given as goal

abbrev pub invariant-loop-j : goal.invariant-loop-j
invariant-loop-j g l = (below : List ℕ)
    → AreJoined (g.T.Climbs.tree l.tree) l.n l.z below l.first l.initial.nodes
    → AreJoined (g.T.Climbs.tree l.tree) l.n l.z below (l.first + l.j) l.nodes
