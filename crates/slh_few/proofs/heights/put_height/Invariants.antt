use Rattle.std.proofs.Common.{◌*◌, min}
use Rattle.slh_few.specs.Heights.{AreJoined}
use Rattle.slh_few.proofs.heights.put_height.Given as goal

abbrev pub invariant-loop-turn : goal.invariant-loop-turn
invariant-loop-turn g l = AreJoined (g.T.Climbs.tree l.tree) l.n l.z l.initial.nodes (min (8 * l.turn) l.count) l.nodes
