use Rattle.std.proofs.Common.{◌≡◌, ℕ, ◌+◌, ◌<◌}
use Rattle.slh_lanes.specs.Lanes.{value_at}
use Rattle.slh_few.specs.Chunks.{chunk}
use Rattle.slh_few.proofs.lanes.fors_climbs.TreeGroup.part_nodes.Given as goal

abbrev pub invariant-loop-j : goal.invariant-loop-j
invariant-loop-j l = (i : ℕ) → i < l.j → value_at l.nodes i l.n ≡ chunk l.n (chunk l.size l.sig (l.self.first.tree_no + i)) l.place
