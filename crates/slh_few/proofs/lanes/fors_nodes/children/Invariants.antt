use Rattle.std.proofs.Common.{◌≡◌, ℕ, ◌+◌, ◌*◌, ◌<◌}
use Rattle.slh_params.specs.ParamSet.{params}
use Rattle.slh_lanes.specs.Lanes.{value_at}
use Rattle.slh_few.specs.Chunks.{chunk}
use Rattle.slh_few.proofs.lanes.fors_nodes.children.Given as goal

abbrev pub invariant-loop-j : goal.invariant-loop-j
invariant-loop-j l = (i : ℕ) → i < l.j
    → value_at l.nodes i (params l.fn.set).n ≡ chunk (params l.fn.set).n l.below (2 * (l.first + i) + l.side)
