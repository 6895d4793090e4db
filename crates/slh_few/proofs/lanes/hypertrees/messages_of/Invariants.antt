use Rattle.std.proofs.Common.{◌≡◌, ℕ, ◌<◌, slice_index_or}
use Rattle.slh_params.specs.ParamSet.{params}
use Rattle.slh_lanes.specs.Lanes.{value_at}
use Rattle.slh_few.specs.declared.hypertree.HtSignature.{HtSignature}
use Rattle.slh_few.proofs.lanes.hypertrees.messages_of.Given as goal

abbrev pub invariant-loop-j : goal.invariant-loop-j
invariant-loop-j l = (i : ℕ) (x : HtSignature) → i < l.j
    → value_at l.nodes i (params l.fn.set).n ≡ (slice_index_or l.signed i x).msg.now.items
