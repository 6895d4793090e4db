use Rattle.std.proofs.Common.{◌≡◌, ℕ, ◌<◌, List, slice_index_or}
use Rattle.slh_lanes.specs.Lanes.{value_at}
use Rattle.slh_few.specs.Chunks.{chunk}
use Rattle.slh_few.proofs.lanes.hypertrees.ends_at.Given as goal

abbrev pub invariant-loop-j : goal.invariant-loop-j
invariant-loop-j l = (i : ℕ) (e : List ℕ) → i < l.j
    → value_at l.nodes i l.n ≡ chunk l.n (slice_index_or l.ends i e) l.c
