use Rattle.std.proofs.Common.{◌≡◌, ℕ, ◌<◌, List, slice_index}
use Rattle.slh_lanes.specs.Lanes.{value_at}
use Rattle.slh_few.specs.Chunks.{chunk}
use Rattle.slh_few.proofs.lanes.chains.put_lanes.Given as goal

abbrev pub invariant-loop-j : goal.invariant-loop-j
invariant-loop-j l = (f : ℕ → List ℕ) → ((j : ℕ) → j < l.used → value_at l.nodes j l.n ≡ f (slice_index l.group j))
    → ((i : ℕ) → i < l.j → chunk l.n l.out (slice_index l.group i) ≡ f (slice_index l.group i))
    × ((c : ℕ) → chunk l.n l.initial.out c ≡ f c → chunk l.n l.out c ≡ f c)
