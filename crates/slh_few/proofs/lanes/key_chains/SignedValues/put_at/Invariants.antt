use Rattle.std.proofs.Common.{◌≡◌, ◌≢◌, ◌⊎◌, ℕ, ◌+◌, ◌<◌, ◌≤◌, slice_index}
use Rattle.slh_params.specs.ParamSet.{params}
use Rattle.slh_lanes.specs.Lanes.{group, value_at}
use Rattle.slh_few.specs.Chunks.{chunk}
use Rattle.slh_few.proofs.lanes.key_chains.SignedValues.put_at.Given as goal

abbrev pub invariant-loop-g : goal.invariant-loop-g
invariant-loop-g over l =
    let n = (params l.fn.set).n in
    record {
      put : (i : ℕ) → i < l.g → slice_index l.self.digits.now (l.c + i) ≡ l.steps
          → chunk n l.out (l.c + i) ≡ value_at (group l.values i) l.self.lane n;
      others : (i : ℕ) → (i < l.c) ⊎ ((l.c + l.g ≤ i) ⊎ (slice_index l.self.digits.now i ≢ l.steps)) → chunk n l.out i ≡ chunk n l.initial.out i;
    }
