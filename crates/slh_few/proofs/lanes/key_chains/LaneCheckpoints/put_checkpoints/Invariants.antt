use Rattle.std.proofs.Common.{◌≡◌, ◌≢◌, ◌⊎◌, ℕ, ◌+◌, ◌<◌, ◌≤◌}
use Rattle.slh_params.specs.ParamSet.{params}
use Rattle.slh_lanes.specs.Lanes.{group, value_at}
use Rattle.slh_few.specs.Chunks.{chunk}
use Rattle.slh_few.specs.KeyCheckpoints.{chain_checkpoints_len}
use Rattle.slh_few.proofs.lanes.key_chains.LaneCheckpoints.put_checkpoints.Given as goal

abbrev pub invariant-loop-g : goal.invariant-loop-g
invariant-loop-g over l =
    let p = params l.set in
    let size = chain_checkpoints_len p in
    record {
      put : (i : ℕ) → i < l.g → chunk p.n (chunk size l.checkpoints (l.c + i)) l.j ≡ value_at (group l.values i) l.self.lane p.n;
      others : (d i : ℕ) → i ≢ l.j → chunk p.n (chunk size l.checkpoints d) i ≡ chunk p.n (chunk size l.initial.checkpoints d) i;
      chains : (d : ℕ) → (d < l.c) ⊎ (l.c + l.g ≤ d) → chunk size l.checkpoints d ≡ chunk size l.initial.checkpoints d;
    }
