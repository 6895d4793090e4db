use Rattle.std.proofs.Common.{◌≡◌, ◌≢◌, ℕ, ◌+◌, ◌<◌}
use Rattle.slh_params.specs.ParamSet.{params}
use Rattle.slh_lanes.specs.Lanes.{value_at}
use Rattle.slh_few.specs.KeyCheckpoints.{chain_checkpoints_len}
use Rattle.slh_few.specs.Chunks.{chunk}
use Rattle.slh_few.proofs.lanes.chains_with_checkpoints.put_lane_checkpoints.Given as goal

abbrev pub invariant-loop-i : goal.invariant-loop-i
invariant-loop-i l = record {
  set : (i : ℕ) → i < l.i → chunk (params l.set).n (chunk (chain_checkpoints_len (params l.set)) l.checkpoints (l.c + i)) l.j ≡ value_at l.nodes i (params l.set).n;
  others : (d i : ℕ) → i ≢ l.j → chunk (params l.set).n (chunk (chain_checkpoints_len (params l.set)) l.checkpoints d) i
      ≡ chunk (params l.set).n (chunk (chain_checkpoints_len (params l.set)) l.initial.checkpoints d) i;
  chains : (d : ℕ) → d < l.c → chunk (chain_checkpoints_len (params l.set)) l.checkpoints d ≡ chunk (chain_checkpoints_len (params l.set)) l.initial.checkpoints d;
}
