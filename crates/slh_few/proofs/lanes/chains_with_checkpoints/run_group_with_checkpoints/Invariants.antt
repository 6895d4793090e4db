use Rattle.std.proofs.Common.{◌≡◌, ℕ, ◌+◌, ◌<◌}
use Rattle.slh_params.specs.ParamSet.{params}
use Rattle.slh_lanes.specs.Lanes.{value_at}
use Rattle.slh_few.specs.KeyCheckpoints.{chain_checkpoints_len, checkpoint}
use Rattle.slh_few.specs.Chunks.{chunk}
use Rattle.slh_few.proofs.lanes.chains_with_checkpoints.run_group_with_checkpoints.Given as goal

abbrev pub invariant-loop-j : goal.invariant-loop-j
invariant-loop-j l = record {
  nodes : (i : ℕ) → i < 8 → value_at l.nodes i (params l.lanes.set).n
      ≡ checkpoint (params l.lanes.set) l.sk_seed l.lanes.pk_seed.now l.at (l.c + i) l.j;
  checkpoints : (i j : ℕ) → i < l.used → j < l.j → chunk (params l.lanes.set).n (chunk (chain_checkpoints_len (params l.lanes.set)) l.checkpoints (l.c + i)) j
      ≡ checkpoint (params l.lanes.set) l.sk_seed l.lanes.pk_seed.now l.at (l.c + i) j;
  before : (d : ℕ) → d < l.c → chunk (chain_checkpoints_len (params l.lanes.set)) l.checkpoints d ≡ chunk (chain_checkpoints_len (params l.lanes.set)) l.initial.checkpoints d;
}
