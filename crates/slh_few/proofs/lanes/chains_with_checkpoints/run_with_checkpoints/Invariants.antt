use Rattle.std.proofs.Common.{◌≡◌, ℕ, ◌*◌, ◌<◌, min}
use Rattle.slh_params.specs.ParamSet.{params}
use Rattle.slh_few.specs.KeyCheckpoints.{chain_checkpoints, chain_checkpoints_len}
use Rattle.slh_few.specs.Chunks.{chunk}
use Rattle.slh_few.specs.Wots.{whole_chain}
use Rattle.slh_few.proofs.lanes.chains_with_checkpoints.run_with_checkpoints.Given as goal

abbrev pub invariant-loop-group : goal.invariant-loop-group
invariant-loop-group l = record {
  ends : (d : ℕ) → d < min (8 * l.group) l.count → chunk l.n l.ends d
      ≡ whole_chain (params l.lanes.set) l.sk_seed l.lanes.pk_seed.now l.at d;
  checkpoints : (d : ℕ) → d < min (8 * l.group) l.count → chunk (chain_checkpoints_len (params l.lanes.set)) l.checkpoints d
      ≡ chain_checkpoints (params l.lanes.set) l.sk_seed l.lanes.pk_seed.now l.at d;
}
