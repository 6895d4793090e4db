use Rattle.std.proofs.Common.{◌≡◌, ◌⊎◌, ℕ, ◌+◌, ◌*◌, ◌<◌, ◌≤◌}
use Rattle.slh_params.specs.ParamSet.{params}
use Rattle.slh_lanes.specs.Lanes.{group}
use Rattle.slh_few.specs.KeyCheckpoints.{chain_checkpoints_len, checkpoint, spacing}
use Rattle.slh_few.specs.KeyStreams.{AreAfter, key_at}
use Rattle.slh_few.specs.Chunks.{chunk}
use Rattle.slh_few.proofs.lanes.key_chains.LaneCheckpoints.ends.Given as goal

abbrev pub invariant-loop-j : goal.invariant-loop-j
invariant-loop-j over l =
    let p = params l.lanes.set in
    let pk = l.lanes.pk_seed.now in
    let size = chain_checkpoints_len p in
    record {
      nodes : (g : ℕ) → g < over.row.G → AreAfter p l.fn.sk_seed pk l.fn.at (l.c + g) (l.j * spacing p) (group l.values g);
      stored : (g i : ℕ) → g < over.row.G → i < l.j
          → chunk p.n (chunk size l.out (l.c + g)) i ≡ checkpoint p l.fn.sk_seed pk (key_at l.fn.at l.self.lane) (l.c + g) i;
      others : (d : ℕ) → (d < l.c) ⊎ (l.c + over.row.G ≤ d) → chunk size l.out d ≡ chunk size l.initial.out d;
    }
