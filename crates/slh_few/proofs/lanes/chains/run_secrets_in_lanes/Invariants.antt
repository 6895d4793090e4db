use Rattle.std.proofs.Common.{◌≡◌, ℕ, ◌*◌, ◌<◌, min, slice_index}
use Rattle.slh_params.specs.ParamSet.{params}
use Rattle.slh_few.specs.Chunks.{chunk}
use Rattle.slh_few.specs.Wots.{chain, secret}
use Rattle.slh_few.proofs.lanes.chains.run_secrets_in_lanes.Given as goal

abbrev pub invariant-loop-turn : goal.invariant-loop-turn
invariant-loop-turn l = (i : ℕ) → i < min (8 * l.turn) l.count → chunk l.n l.out (slice_index l.order i)
    ≡ chain (params l.lanes.set) l.lanes.pk_seed.now l.at (slice_index l.order i)
    (secret (params l.lanes.set) l.sk_seed l.lanes.pk_seed.now l.at (slice_index l.order i)) 0 (slice_index l.counts (slice_index l.order i))
