use Rattle.std.proofs.Common.{◌≡◌, ℕ, ◌<◌, List, length, min, take}
use Rattle.sha2.specs.Sha256.{compress, digest_bytes, initial_hash_256}
use Rattle.slh_params.specs.Address.{Address, compressed}
use Rattle.slh_params.specs.Params.{Params}
use Rattle.slh_lanes.specs.Block.{first_block}
use Rattle.slh_lanes.specs.Columns.{lane_column}
use Rattle.slh_lanes.specs.Steps.{steps}
use Rattle.slh_lanes.proofs.chains.run_known.Given as goal

abbrev pub invariant-loop-step : goal.invariant-loop-step
invariant-loop-step g l = (p : Params) (pk_seed : List ℕ) (j : ℕ) (a : Address) → p.n ≡ l.n → length pk_seed ≡ p.n → j < g.W.Lanes.LANES
    → l.short ≡ compress initial_hash_256 (first_block p pk_seed)
    → take 22 (digest_bytes (lane_column g.W.Lanes.lane j l.adrs) 6) ≡ compressed a
    → take p.n (digest_bytes (lane_column g.W.Lanes.lane j l.nodes) 8)
    ≡ steps p pk_seed a (take p.n (digest_bytes (lane_column g.W.Lanes.lane j l.x) 8)) (g.W.Lanes.lane l.from j) (min l.step (g.W.Lanes.lane l.counts j))
