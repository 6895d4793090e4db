use Rattle.std.proofs.Common.{◌≡◌, ℕ, ◌<◌}
use Rattle.sha2.specs.Sha256.{hash_after, initial_hash_256}
use Rattle.slh_lanes.specs.Columns.{column}
use Rattle.slh_lanes.proofs.block.hash_after.Given as goal

abbrev pub invariant-loop-b : goal.invariant-loop-b
invariant-loop-b l = (j : ℕ) → j < 8 → column j l.state ≡ hash_after initial_hash_256 l.bytes l.b
