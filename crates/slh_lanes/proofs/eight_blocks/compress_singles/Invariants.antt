use Rattle.std.proofs.Common.{◌≡◌, ℕ, ◌<◌, ◌≤◌, List}
use Rattle.sha2.specs.Sha256.{compress}
use Rattle.slh_lanes.specs.Columns.{column, HasWords}
use Rattle.slh_lanes.proofs.eight_blocks.compress_singles.Given as goal

abbrev pub invariant-lanes : goal.invariant-lanes
invariant-lanes g l =
    ((i : ℕ) → i < l.lane → (b : List ℕ) → HasWords b (column i l.block) → column i l.state ≡ compress (column i l.initial.state) b)
    × ((i : ℕ) → l.lane ≤ i → column i l.state ≡ column i l.initial.state)
