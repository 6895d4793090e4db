use Rattle.std.proofs.Common.{◌≡◌, ℕ, ◌+◌, ◌<◌, length, slice_index}
use Rattle.slh_lanes.proofs.part.long_part.Given as goal

abbrev pub invariant-lanes : goal.invariant-lanes
invariant-lanes g l = (length l.part ≡ g.row.N) × ((i : ℕ) → i < l.j → slice_index l.part i ≡ slice_index l.words (l.first + i))
