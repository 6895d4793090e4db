use Rattle.std.proofs.Common.{◌≡◌, ◌*◌, length, take}
use Rattle.sha2.specs.Sha256.{digest_bytes}
use Rattle.slh_lanes.specs.Columns.{column}
use Rattle.slh_lanes.proofs.bytes.store_lane.Given as goal

abbrev pub invariant-words : goal.invariant-words
invariant-words l = (length l.out ≡ length l.initial.out) × (take (4 * l.k) l.out ≡ digest_bytes (column l.j l.words) l.k)
