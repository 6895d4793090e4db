use Rattle.std.proofs.Common.{ℕ, ◌<◌, ◌++◌, List}
use Rattle.sha2.specs.Sha256.{digest_bytes}
use Rattle.slh_lanes.specs.Columns.{column}
use Rattle.slh_lanes.specs.Streams.{HoldsLongAt}
use Rattle.slh_lanes.proofs.long_stream.LongStream.absorb.Given as goal

abbrev pub invariant-words : goal.invariant-words
invariant-words l = (j : ℕ) → j < 8 → (m : List ℕ) → HoldsLongAt l.initial.self j m → HoldsLongAt l.self j (m ++ digest_bytes (column j l.nodes) l.k)
