use Rattle.std.proofs.Common.{ℕ, ◌<◌, ◌++◌, List}
use Rattle.sha2.specs.Sha256.{digest_bytes}
use Rattle.slh_lanes.specs.Columns.{column}
use Rattle.slh_lanes.specs.Streams.{HoldsAt}
use Rattle.slh_lanes.proofs.short_stream.ShortStream.absorb.Given as goal

abbrev pub invariant-words : goal.invariant-words
invariant-words l = (j : ℕ) → j < 8 → (m : List ℕ) → HoldsAt l.initial.self j m → HoldsAt l.self j (m ++ digest_bytes (column j l.nodes) l.k)
