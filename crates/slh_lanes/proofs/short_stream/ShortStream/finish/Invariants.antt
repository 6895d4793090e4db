use Rattle.std.proofs.Common.{ℕ, ◌<◌, ◌*◌, ◌++◌, List, replicate}
use Rattle.slh_lanes.specs.Streams.{HoldsAt}
use Rattle.slh_lanes.proofs.short_stream.ShortStream.finish.Given as goal

abbrev pub invariant-zeros : goal.invariant-zeros
invariant-zeros l = (j : ℕ) → j < 8 → (m : List ℕ) → HoldsAt l.initial.self j m → HoldsAt l.self j (m ++ replicate (4 * l.counter) 0)
