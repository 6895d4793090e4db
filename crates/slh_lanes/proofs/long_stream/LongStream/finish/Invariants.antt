use Rattle.std.proofs.Common.{ℕ, ◌<◌, ◌*◌, ◌++◌, List, replicate}
use Rattle.slh_lanes.specs.Streams.{HoldsLongAt}
use Rattle.slh_lanes.proofs.long_stream.LongStream.finish.Given as goal

abbrev pub invariant-zeros : goal.invariant-zeros
invariant-zeros l = (j : ℕ) → j < 8 → (m : List ℕ) → HoldsLongAt l.initial.self j m → HoldsLongAt l.self j (m ++ replicate (4 * l.counter) 0)
