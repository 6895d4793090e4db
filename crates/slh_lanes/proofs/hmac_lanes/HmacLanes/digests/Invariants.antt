use Rattle.std.proofs.Common.{◌≡◌, ℕ, ◌+◌, ◌<◌, ◌++◌}
use Rattle.slh_params.specs.Bits.{to_byte}
use Rattle.slh_lanes.specs.Lanes.{value_at}
use Rattle.slh_lanes.proofs.hmac_lanes.HmacLanes.digests.Given as goal

abbrev pub invariant-loop-j : goal.invariant-loop-j
invariant-loop-j l = (i : ℕ) → i < l.j → value_at l.low i 32 ++ value_at l.high i 32
    ≡ l.self.left.items ++ ((to_byte (l.first + i) 4 ++ value_at l.nodes i 16) ++ l.self.padding.items)
