use Rattle.std.proofs.Common.{◌≡◌, take}
use Rattle.slh_hash.specs.Keyed.{xor_each}
use Rattle.slh_lanes.proofs.hmac_lanes.padded_key.Given as goal

abbrev pub invariant-loop-byte : goal.invariant-loop-byte
invariant-loop-byte l = l.padded.items ≡ xor_each l.pad (take l.byte-index l.byte-items)
