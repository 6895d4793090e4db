use Rattle.std.proofs.Common.{◌∙◌}
use Rattle.sha2.specs.Sha256.{compress}
use Rattle.slh_lanes.proofs.hmac_lanes.after_block.Goals as goal

pub returns : goal.returns
returns c j lane = c.compress.ensures.bytes j lane ∙ (λ i. compress (c.splat_all-after.ensures j lane i) (c.both_halves.ensures j lane i))
