use Rattle.std.proofs.Common.{arith}
use Rattle.sha2.specs.Sha512.{rounds, schedule}
use Rattle.slh_lanes.proofs.WindowPlace.{at_same}
use Rattle.slh_lanes.proofs.single_long_block.four_pair_steps.Goals as goal

pub returns : goal.returns
returns c = λ b h held.
    let after = rounds h (schedule b 64) in
    let r1 = c.pair_step-v.ensures b h held in
    let r2 = c.pair_step-v-2.ensures b h r1 in
    let r3 = c.pair_step-v-3.ensures b h (at_same _ _ after _ _ _ (omega arith) r2) in
    at_same _ _ after _ _ _ (omega arith) (c.pair_step.ensures b h (at_same _ _ after _ _ _ (omega arith) r3))
