use Rattle.std.proofs.Common.{arith}
use Rattle.slh_lanes.proofs.WindowPlace.{at_same}
use Rattle.slh_lanes.proofs.rounds.four_steps.Goals as goal

pub returns : goal.returns
returns g c = λ j lane b h held.
    let after = g.W.Lanes.rounds h b in
    let s1 = c.step-v.ensures j lane b h held in
    let s2 = c.step-v-2.ensures j lane b h s1 in
    let s3 = c.step-v-3.ensures j lane b h (at_same _ _ after _ _ _ (omega arith) s2) in
    let s4 = c.step.ensures j lane b h (at_same _ _ after _ _ _ (omega arith) s3) in
    at_same _ _ after _ _ _ (omega arith) s4
