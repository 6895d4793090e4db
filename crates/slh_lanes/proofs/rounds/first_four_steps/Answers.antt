use Rattle.std.proofs.Common.{ap, ◌∙◌, arith}
use Rattle.slh_lanes.proofs.rounds.first_four_steps.Goals as goal

pub returns : goal.returns
returns g c = λ j lane b h e0 e1 e2 e3 held.
    let after = g.W.Lanes.rounds h b in
    let s1 = c.first_step-v.ensures j lane b h e0 held in
    let s2 = c.first_step-v-2.ensures j lane b h e1 s1 in
    let s3 = c.first_step-v-3.ensures j lane b h e2 (s2 ∙ ap after (omega arith)) in
    c.first_step.ensures j lane b h e3 (s3 ∙ ap after (omega arith)) ∙ ap after (omega arith)
