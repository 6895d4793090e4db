use Rattle.slh_jobs.proofs.answer_bytes.are_judged.Goals as goal

pub returns-in-Some-clause-tags : goal.returns-in-Some-clause-tags
returns-in-Some-clause-tags c = λ p key front begun.
    let lanes = c.in-Some.ensures.lanes p key front begun in
    c.judged_in_lanes.ensures.tags p key front lanes.0 lanes.1
