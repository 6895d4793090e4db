use Rattle.slh_jobs.proofs.Indices.{answers_there}
use Rattle.slh_jobs.proofs.all_answers.AllAnswers.first.Goals as goal

pub returns-clause-there : goal.returns-clause-there
returns-clause-there c =
    let t = c.args.self.now in
    rw c.first_of_kind.ensures.value (answers_there t.signing.levels t.xmss.bytes.now c.args.tree c.requires t.xmss_there (rw t.rest at t.fors_there))
