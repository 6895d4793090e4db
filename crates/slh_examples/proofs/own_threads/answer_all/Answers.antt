-- The buffer has room for the answers of all jobs, from the first on.
use Rattle.slh_jobs.specs.Jobs.{jobs}
use Rattle.slh_examples.specs.JobRanges.{AreAnswersOf}
use Rattle.slh_examples.proofs.JobRanges.{some_job, room_for_all, all_jobs}
use Rattle.slh_examples.proofs.own_threads.answer_all.Goals as goal

pub answer_by_threads-requires-clause-some : goal.answer_by_threads-requires-clause-some
answer_by_threads-requires-clause-some g c κs within = rw c.sign_jobs.ensures.value (some_job c.args.begun.now.levels.now)

pub answer_by_threads-requires-clause-room : goal.answer_by_threads-requires-clause-room
answer_by_threads-requires-clause-room g c κs within =
    rw c.sign_jobs.ensures.value (room_for_all c.args.begun.now.levels.now c.args.answers.now c.requires)

pub returns-clause-answers : goal.returns-clause-answers
returns-clause-answers g c =
    let begun = c.args.begun.now in
    let are : AreAnswersOf begun.levels.now begun.sk.now begun.start.now 0 (jobs begun.levels.now) c.answer_by_threads.new.out =
    rw c.sign_jobs.ensures.value at c.answer_by_threads.ensures in
    all_jobs begun.levels.now begun.sk.now begun.start.now c.answer_by_threads.new.out are
