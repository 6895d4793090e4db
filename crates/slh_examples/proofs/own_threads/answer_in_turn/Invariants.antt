use Rattle.std.proofs.Common.{◌-◌, take}
use Rattle.slh_jobs.specs.Jobs.{start_of}
use Rattle.slh_examples.specs.JobRanges.{AreAnswersOf, IsRoomFor}
use Rattle.slh_examples.proofs.own_threads.answer_in_turn.Given as goal

abbrev pub invariant-loop-job : goal.invariant-loop-job
invariant-loop-job l =
    let c = l.begun.levels.now in (
    IsRoomFor c l.first l.end l.out
    ) × AreAnswersOf c l.begun.sk.now l.begun.start.now l.first l.job (take (start_of c l.job - start_of c l.first) l.out)
