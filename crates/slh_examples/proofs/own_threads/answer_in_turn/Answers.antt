-- Each job's answer lies inside the buffer, and what was written before it stays.
use Rattle.std.proofs.Common.{rules, arith, ◌≡◌, ◌+◌, ◌-◌, ◌≤◌, ◌<◌, length, refl}
use Rattle.slh_jobs.specs.Jobs.{start_of, len_of}
use Rattle.slh_examples.specs.JobRanges.{IsRoomFor}
use Rattle.slh_examples.proofs.JobRanges.{start_grows, room_inside, next_answer, all_written}
use Rattle.slh_examples.proofs.own_threads.answer_in_turn.Goals as goal

pub overflow_sub-at : goal.overflow_sub-at
overflow_sub-at c =
    let below : c.args.first ≤ c.loop-job.job = search rules in
    rw (c.answer_start-before.ensures, c.answer_start.ensures) (start_grows c.args.begun.now.levels.now c.args.first c.loop-job.job below)

pub put_answer-requires-clause-room : goal.put_answer-requires-clause-room
put_answer-requires-clause-room c =
    let below : c.args.first ≤ c.loop-job.job = search rules in
    let lt : c.loop-job.job < c.args.end = search rules in
    rw (c.answer_start-before.ensures, c.answer_start.ensures)
    (room_inside c.args.begun.now.levels.now c.args.first c.args.end c.loop-job.job c.loop-job.out c.loop-job.invariant.0 below lt)

pub loop-job-preserved : goal.loop-job-preserved
loop-job-preserved c =
    let levels = c.args.begun.now.levels.now in
    let first = c.args.first in
    let job = c.loop-job.job in
    let out = c.loop-job.out in
    let new = c.put_answer.new.out in
    let before = c.loop-job.invariant.0 in
    let same : length new ≡ length out = search rules in
    let room : IsRoomFor levels first c.args.end new = record { ordered = before.ordered; last = before.last; len = rw same before.len } in
    let below : first ≤ job = search rules in
    let at = c.answer_start.result - c.answer_start-before.result in
    let is : at ≡ start_of levels job - start_of levels first = rw (c.answer_start-before.ensures, c.answer_start.ensures) refl in
    let lt : job < c.args.end = search rules in
    let fits : start_of levels job - start_of levels first + len_of levels job ≤ length out = room_inside levels first c.args.end job out before below lt in
    let inside : at ≤ length out = rw is (omega (arith, fits)) in (
      room,
      next_answer levels c.args.begun.now.sk.now c.args.begun.now.start.now first job at out new below is inside
          c.put_answer.ensures.len c.put_answer.ensures.answer c.loop-job.invariant.1,
    )

pub returns : goal.returns
returns c =
    let last : c.loop-job.job ≡ c.args.end = search rules in
    all_written c.args.begun.now.levels.now c.args.begun.now.sk.now c.args.begun.now.start.now c.args.first c.args.end c.loop-job.job c.loop-job.out
    c.loop-job.invariant.0 last c.loop-job.invariant.1
