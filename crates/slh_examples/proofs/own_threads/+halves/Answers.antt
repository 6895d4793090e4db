-- Each half of the jobs has room for its answers in its part of the buffer, and the two together have all.
use Rattle.std.proofs.Common.{rules, arith, ◌≡◌, ◌+◌, ◌-◌, ◌/◌, ℕ, length, refl}
use Rattle.slh_jobs.specs.Jobs.{start_of}
use Rattle.slh_examples.specs.JobRanges.{IsRoomFor}
use Rattle.slh_examples.proofs.JobRanges.{start_grows, cut_inside, room_front, room_back, both_ranges}
use Rattle.slh_examples.proofs.own_threads.+halves.Goals as goal

pub answer_by_threads-overflow_sub-cut : goal.answer_by_threads-overflow_sub-cut
answer_by_threads-overflow_sub-cut g t c =
    let middle : ℕ = c.args.first + (c.args.end - c.args.first) / 2 in
    rw (c.answer_start-2.ensures, c.answer_start.ensures) (start_grows c.args.begun.now.levels.now c.args.first middle (omega arith))

pub answer_by_threads-split_at_mut-front-requires : goal.answer_by_threads-split_at_mut-front-requires
answer_by_threads-split_at_mut-front-requires g t c =
    let first = c.args.first in
    let middle : ℕ = first + (c.args.end - first) / 2 in
    let some = c.requires.some in
    rw (c.answer_start-2.ensures, c.answer_start.ensures)
    (cut_inside c.args.begun.now.levels.now first middle c.args.end c.args.out.now c.requires.room (omega arith) (omega (arith, some)))

pub answer_by_threads-answer_halves-requires-clause-front : goal.answer_by_threads-answer_halves-requires-clause-front
answer_by_threads-answer_halves-requires-clause-front g t c κs within =
    let levels = c.args.begun.now.levels.now in
    let first = c.args.first in
    let middle : ℕ = first + (c.args.end - first) / 2 in
    let some = c.requires.some in
    let cut : ℕ = c.answer_start.result - c.answer_start-2.result in
    let is : cut ≡ start_of levels middle - start_of levels first = rw (c.answer_start-2.ensures, c.answer_start.ensures) refl in
    room_front levels first middle c.args.end cut c.args.out.now c.split_at_mut-front.result.0.now
    c.requires.room (omega arith) (omega (arith, some)) is c.split_at_mut-front.ensures.front_len

pub answer_by_threads-answer_halves-requires-clause-back : goal.answer_by_threads-answer_halves-requires-clause-back
answer_by_threads-answer_halves-requires-clause-back g t c κs within =
    let levels = c.args.begun.now.levels.now in
    let first = c.args.first in
    let middle : ℕ = first + (c.args.end - first) / 2 in
    let some = c.requires.some in
    let cut : ℕ = c.answer_start.result - c.answer_start-2.result in
    let is : cut ≡ start_of levels middle - start_of levels first = rw (c.answer_start-2.ensures, c.answer_start.ensures) refl in
    room_back levels first middle c.args.end cut c.args.out.now c.split_at_mut-front.result.1.now
    c.requires.room (omega arith) (omega (arith, some)) is c.split_at_mut-front.ensures.back_len

pub answer_by_threads-returns : goal.answer_by_threads-returns
answer_by_threads-returns g t c =
    let levels = c.args.begun.now.levels.now in
    let first = c.args.first in
    let middle : ℕ = first + (c.args.end - first) / 2 in
    let some = c.requires.some in
    let cut : ℕ = c.answer_start.result - c.answer_start-2.result in
    let is : cut ≡ start_of levels middle - start_of levels first = rw (c.answer_start-2.ensures, c.answer_start.ensures) refl in
    let same : length c.answer_halves.new.front ≡ length c.split_at_mut-front.result.0.now = search rules in
    let len : length c.answer_halves.new.front ≡ cut = rw same c.split_at_mut-front.ensures.front_len in
    let room : IsRoomFor levels first middle c.answer_halves.new.front =
    room_front levels first middle c.args.end cut c.args.out.now c.answer_halves.new.front c.requires.room (omega arith) (omega (arith, some)) is len in
    both_ranges levels c.args.begun.now.sk.now c.args.begun.now.start.now first middle c.args.end _ c.answer_halves.new.front c.answer_halves.new.back
    (omega arith) room refl c.answer_halves.ensures.front c.answer_halves.ensures.back
