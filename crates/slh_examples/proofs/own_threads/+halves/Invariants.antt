use Rattle.std.proofs.Common.{◌+◌, ◌-◌, ◌*◌}
use Rattle.slh_examples.proofs.own_threads.+halves.Given as goal

abbrev pub decreases-answer_by_threads : goal.decreases-answer_by_threads
decreases-answer_by_threads g l = 4 * (l.end - l.first)

abbrev pub decreases-answer_halves : goal.decreases-answer_halves
decreases-answer_halves g l = 4 * (l.end - l.first) - 1

abbrev pub decreases-answer_halves-first_half : goal.decreases-answer_halves-first_half
decreases-answer_halves-first_half g l = 4 * (l.middle - l.first) + 1

abbrev pub decreases-answer_halves-second_half : goal.decreases-answer_halves-second_half
decreases-answer_halves-second_half g l = 4 * (l.end - l.middle) + 1
