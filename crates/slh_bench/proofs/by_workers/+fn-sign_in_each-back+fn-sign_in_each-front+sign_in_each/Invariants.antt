use Rattle.std.proofs.Common.{◌+◌, ◌*◌}
use Rattle.slh_bench.proofs.by_workers.+fn-sign_in_each-back+fn-sign_in_each-front+sign_in_each.Given as goal

abbrev pub decreases-back : goal.decreases-back
decreases-back g l = 2 * l.rest + 1

abbrev pub decreases-front : goal.decreases-front
decreases-front g l = 2 * l.half + 1

abbrev pub decreases-sign_in_each : goal.decreases-sign_in_each
decreases-sign_in_each g l = 2 * l.threads
