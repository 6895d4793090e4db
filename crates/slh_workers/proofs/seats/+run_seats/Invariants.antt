use Rattle.std.proofs.Common.{◌+◌, ◌*◌, length}
use Rattle.slh_workers.proofs.seats.+run_seats.Given as goal

abbrev pub decreases-run_seats-back : goal.decreases-run_seats-back
decreases-run_seats-back g l = 4 * length l.others.items + 1

abbrev pub decreases-run_seats-front : goal.decreases-run_seats-front
decreases-run_seats-front g l = 4 * length l.seats.items + 3

abbrev pub decreases-run_elsewhere-only : goal.decreases-run_elsewhere-only
decreases-run_elsewhere-only g l = 4 * length l.seats.items + 1

abbrev pub decreases-run_elsewhere : goal.decreases-run_elsewhere
decreases-run_elsewhere g l = 4 * length l.seats.items + 2

abbrev pub decreases-run_seats : goal.decreases-run_seats
decreases-run_seats g l = 4 * length l.seats.items
