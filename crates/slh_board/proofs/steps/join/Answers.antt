use Rattle.std.proofs.Common.{arith}
use Rattle.slh_board.proofs.Allowed.{may_join}
use Rattle.slh_board.proofs.steps.join.Goals as goal

pub join_seat-requires : goal.join_seat-requires
join_seat-requires c = (c.requires.table.1, c.requires.table.2, c.requires.holds_none, omega (arith, c.requires.table.0), may_join _ _ _ _ _ c.requires.stand.0 c.requires.stand.1)
