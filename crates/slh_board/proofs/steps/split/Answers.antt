use Rattle.std.proofs.Common.{arith}
use Rattle.slh_board.proofs.Allowed.{may_split}
use Rattle.slh_board.proofs.steps.split.Goals as goal

pub split_seat-requires : goal.split_seat-requires
split_seat-requires c = (c.requires.table.1, omega (arith, c.requires.table.0), may_split _ _ _ c.requires.fresh.0 c.requires.fresh.1)
