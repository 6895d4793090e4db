use Rattle.std.proofs.Common.{arith}
use Rattle.slh_board.proofs.Allowed.{may_look}
use Rattle.slh_board.proofs.steps.is_halted.Goals as goal

pub load-requires : goal.load-requires
load-requires c = (c.requires.table.1, omega (arith, c.requires.table.0), may_look _ _ _ _ c.requires.stands)
