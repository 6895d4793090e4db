use Rattle.std.proofs.Common.{arith}
use Rattle.slh_board.proofs.Allowed.{may_raise}
use Rattle.slh_board.proofs.steps.raise.Goals as goal

pub fetch_or-requires : goal.fetch_or-requires
fetch_or-requires c = (c.requires.table.1, omega (arith, c.requires.table.0), may_raise _ _ _ _ c.requires.stands)
