use Rattle.std.proofs.Common.{arith}
use Rattle.slh_board.proofs.Allowed.{may_draw}
use Rattle.slh_board.proofs.steps.draw.Goals as goal

pub fetch_add-next-requires : goal.fetch_add-next-requires
fetch_add-next-requires c = (c.requires.table.1, omega (arith, c.requires.table.0), may_draw _ _ _ _ c.requires.fresh.0 c.requires.fresh.1)
