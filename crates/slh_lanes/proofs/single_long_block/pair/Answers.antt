use Rattle.std.proofs.Common.{◌+◌, ◌%◌, sym}
use Rattle.slh_lanes.proofs.Columns.{column_at}
use Rattle.slh_lanes.proofs.single_long_block.pair.Goals as goal

pub returns-clause-first : goal.returns-clause-first
returns-clause-first c = sym (column_at 0 c.args.words.now (c.args.k % 16))

pub returns-clause-second : goal.returns-clause-second
returns-clause-second c = sym (column_at 0 c.args.words.now ((c.args.k + 1) % 16))
