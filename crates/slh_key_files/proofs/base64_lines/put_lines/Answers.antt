use Rattle.std.proofs.Common.{arith}
use Rattle.slh_key_files.proofs.Cutting.{lines_step, lines_done}
use Rattle.slh_key_files.proofs.base64_lines.put_lines.Goals as goal

pub lines-preserved : goal.lines-preserved
lines-preserved c =
    lines_step c.args.chars.now c.lines.text c.put_line.new.text c.lines.i c.min-end.result (omega arith) (omega arith) c.lines-test.true c.min-end.ensures c.put_line.ensures c.lines.invariant

pub returns : goal.returns
returns c = lines_done c.args.chars.now c.lines.text c.lines.i (omega arith) (omega arith) c.lines.invariant
