use Rattle.std.proofs.Common.{string_bytes}
use Rattle.slh_tool.proofs.Sets.{more_lines, whole_lines}
use Rattle.slh_tool.proofs.set.set_lines.Goals as goal

pub loop-set-preserved : goal.loop-set-preserved
loop-set-preserved g c = rw (c.in_ok-push_str.ensures.bytes, c.as_str.ensures.value, c.in_ok-set_line.ensures, c.set-item.is)
    (more_lines c.args.sets.now c.loop-set.set-index _ (string_bytes c.loop-set.text) c.loop-set-test.true c.loop-set.invariant)

pub returns : goal.returns
returns g c = whole_lines _ _ _ c.loop-set-test.false c.loop-set.invariant
