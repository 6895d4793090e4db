use Rattle.std.proofs.Common.{◌∙◌, arith}
use Rattle.slh_io.proofs.Parts.{more_put, rest_length}
use Rattle.slh_io.proofs.sink.put_all.Goals as goal

pub loop-at-preserved : goal.loop-at-preserved
loop-at-preserved g c =
    let old = c.loop-at.invariant in
    let step = c.in_ok-at.ensures in
    let rest = rest_length c.args.bytes.now c.loop-at.at in
    record {
      within = omega (arith, rest, step.count, old.within);
      done = more_put _ _ _ c.args.bytes.now c.loop-at.at c.in_ok-at.field-0 old.done step.bytes;
      calm = step.failed ∙ old.calm;
    }
