use Rattle.std.proofs.Common.{◌∙◌, ◌≡◌, ◌-◌, length, arith}
use Rattle.slh_io.proofs.Parts.{more_taken, part_within, rest_length}
use Rattle.slh_io.proofs.source.take_up_to.Goals as goal

pub loop-at-preserved : goal.loop-at-preserved
loop-at-preserved g c =
    let old = c.loop-at.invariant in
    let step = c.in_ok-n.ensures in
    let room = c.loop-at.room in
    let same : length c.take.new.out ≡ length room - c.loop-at.at = omega (arith, rest_length room c.loop-at.at, c.take.auto.out) in
    record {
      within = part_within c.loop-at.at _ c.in_ok-n.n room c.take.new.out old.within same (omega (arith, same, step.count));
      done = more_taken _ _ _ room c.take.new.out c.loop-at.at _ c.in_ok-n.n old.within same (omega (arith, same, step.count)) old.done step.bytes.0;
      calm = step.failed ∙ old.calm;
    }
