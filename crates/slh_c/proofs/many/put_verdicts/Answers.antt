use Rattle.std.proofs.Common.{◌∙◌, arith}
use Rattle.slh_c.proofs.many.put_verdicts.Goals as goal

pub loop-at-preserved : goal.loop-at-preserved
loop-at-preserved c = record {
  within = c.put_next-at.ensures.inside;
  room = c.put_next-at.auto.verdicts ∙ c.loop-at.invariant.room;
  verdicts = c.put_next-at.ensures.verdicts c.loop-at.invariant.verdicts;
}

pub returns : goal.returns
returns c = λ j item verdict below. c.loop-at.invariant.verdicts j item verdict (omega (arith, below, c.loop-at-test.false))
