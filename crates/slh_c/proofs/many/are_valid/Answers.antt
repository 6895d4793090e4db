-- Each verdict is that on what is made of the item in its place.
use Rattle.std.proofs.Common.{◌≡◌, ◌↔◌, IsTrue, length, get_or, arith, rules}
use Rattle.slh_core.proofs.EightVerdicts.{at_each_of_eight, verdict_at}
use Rattle.slh_c.specs.Many.{IsPreparedValid}
use Rattle.slh_c.proofs.many.are_valid.Goals as goal

pub returns : goal.returns
returns c = λ j valid x below.
    let ys = c.args.all.now in
    let size : length ys ≡ 8 = search rules in
    let verdicts = c.verify_eight.ensures in
    at_each_of_eight (λ j. IsTrue (get_or c.verify_eight.result j valid) ↔ IsPreparedValid (get_or ys j x))
    (verdict_at IsPreparedValid ys 0 _ x (omega (arith, size)) (verdicts 0 valid c.parts.result (omega arith)) c.parts.ensures)
    (verdict_at IsPreparedValid ys 1 _ x (omega (arith, size)) (verdicts 1 valid c.parts-2.result (omega arith)) c.parts-2.ensures)
    (verdict_at IsPreparedValid ys 2 _ x (omega (arith, size)) (verdicts 2 valid c.parts-3.result (omega arith)) c.parts-3.ensures)
    (verdict_at IsPreparedValid ys 3 _ x (omega (arith, size)) (verdicts 3 valid c.parts-4.result (omega arith)) c.parts-4.ensures)
    (verdict_at IsPreparedValid ys 4 _ x (omega (arith, size)) (verdicts 4 valid c.parts-5.result (omega arith)) c.parts-5.ensures)
    (verdict_at IsPreparedValid ys 5 _ x (omega (arith, size)) (verdicts 5 valid c.parts-6.result (omega arith)) c.parts-6.ensures)
    (verdict_at IsPreparedValid ys 6 _ x (omega (arith, size)) (verdicts 6 valid c.parts-7.result (omega arith)) c.parts-7.ensures)
    (verdict_at IsPreparedValid ys 7 _ x (omega (arith, size)) (verdicts 7 valid c.parts-8.result (omega arith)) c.parts-8.ensures)
    j below
