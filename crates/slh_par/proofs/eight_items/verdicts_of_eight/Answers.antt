-- Each verdict is that on what is made of the item in its place.
use Rattle.std.proofs.Common.{◌≡◌, ◌↔◌, IsTrue, length, get_or, arith, rules}
use Rattle.slh_core.proofs.EightVerdicts.{at_each_of_eight, verdict_at}
use Rattle.slh_par.specs.Verdicts.{IsVerified}
use Rattle.slh_par.proofs.eight_items.verdicts_of_eight.Goals as goal

pub returns : goal.returns
returns c = λ j valid x below.
    let ys = c.args.items.now in
    let size : length ys ≡ 8 = search rules in
    let verdicts = c.verdicts_of_formatted.ensures in
    at_each_of_eight (λ j. IsTrue (get_or c.verdicts_of_formatted.result j valid) ↔ IsVerified (get_or ys j x))
    (verdict_at IsVerified ys 0 _ x (omega (arith, size)) (verdicts 0 valid c.of.result (omega arith)) c.of.ensures)
    (verdict_at IsVerified ys 1 _ x (omega (arith, size)) (verdicts 1 valid c.of-2.result (omega arith)) c.of-2.ensures)
    (verdict_at IsVerified ys 2 _ x (omega (arith, size)) (verdicts 2 valid c.of-3.result (omega arith)) c.of-3.ensures)
    (verdict_at IsVerified ys 3 _ x (omega (arith, size)) (verdicts 3 valid c.of-4.result (omega arith)) c.of-4.ensures)
    (verdict_at IsVerified ys 4 _ x (omega (arith, size)) (verdicts 4 valid c.of-5.result (omega arith)) c.of-5.ensures)
    (verdict_at IsVerified ys 5 _ x (omega (arith, size)) (verdicts 5 valid c.of-6.result (omega arith)) c.of-6.ensures)
    (verdict_at IsVerified ys 6 _ x (omega (arith, size)) (verdicts 6 valid c.of-7.result (omega arith)) c.of-7.ensures)
    (verdict_at IsVerified ys 7 _ x (omega (arith, size)) (verdicts 7 valid c.of-8.result (omega arith)) c.of-8.ensures)
    j below
