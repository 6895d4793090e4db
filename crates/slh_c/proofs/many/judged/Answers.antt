-- Each verdict is that on what is made of the item in its place.
use Rattle.std.proofs.Common.{◌≡◌, length, get_or, arith}
use Rattle.slh_core.proofs.EightVerdicts.{at_each_of_eight}
use Rattle.slh_c.specs.Many.{IsJudged}
use Rattle.slh_c.proofs.VerdictsOfMany.{judged_at}
use Rattle.slh_c.proofs.many.judged.Goals as goal

pub returns : goal.returns
returns c = λ j valid x below.
    let ys = c.args.items.now in
    let s = c.args.set in
    let size : length ys ≡ 8 = c.told-items in
    let all = c.are_valid.result in
    let verdicts = c.are_valid.ensures in
    at_each_of_eight (λ j. IsJudged s (get_or ys j x) (get_or all j valid))
    (judged_at s ys 0 _ x c.in_ok-first.first (get_or all 0 valid) (omega (arith, size)) (verdicts 0 valid c.in_ok-first.first (omega arith)) c.in_ok-first.ensures)
    (judged_at s ys 1 _ x c.in_ok-second.second (get_or all 1 valid) (omega (arith, size)) (verdicts 1 valid c.in_ok-second.second (omega arith)) c.in_ok-second.ensures)
    (judged_at s ys 2 _ x c.in_ok-third.third (get_or all 2 valid) (omega (arith, size)) (verdicts 2 valid c.in_ok-third.third (omega arith)) c.in_ok-third.ensures)
    (judged_at s ys 3 _ x c.in_ok-fourth.fourth (get_or all 3 valid) (omega (arith, size)) (verdicts 3 valid c.in_ok-fourth.fourth (omega arith)) c.in_ok-fourth.ensures)
    (judged_at s ys 4 _ x c.in_ok-fifth.fifth (get_or all 4 valid) (omega (arith, size)) (verdicts 4 valid c.in_ok-fifth.fifth (omega arith)) c.in_ok-fifth.ensures)
    (judged_at s ys 5 _ x c.in_ok-sixth.sixth (get_or all 5 valid) (omega (arith, size)) (verdicts 5 valid c.in_ok-sixth.sixth (omega arith)) c.in_ok-sixth.ensures)
    (judged_at s ys 6 _ x c.in_ok-seventh.seventh (get_or all 6 valid) (omega (arith, size)) (verdicts 6 valid c.in_ok-seventh.seventh (omega arith)) c.in_ok-seventh.ensures)
    (judged_at s ys 7 _ x c.in_ok-eighth.eighth (get_or all 7 valid) (omega (arith, size)) (verdicts 7 valid c.in_ok-eighth.eighth (omega arith)) c.in_ok-eighth.ensures)
    j below
