-- The eight items are the whole batch.
use Rattle.std.proofs.Common.{◌≡◌, length, arith, rules}
use Rattle.slh_par.proofs.verifying.ValidityBatchQuestionVerifyItem.answers.Goals as goal

pub returns-in_ok-from_array-in-Some : goal.returns-in_ok-from_array-in-Some
returns-in_ok-from_array-in-Some g c =
    let verdicts = c.verdicts_of_eight.result in
    let chunk = c.in-Some.ensures.cases in
    let made : c.in_ok-from_array-in-Some.field-0.items ≡ verdicts = search rules in
    let eight : length verdicts ≡ 8 = search rules in
    record {
      len = rw made (omega (arith, eight, chunk.long));
      each = λ i item answer h. rw (made, ← chunk.same) (c.verdicts_of_eight.ensures i answer item (omega (arith, h, chunk.long)));
    }
