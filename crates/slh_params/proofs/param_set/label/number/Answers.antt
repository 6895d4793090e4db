-- A number that stands at the front is read whole.
use Rattle.std.proofs.Common.{◌≡◌, ◌∙◌, true, false, IsTrue, sym}
use Rattle.slh_params.proofs.Reading.{digit_at_front, read_one, read_two}
use Rattle.slh_params.proofs.param_set.label.number.Goals as goal

pub returns-then-not-has_digit : goal.returns-then-not-has_digit
returns-then-not-has_digit c = λ m rest front.
    let here : IsTrue c.has_digit.result = c.has_digit.ensures.1 (digit_at_front c.args.text.now rest m front) in
    absurd (let e : false ≡ true = sym c.if-not-has_digit.true ∙ here in cc)

pub returns-then-not-has_digit-2 : goal.returns-then-not-has_digit-2
returns-then-not-has_digit-2 c = λ m rest front.
    read_one c.args.text.now rest m front (λ digit.
    let e : false ≡ true = sym c.if-not-has_digit-2.true ∙ c.has_digit-else-not-has_digit.ensures.1 digit in cc)

pub returns-else-not-has_digit-2 : goal.returns-else-not-has_digit-2
returns-else-not-has_digit-2 c = λ m rest front. read_two c.args.text.now rest m front (c.has_digit-else-not-has_digit.ensures.0 c.if-not-has_digit-2.false).1
