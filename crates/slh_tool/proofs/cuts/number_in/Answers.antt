use Rattle.std.proofs.Common.{◌∙◌, arith, sym}
use Rattle.slh_tool.proofs.CutLists.{not_digits, number_read, too_long}
use Rattle.slh_tool.proofs.cuts.number_in.Goals as goal

pub returns-then-text-gt-MOST_DIGITS : goal.returns-then-text-gt-MOST_DIGITS
returns-then-text-gt-MOST_DIGITS c = too_long c.args.text.now (omega (arith, c.if-text-gt-MOST_DIGITS.true))

pub returns-then-are_digits : goal.returns-then-are_digits
returns-then-are_digits c = c.ok.ensures.value ∙ number_read c.args.text.now c.parse.result c.parse.ensures.value.0 (omega (arith, c.if-text-gt-MOST_DIGITS.false))
    (sym c.are_digits.ensures ∙ c.if-are_digits.true)

pub returns-else-are_digits : goal.returns-else-are_digits
returns-else-are_digits c = not_digits c.args.text.now (sym c.are_digits.ensures ∙ c.if-are_digits.false)
