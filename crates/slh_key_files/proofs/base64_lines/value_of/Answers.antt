use Rattle.std.proofs.Common.{ap, ◌∙◌}
use Rattle.slh_key_files.proofs.Characters.{value_by_sums, value_is}
use Rattle.slh_key_files.proofs.base64_lines.value_of.Goals as goal

pub returns-clause-value : goal.returns-clause-value
returns-clause-value c v lt e =
    rw (c.from.ensures, c.from-2.ensures, c.from-3.ensures, c.from-4.ensures) (ap value_by_sums e ∙ value_is v lt)
