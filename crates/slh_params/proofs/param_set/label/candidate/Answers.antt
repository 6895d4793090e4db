use Rattle.std.proofs.Common.{◌∙◌}
use Rattle.slh_params.proofs.Reading.{label_numbers, label_name}
use Rattle.slh_params.proofs.param_set.label.candidate.Goals as goal

pub returns-in-Some : goal.returns-in-Some
returns-in-Some c = λ set e.
    c.listed_set.ensures set (c.in-Some.ensures.cases.1 ∙ label_numbers set c.args.text.now e c.in-Some.ensures.cases.0)

pub returns-in-None : goal.returns-in-None
returns-in-None c = λ set e.
    let found = label_name set c.args.text.now e c.in-None.ensures.cases in
    c.standard_set.ensures set found.0 found.1
