use Rattle.std.proofs.Common.{ap, sym, ◌∙◌}
use Rattle.slh_params.specs.ParamSet.{set_named}
use Rattle.slh_params.proofs.Names.{set_named-name}
use Rattle.slh_params.proofs.Reading.{utf8_name}
use Rattle.slh_params.proofs.param_set.label.standard_set.Goals as goal

pub returns-in-Ok : goal.returns-in-Ok
returns-in-Ok c = λ set standard named.
    c.from_name.ensures.named ∙ ap set_named (c.in-Ok.ensures.cases.0 ∙ sym named) ∙ set_named-name set standard

pub returns-in-Err : goal.returns-in-Err
returns-in-Err c = λ set standard named. absurd (c.in-Err.ensures.cases.0 (rw named at (utf8_name set standard)))
