use Rattle.std.proofs.Common.{◌∙◌, arith}
use Rattle.std.proofs.lemmas.List.{at_drop_all}
use Rattle.slh_c.specs.Rules.{first_refusal}
use Rattle.slh_c.proofs.Judged.{all_met}
use Rattle.slh_c.proofs.rules.judge.Goals as goal

pub returns-clause-met : goal.returns-clause-met
returns-clause-met c =
    all_met c.args.rules.now (c.loop-rule.invariant ∙ at_drop_all first_refusal c.args.rules.now c.loop-rule.rule-index (omega arith))
