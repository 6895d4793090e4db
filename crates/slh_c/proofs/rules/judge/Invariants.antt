use Rattle.std.proofs.Common.{◌≡◌, drop}
use Rattle.slh_c.specs.Rules.{first_refusal}
use Rattle.slh_c.proofs.rules.judge.Given as goal

abbrev pub invariant-loop-rule : goal.invariant-loop-rule
invariant-loop-rule l = first_refusal l.rules ≡ first_refusal (drop l.rule-index l.rules)
