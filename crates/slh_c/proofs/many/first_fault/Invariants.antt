use Rattle.std.proofs.Common.{◌≡◌, drop}
use Rattle.slh_c.specs.Many.{first_fault}
use Rattle.slh_c.proofs.many.first_fault.Given as goal

abbrev pub invariant-loop-verdict : goal.invariant-loop-verdict
invariant-loop-verdict l = first_fault l.verdicts ≡ first_fault (drop l.verdict-index l.verdicts)
