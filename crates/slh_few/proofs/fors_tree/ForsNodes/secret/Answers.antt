use Rattle.slh_few.specs.Fors.{fors_secret}
use Rattle.slh_few.proofs.fors_tree.ForsNodes.secret.Goals as goal

pub returns-clause-value : goal.returns-clause-value
unfolding fors_secret
returns-clause-value c = rw (c.adrs-adrs.ensures, c.a-depth.ensures) at c.prf.ensures.value
