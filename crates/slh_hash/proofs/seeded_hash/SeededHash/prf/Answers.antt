use Rattle.std.proofs.Common.{ap, ◌∙◌}
use Rattle.slh_params.specs.Params.{Params}
use Rattle.slh_hash.specs.Seeded.{IsSeeded}
use Rattle.slh_hash.proofs.seeded_hash.SeededHash.prf.Goals as goal

pub returns-clause-len : goal.returns-clause-len
unfolding IsSeeded
returns-clause-len c = λ p pk h. c.digest.ensures.len ∙ ap (λ (q : Params). q.n) h.0
