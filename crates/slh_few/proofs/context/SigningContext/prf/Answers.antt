use Rattle.std.proofs.Math.Logic.{∥∥₁_elim}
use Rattle.std.proofs.Props.{props}
use Rattle.slh_few.proofs.context.SigningContext.prf.Goals as goal

pub returns-clause-value : goal.returns-clause-value
returns-clause-value c = ∥∥₁_elim c.args.self.now.public.leaf_state (hlevel props) (λ h. c.prf.ensures.value _ _ h)

pub returns-clause-len : goal.returns-clause-len
returns-clause-len c = ∥∥₁_elim c.args.self.now.public.leaf_state (hlevel props) (λ h. c.prf.ensures.len _ _ h)
