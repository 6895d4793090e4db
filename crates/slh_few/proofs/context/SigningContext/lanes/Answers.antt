use Rattle.std.proofs.Common.{rules}
use Rattle.std.proofs.Math.Logic.{∥∥₁_elim}
use Rattle.std.proofs.Props.{props}
use Rattle.slh_few.proofs.context.SigningContext.lanes.Goals as goal

pub returns-clause-set : goal.returns-clause-set
returns-clause-set c = ∥∥₁_elim c.args.self.now.public.lane_state (hlevel props) (λ h. search rules)

pub returns-clause-pk_seed : goal.returns-clause-pk_seed
returns-clause-pk_seed c = ∥∥₁_elim c.args.self.now.public.lane_state (hlevel props) (λ h. search rules)
