use Rattle.std.proofs.Common.{rules}
use Rattle.std.proofs.Math.Logic.{∥∥₁_elim}
use Rattle.std.proofs.Props.{props}
use Rattle.slh_few.proofs.context.HashContext.lanes.Goals as goal

pub returns-in-Four : goal.returns-in-Four
returns-in-Four c = ∥∥₁_elim c.args.self.now.lane_state (hlevel props) (λ h. search rules)
