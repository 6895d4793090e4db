-- The midstate is that of PK.seed.
use Rattle.std.proofs.Math.Logic.{∥∥₁_map}
use Rattle.slh_few.proofs.context.HashContext.t_stream.Goals as goal

pub returns : goal.returns
returns c = ∥∥₁_map c.args.self.now.join_state (λ h. c.stream.ensures _ _ h)
