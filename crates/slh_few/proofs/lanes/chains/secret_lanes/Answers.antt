use Rattle.std.proofs.Common.{arith}
use Rattle.slh_few.specs.Wots.{secret}
use Rattle.slh_few.proofs.lanes.chains.secret_lanes.Goals as goal

pub returns : goal.returns
unfolding secret
returns c = λ j lane. c.prf.ensures 0 j (omega arith) lane _ (c.chain_adrs.ensures j lane)
