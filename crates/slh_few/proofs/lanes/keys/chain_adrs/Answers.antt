use Rattle.std.proofs.Common.{subst}
use Rattle.slh_lanes.specs.Lanes.{HasAddress}
use Rattle.slh_few.proofs.lanes.keys.chain_adrs.Goals as goal

pub returns : goal.returns
returns c = λ j lane.
    subst (HasAddress c.set_pairs.new.adrs j) (λ i. record (c.wots_adrs.ensures i) { key_pair = c.consecutive.ensures j lane i })
    (c.set_pairs.ensures j lane _ (c.adrs_lanes-adrs.ensures j lane))
