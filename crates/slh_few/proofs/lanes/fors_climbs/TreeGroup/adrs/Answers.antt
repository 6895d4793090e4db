use Rattle.std.proofs.Common.{subst}
use Rattle.slh_lanes.specs.Lanes.{HasAddress}
use Rattle.slh_few.proofs.lanes.fors_climbs.TreeGroup.adrs.Goals as goal

pub returns : goal.returns
returns c = λ j lane.
    subst (HasAddress c.set_hashes.new.adrs j) (λ i. record (c.fors_adrs-adrs.ensures i) { hash = c.indices_over.ensures j lane i })
    (c.set_hashes.ensures j lane _ (c.adrs_lanes-lanes.ensures j lane))
