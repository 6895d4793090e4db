use Rattle.slh_lanes.specs.LaneStreams.{HasAbsorbedAt}
use Rattle.slh_lanes.proofs.lane_stream.LaneStream.set.Goals as goal

pub returns : goal.returns
unfolding HasAbsorbedAt
returns c = λ p pk j a x held. held.0
