use Rattle.slh_lanes.proofs.lane_stream.LaneStream.new.Goals as goal

pub returns : goal.returns
returns c = λ j lane a held. rw c.splat.ensures.set at (c.under.ensures j c.args.lanes.now.pk_seed.now a lane (c.splat.ensures.seeds j lane) held)
