use Rattle.std.proofs.lemmas.Simd.{get_or-replicate}
use Rattle.slh_lanes.proofs.short_lanes.splat_lanes.Goals as goal

pub returns : goal.returns
returns g c j lane = get_or-replicate g.row.N j c.args.word 0 lane
