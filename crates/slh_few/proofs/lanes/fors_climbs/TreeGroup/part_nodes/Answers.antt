use Rattle.std.proofs.Common.{◌+◌, ◌*◌, ◌<◌, arith, refl}
use Rattle.slh_params.specs.ParamSet.{params}
use Rattle.slh_lanes.proofs.NodeLengths.{n_whole}
use Rattle.slh_few.specs.Fors.{fors_part_len}
use Rattle.slh_few.proofs.Ends.{chunk_fits}
use Rattle.slh_few.proofs.lanes.fors_climbs.TreeGroup.part_nodes.Goals as goal

pub chunk_at-own-requires : goal.chunk_at-own-requires
chunk_at-own-requires c =
    let tree = c.args.self.now.first.tree_no + c.loop-j.j in
    let p = params c.args.set in
    let lt : tree < p.k = omega (arith, c.requires.within.1) in
    rw c.fors_part_len-size.ensures.value (omega (arith, chunk_fits tree p.k (fors_part_len p) (p.k * fors_part_len p) lt refl, c.requires.sig))

pub set_lane-requires-clause-whole : goal.set_lane-requires-clause-whole
set_lane-requires-clause-whole c = rw (c.chunk_at.ensures.len, c.n-n.ensures) (n_whole c.args.set)
