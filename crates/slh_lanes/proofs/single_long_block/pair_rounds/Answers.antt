use Rattle.std.proofs.Common.{ℕ, ◌+◌, slice_index, arith, ◌∙◌}
use Rattle.sha2.specs.Sha512.{round_constants}
use Rattle.slh_lanes.specs.Pairs.{eight}
use Rattle.slh_lanes.proofs.Pairs.{rounds_two}
use Rattle.slh_lanes.proofs.single_long_block.pair_rounds.Goals as goal

pub returns : goal.returns
returns c =
    let v = c.args.v in
    let t : ℕ = c.args.t in
    c.two_rounds.ensures
    ∙ rounds_two (eight v.ab v.cd v.ef v.gh) c.sum.result (slice_index round_constants t) (slice_index round_constants (t + 1))
    (slice_index c.args.words 0) (slice_index c.args.words 1) (c.sum.ensures 0 (omega arith)) (c.sum.ensures 1 (omega arith))
