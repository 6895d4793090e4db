use Rattle.std.proofs.Common.{◌≡◌, ℕ, ◌<◌, ◌*◌, List, slice_index}
use Rattle.sha2.specs.Sha512.{rounds, schedule, word_at}
use Rattle.slh_lanes.specs.Columns.{column}
use Rattle.slh_lanes.specs.Pairs.{eight}
use Rattle.slh_lanes.specs.Sha2.{AreAt}
use Rattle.slh_lanes.proofs.single_long_block.InstructionsCompressionLongWord.compress.Given as goal

abbrev pub invariant-schedule : goal.invariant-schedule
invariant-schedule l = (b : List ℕ) → ((k : ℕ) → k < 16 → word_at b (8 * k) ≡ slice_index (column 0 l.block) k)
    → AreAt (schedule b 64) (column 0 l.w) (rounds (column 0 l.state) (schedule b 64)) (eight l.v.ab l.v.cd l.v.ef l.v.gh) (16 * l.turn)
