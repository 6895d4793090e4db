use Rattle.std.proofs.Common.{◌≡◌, ℕ, ◌+◌, ◌<◌, [], ◌∷◌, slice_index, arith, refl, ap₂, ◌∙◌}
use Rattle.sha2.specs.Sha256.{add32}
use Rattle.slh_lanes.proofs.Columns.{splat_lane}
use Rattle.slh_lanes.proofs.Lanes8.{below_eight}
use Rattle.slh_lanes.proofs.words.consecutive.Goals as goal

lane_is : (j : ℕ) → j < 8 → slice_index (0 ∷ 1 ∷ 2 ∷ 3 ∷ 4 ∷ 5 ∷ 6 ∷ 7 ∷ []) j ≡ j
lane_is = below_eight (λ j. slice_index (0 ∷ 1 ∷ 2 ∷ 3 ∷ 4 ∷ 5 ∷ 6 ∷ 7 ∷ []) j ≡ j) refl refl refl refl refl refl refl refl

pub returns : goal.returns
returns c j lane =
    let whole : add32 c.args.first j ≡ c.args.first + j = omega arith in
    c.add.ensures j lane ∙ ap₂ add32 (splat_lane c.args.first j lane) (lane_is j lane) ∙ whole
