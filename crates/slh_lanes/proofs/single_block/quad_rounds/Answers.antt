use Rattle.std.proofs.Common.{◌≡◌, ℕ, ◌+◌, ◌<◌, List, [], ◌∷◌, slice_index, ap₂, ◌∙◌, refl, ap, arith}
use Rattle.sha2.specs.Sha256.{add32, round_constants}
use Rattle.slh_lanes.specs.Quads.{eight}
use Rattle.slh_lanes.proofs.Quads.{below_four, rounds_four}
use Rattle.slh_lanes.proofs.single_block.quad_rounds.Goals as goal

abbrev four_constants : ℕ → List ℕ
four_constants t =
    slice_index round_constants t ∷ slice_index round_constants (t + 1) ∷ slice_index round_constants (t + 2)
    ∷ slice_index round_constants (t + 3) ∷ []

constants : (t j : ℕ) → j < 4 → slice_index (four_constants t) j ≡ slice_index round_constants (t + j)
constants t =
    let z : t ≡ t + 0 = omega arith in
    below_four (λ j. slice_index (four_constants t) j ≡ slice_index round_constants (t + j))
    (ap (λ (k : ℕ). slice_index round_constants k) z) refl refl refl

pub returns : goal.returns
returns c = λ ws h at held.
    c.four_rounds.ensures
    ∙ rounds_four h ws (eight c.args.v.abcd c.args.v.efgh) c.sum.result c.args.t held
    (λ j lt. c.sum.ensures j lt ∙ ap₂ add32 (at j lt) (constants c.args.t j lt))
