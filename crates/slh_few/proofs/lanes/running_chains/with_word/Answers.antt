-- The lane that has the number j gets the word.
use Rattle.std.proofs.Common.{◌≡◌, ℕ, ◌<◌, List, [], ◌∷◌, length, cond, slice_index, refl, ap, ap₂, ◌∙◌}
use Rattle.std.proofs.Math.Dec.{eqb}
use Rattle.slh_lanes.proofs.Columns.{splat_lane}
use Rattle.slh_lanes.proofs.Lanes8.{below_eight}
use Rattle.slh_few.proofs.RunningChains.{chosen, chosen_lane, in_all}
use Rattle.slh_few.proofs.lanes.running_chains.with_word.Goals as goal
use borrow.Author.Tests.{eq-eqb, ne_eqb}

abbrev lanes : List ℕ
lanes = 0 ∷ 1 ∷ 2 ∷ 3 ∷ 4 ∷ 5 ∷ 6 ∷ 7 ∷ []

lane_is : (j : ℕ) → j < 8 → slice_index lanes j ≡ j
lane_is = below_eight (λ j. slice_index lanes j ≡ j) refl refl refl refl refl refl refl refl

-- each lane has the word where its number is j, and else that of the words
lane_of : (j word i : ℕ) (words : List ℕ) → length words ≡ 8 → i < 8
    → slice_index (chosen lanes (in_all j) (in_all word) words) i ≡ cond (eqb i j) word (slice_index words i)
lane_of j word i words long lane =
    chosen_lane lanes (in_all j) (in_all word) words refl refl refl long i lane
    ∙ ap₂ (λ a b. cond (eqb a b) (slice_index (in_all word) i) (slice_index words i)) (lane_is i lane) (splat_lane j i lane)
    ∙ ap (λ x. cond (eqb i j) x (slice_index words i)) (splat_lane word i lane)

pub returns-clause-set : goal.returns-clause-set
returns-clause-set c =
    let j : ℕ = c.args.j in
    lane_of j c.args.word j c.args.words c.fits-words.0 c.requires
    ∙ ap (λ t. cond t c.args.word (slice_index c.args.words j)) (eq-eqb j j refl)

pub returns-clause-others : goal.returns-clause-others
returns-clause-others c = λ i lane other.
    lane_of c.args.j c.args.word i c.args.words c.fits-words.0 lane
    ∙ ap (λ t. cond t c.args.word (slice_index c.args.words i)) (ne_eqb i c.args.j other)
