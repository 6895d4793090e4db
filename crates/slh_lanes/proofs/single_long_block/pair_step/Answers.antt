use Rattle.std.proofs.Common.{◌≡◌, ℕ, ◌+◌, ◌*◌, ◌%◌, List, [], ◌∷◌, slice_index, slice_set, refl, ap, ◌∙◌, arith}
use Rattle.std.specs.Int.{w64}
use Rattle.sha2.specs.Sha512.{rounds, round_constants, schedule, small_sigma0, small_sigma1}
use Rattle.slh_lanes.specs.Columns.{column}
use Rattle.slh_lanes.specs.Laws512 as laws
use Rattle.slh_lanes.specs.Pairs.{eight}
use Rattle.slh_lanes.proofs.Columns.{column_set}
use Rattle.slh_lanes.proofs.WindowPlace.{at_same, window_word_place}
use Rattle.slh_lanes.proofs.single_long_block.pair_step.Goals as goal

pub returns : goal.returns
returns c = λ b h held.
    let turn : ℕ = c.args.turn in
    let place : ℕ = c.args.place in
    let t : ℕ = 16 * turn + place in
    let v = c.args.v in
    let w : List ℕ = column 0 c.args.w.now in
    let x = c.next_words-next.result in
    let w1 : List ℕ = slice_set w place (slice_index x 0) in
    let at0 : t % 16 ≡ place = omega arith in
    let at1 : (t + 1) % 16 ≡ place + 1 = omega arith in
    let word = window_word_place w64 small_sigma0 small_sigma1 in
    let r1 = laws.next_rounds b h w (eight v.ab v.cd v.ef v.gh) t (slice_index round_constants t) (slice_index x 0) w1 _ (omega arith) (omega arith) held.0 held.1
    (c.next_words-next.ensures.first ∙ word w turn place) (rw at0 refl) refl refl in
    let ring = c.args.w.now in
    let put = column_set 0 (slice_set ring place (slice_index x 0 ∷ [])) (place + 1) (slice_index x 1 ∷ [])
    ∙ ap (λ (l : List ℕ). slice_set l (place + 1) (slice_index x 1)) (column_set 0 ring place (slice_index x 0 ∷ [])) in
    let next : 16 * turn + (place + 1) ≡ t + 1 = omega arith in
    let r2 = laws.next_rounds b h w1 _ (t + 1) (slice_index round_constants (t + 1)) (slice_index x 1) _ _ (omega arith) (omega arith) r1.0 r1.1
    (c.next_words-next.ensures.second ∙ rw (← next) (word w1 turn (place + 1))) (rw at1 put) refl c.pair_rounds.ensures in
    at_same _ _ (rounds h (schedule b 64)) _ (t + 1 + 1) _ (omega arith) r2
