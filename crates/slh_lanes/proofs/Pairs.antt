-- Two rounds of SHA-512 with the sums of constants and words are rounds with these.
use Rattle.std.proofs.Common.{◌≡◌, ℕ, List, [], ◌∷◌, slice_index, ap, ap₂, ◌∙◌, arith}
use Rattle.std.specs.Int.{w64}
use Rattle.sha2.specs.Sha512.{big_sigma0, big_sigma1}
use Rattle.slh_lanes.specs.Pairs.{sum_round, two_rounds}
use Rattle.slh_lanes.specs.Sha2.{ch, plus, round, temp2}

-- the constant may be added to the word before
sum_late : (p k w : ℕ) → plus w64 (plus w64 p 0) (plus w64 w k) ≡ plus w64 (plus w64 p k) w
sum_late p k w = omega arith

-- a round with this T 1
abbrev round_of : List ℕ → ℕ → List ℕ
round_of v t =
    plus w64 t (temp2 w64 big_sigma0 v) ∷ slice_index v 0 ∷ slice_index v 1 ∷ slice_index v 2
    ∷ plus w64 (slice_index v 3) t ∷ slice_index v 4 ∷ slice_index v 5 ∷ slice_index v 6 ∷ []

round_sum : (v : List ℕ) (k w : ℕ) → sum_round v (plus w64 w k) ≡ round w64 big_sigma0 big_sigma1 v k w
round_sum v k w =
    ap (round_of v)
    (sum_late
    (plus w64 (plus w64 (slice_index v 7) (big_sigma1 (slice_index v 4))) (ch w64 (slice_index v 4) (slice_index v 5) (slice_index v 6)))
    k w)

pub rounds_two : (v x : List ℕ) (k0 k1 w0 w1 : ℕ) → slice_index x 0 ≡ plus w64 w0 k0 → slice_index x 1 ≡ plus w64 w1 k1
    → two_rounds v x ≡ round w64 big_sigma0 big_sigma1 (round w64 big_sigma0 big_sigma1 v k0 w0) k1 w1
rounds_two v x k0 k1 w0 w1 e0 e1 =
    let first : sum_round v (slice_index x 0) ≡ round w64 big_sigma0 big_sigma1 v k0 w0 = ap (sum_round v) e0 ∙ round_sum v k0 w0 in
    ap₂ sum_round first e1 ∙ round_sum (round w64 big_sigma0 big_sigma1 v k0 w0) k1 w1
