-- Four rounds, and four words of the schedule, from the definitions of one.
use Rattle.std.proofs.Common.{◌≡◌, ℕ, zero, suc, ◌+◌, ◌-◌, ◌<◌, ◌≤◌, List, [], ◌∷◌, slice_index, sym, ap, ◌∙◌, arith}
use Rattle.sha2.specs.Sha256.{add32, big_sigma1, ch, round, round_constants, rounds, schedule, temp2}
use Rattle.sha2.proofs.Schedule256.{rounds_next, slice_index-schedule_first, slice_index-schedule_next}
use Rattle.slh_lanes.specs.Quads.{four_rounds, next_words, sum_round, word_after, HasQuad, IsQuadAt}

-- what holds of place 0 alone
pub below_one : (P : ℕ → Type 0) → P 0 → (j : ℕ) → j < 1 → P j
below_one P p0 zero h = p0
below_one P p0 (suc j) h = absurd (omega arith)

-- what holds of each of four places
pub below_four : (P : ℕ → Type 0) → P 0 → P 1 → P 2 → P 3 → (j : ℕ) → j < 4 → P j
below_four P p0 p1 p2 p3 zero h = p0
below_four P p0 p1 p2 p3 (suc zero) h = p1
below_four P p0 p1 p2 p3 (suc (suc zero)) h = p2
below_four P p0 p1 p2 p3 (suc (suc (suc zero))) h = p3
below_four P p0 p1 p2 p3 (suc (suc (suc (suc j)))) h = absurd (omega arith)

-- the constant may be added to the word before
sum_late : (p k w : ℕ) → add32 (add32 p 0) (add32 w k) ≡ add32 (add32 p k) w
sum_late p k w = omega arith

-- a round with this T 1
abbrev round_of : List ℕ → ℕ → List ℕ
round_of v t =
    add32 t (temp2 v) ∷ slice_index v 0 ∷ slice_index v 1 ∷ slice_index v 2
    ∷ add32 (slice_index v 3) t ∷ slice_index v 4 ∷ slice_index v 5 ∷ slice_index v 6 ∷ []

round_sum : (v : List ℕ) (k w : ℕ) → sum_round v (add32 w k) ≡ round v k w
round_sum v k w =
    ap (round_of v)
    (sum_late
    (add32 (add32 (slice_index v 7) (big_sigma1 (slice_index v 4))) (ch (slice_index v 4) (slice_index v 5) (slice_index v 6)))
    k w)

rounds_one : (h ws u : List ℕ) (n m y : ℕ) → m ≡ n + 1 → u ≡ rounds h ws n
    → y ≡ add32 (slice_index ws n) (slice_index round_constants n) → sum_round u y ≡ rounds h ws m
rounds_one h ws u n m y em eu ey =
    rw (em, rounds_next h ws n, eu, ey) (round_sum (rounds h ws n) (slice_index round_constants n) (slice_index ws n))

pub rounds_four : (h ws v x : List ℕ) (t : ℕ) → v ≡ rounds h ws t
    → ((j : ℕ) → j < 4 → slice_index x j ≡ add32 (slice_index ws (t + j)) (slice_index round_constants (t + j)))
    → four_rounds v x ≡ rounds h ws (t + 4)
rounds_four h ws v x t e xs =
    let z : t ≡ t + 0 = omega arith in
    let r1 = rounds_one h ws v (t + 0) (t + 1) (slice_index x 0) (omega arith) (e ∙ ap (λ (k : ℕ). rounds h ws k) z) (xs 0 (omega arith)) in
    let v1 = sum_round v (slice_index x 0) in
    let r2 = rounds_one h ws v1 (t + 1) (t + 2) (slice_index x 1) (omega arith) r1 (xs 1 (omega arith)) in
    let v2 = sum_round v1 (slice_index x 1) in
    let r3 = rounds_one h ws v2 (t + 2) (t + 3) (slice_index x 2) (omega arith) r2 (xs 2 (omega arith)) in
    let v3 = sum_round v2 (slice_index x 2) in
    rounds_one h ws v3 (t + 3) (t + 4) (slice_index x 3) (omega arith) r3 (xs 3 (omega arith))

next_at : (b : List ℕ) (t p q r s : ℕ) → 16 ≤ t → t < 64 → p ≡ slice_index (schedule b 48) (t - 2)
    → q ≡ slice_index (schedule b 48) (t - 7) → r ≡ slice_index (schedule b 48) (t - 15)
    → s ≡ slice_index (schedule b 48) (t - 16) → word_after p q r s ≡ slice_index (schedule b 48) t
next_at b t p q r s lo hi ep eq er es = rw (ep, eq, er, es) (sym (slice_index-schedule_next b 48 t lo (omega arith)))

at : (ws : List ℕ) (i k x : ℕ) → x ≡ slice_index ws i → i ≡ k → x ≡ slice_index ws k
at ws i k x f e = f ∙ ap (λ (n : ℕ). slice_index ws n) e

quad_next : (b w0 w1 w2 w3 : List ℕ) (t : ℕ) → t + 20 ≤ 64 → IsQuadAt (schedule b 48) w0 t
    → IsQuadAt (schedule b 48) w1 (t + 4) → IsQuadAt (schedule b 48) w2 (t + 8) → IsQuadAt (schedule b 48) w3 (t + 12)
    → IsQuadAt (schedule b 48) (next_words w0 w1 w2 w3) (t + 16)
quad_next b w0 w1 w2 w3 t hi h0 h1 h2 h3 =
    let ws : List ℕ = schedule b 48 in
    let x0 = next_at b (t + 16 + 0) _ _ _ _ (omega arith) (omega arith)
    (at ws _ _ _ (h3 2 (omega arith)) (omega arith)) (at ws _ _ _ (h2 1 (omega arith)) (omega arith))
    (at ws _ _ _ (h0 1 (omega arith)) (omega arith)) (at ws _ _ _ (h0 0 (omega arith)) (omega arith)) in
    let x1 = next_at b (t + 16 + 1) _ _ _ _ (omega arith) (omega arith)
    (at ws _ _ _ (h3 3 (omega arith)) (omega arith)) (at ws _ _ _ (h2 2 (omega arith)) (omega arith))
    (at ws _ _ _ (h0 2 (omega arith)) (omega arith)) (at ws _ _ _ (h0 1 (omega arith)) (omega arith)) in
    let x2 = next_at b (t + 16 + 2) _ _ _ _ (omega arith) (omega arith)
    (at ws _ _ _ x0 (omega arith)) (at ws _ _ _ (h2 3 (omega arith)) (omega arith))
    (at ws _ _ _ (h0 3 (omega arith)) (omega arith)) (at ws _ _ _ (h0 2 (omega arith)) (omega arith)) in
    let x3 = next_at b (t + 16 + 3) _ _ _ _ (omega arith) (omega arith)
    (at ws _ _ _ x1 (omega arith)) (at ws _ _ _ (h3 0 (omega arith)) (omega arith))
    (at ws _ _ _ (h1 0 (omega arith)) (omega arith)) (at ws _ _ _ (h0 3 (omega arith)) (omega arith)) in
    below_four (λ j. slice_index (next_words w0 w1 w2 w3) j ≡ slice_index ws (t + 16 + j)) x0 x1 x2 x3

pub quad_after : (b w0 w1 w2 w3 next : List ℕ) (t : ℕ) → t + 20 ≤ 64 → next ≡ next_words w0 w1 w2 w3 → IsQuadAt (schedule b 48) w0 t
    → IsQuadAt (schedule b 48) w1 (t + 4) → IsQuadAt (schedule b 48) w2 (t + 8) → IsQuadAt (schedule b 48) w3 (t + 12)
    → IsQuadAt (schedule b 48) next (t + 16)
quad_after b w0 w1 w2 w3 next t hi e h0 h1 h2 h3 = λ j lt. ap (λ (l : List ℕ). slice_index l j) e ∙ quad_next b w0 w1 w2 w3 t hi h0 h1 h2 h3 j lt

-- after the rounds below t + 16 the quads are the sixteen words before
abbrev pub IsTurn : List ℕ → List ℕ → List ℕ → List ℕ → List ℕ → List ℕ → List ℕ → ℕ → Type 0
IsTurn b h v w0 w1 w2 w3 t =
    IsQuadAt (schedule b 48) w0 t × IsQuadAt (schedule b 48) w1 (t + 4) × IsQuadAt (schedule b 48) w2 (t + 8)
    × IsQuadAt (schedule b 48) w3 (t + 12) × (v ≡ rounds h (schedule b 48) (t + 16))

pub block_quad : (b w : List ℕ) (t n : ℕ) → t ≡ n → t + 4 ≤ 16 → HasQuad b w t → IsQuadAt (schedule b 48) w n
block_quad b w t n e hi has j lt =
    let k : t + j ≡ n + j = omega arith in
    has j lt ∙ sym (slice_index-schedule_first b 48 (t + j) (omega arith)) ∙ ap (λ (i : ℕ). slice_index (schedule b 48) i) k

pub quad_at : (b w : List ℕ) (t n : ℕ) → t ≡ n → IsQuadAt (schedule b 48) w t → IsQuadAt (schedule b 48) w n
quad_at b w t n e has = rw (← e) has

-- the same number of rounds, spelled another way
pub same_count : (h ws v : List ℕ) (n k : ℕ) → v ≡ rounds h ws n → n ≡ k → v ≡ rounds h ws k
same_count h ws v n k held e = held ∙ ap (λ (i : ℕ). rounds h ws i) e
