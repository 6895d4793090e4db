-- The bytes of an address after one of its fields is set.
use Rattle.std.proofs.Common.{◌≡◌, ℕ, ◌*◌, ◌/◌, ◌%◌, ◌^◌, ◌<◌, List, [], ◌∷◌, ◌++◌, slice_index, take, drop, ap, ◌∙◌, w32}
use Rattle.std.specs.Int.{to_be_bytes}
use Rattle.sha2.specs.Sha256.{digest_bytes}
use Rattle.slh_params.specs.Address.{Address, compressed}
use Rattle.slh_lanes.specs.Block.{halves}
use Rattle.slh_lanes.specs.Streams.{half_on}
use Rattle.slh_lanes.proofs.Halves.{Fit, byte, halves_0, halves_1, halves_2, halves_3, high_2, high_3, high_fits, low_0, low_1, low_fits}

module _ (ws vs : List ℕ) (n : ℕ) (fit : Fit ws) (fn : n < 2 ^ 32) where
  -- the words of a step's number
  module _ (e0 : slice_index vs 0 ≡ slice_index ws 0) (e1 : slice_index vs 1 ≡ slice_index ws 1)
      (e2 : slice_index vs 2 ≡ slice_index ws 2) (e3 : slice_index vs 3 ≡ slice_index ws 3)
      (e4 : slice_index vs 4 ≡ halves (slice_index ws 4 / 2 ^ 16) n) (e5 : slice_index vs 5 ≡ n * 2 ^ 16 % 2 ^ 32) where
    hash_bytes : take 22 (digest_bytes vs 6) ≡ take 18 (take 22 (digest_bytes ws 6)) ++ to_be_bytes w32 n
    unfolding digest_bytes
    hash_bytes =
        let p : ℕ = slice_index ws 4 in
        let fp : p / 2 ^ 16 < 2 ^ 32 = high_fits p (fit 4) in
        let b0 = ap (λ w. byte w 0) e4 ∙ halves_0 (p / 2 ^ 16) n fp fn ∙ high_2 p (fit 4) in
        let b1 = ap (λ w. byte w 1) e4 ∙ halves_1 (p / 2 ^ 16) n fp fn ∙ high_3 p (fit 4) in
        let b2 = ap (λ w. byte w 2) e4 ∙ halves_2 (p / 2 ^ 16) n fp fn in
        let b3 = ap (λ w. byte w 3) e4 ∙ halves_3 (p / 2 ^ 16) n fp fn in
        let b4 = ap (λ w. byte w 0) e5 ∙ low_0 n fn in
        let b5 = ap (λ w. byte w 1) e5 ∙ low_1 n fn in
        λ i. byte (e0 i) 0 ∷ byte (e0 i) 1 ∷ byte (e0 i) 2 ∷ byte (e0 i) 3
        ∷ byte (e1 i) 0 ∷ byte (e1 i) 1 ∷ byte (e1 i) 2 ∷ byte (e1 i) 3
        ∷ byte (e2 i) 0 ∷ byte (e2 i) 1 ∷ byte (e2 i) 2 ∷ byte (e2 i) 3
        ∷ byte (e3 i) 0 ∷ byte (e3 i) 1 ∷ byte (e3 i) 2 ∷ byte (e3 i) 3
        ∷ b0 i ∷ b1 i ∷ b2 i ∷ b3 i ∷ b4 i ∷ b5 i ∷ []

    pub hash_set : (a : Address) → take 22 (digest_bytes ws 6) ≡ compressed a → take 22 (digest_bytes vs 6) ≡ compressed (record a { hash = n })
    hash_set a held = hash_bytes ∙ ap (λ l. take 18 l ++ to_be_bytes w32 n) held

  -- the words of a key pair
  module _ (e0 : slice_index vs 0 ≡ slice_index ws 0) (e1 : slice_index vs 1 ≡ slice_index ws 1)
      (e2 : slice_index vs 2 ≡ halves (slice_index ws 2 / 2 ^ 16) n) (e3 : slice_index vs 3 ≡ halves n (slice_index ws 3 * 2 ^ 16 % 2 ^ 32))
      (e4 : slice_index vs 4 ≡ slice_index ws 4) (e5 : slice_index vs 5 ≡ slice_index ws 5) where
    pair_bytes : take 22 (digest_bytes vs 6) ≡ take 10 (take 22 (digest_bytes ws 6)) ++ (to_be_bytes w32 n ++ drop 14 (take 22 (digest_bytes ws 6)))
    unfolding digest_bytes
    pair_bytes =
        let p : ℕ = slice_index ws 2 in
        let q : ℕ = slice_index ws 3 in
        let fp : p / 2 ^ 16 < 2 ^ 32 = high_fits p (fit 2) in
        let fq : q * 2 ^ 16 % 2 ^ 32 < 2 ^ 32 = low_fits q (fit 3) in
        let b0 = ap (λ w. byte w 0) e2 ∙ halves_0 (p / 2 ^ 16) n fp fn ∙ high_2 p (fit 2) in
        let b1 = ap (λ w. byte w 1) e2 ∙ halves_1 (p / 2 ^ 16) n fp fn ∙ high_3 p (fit 2) in
        let b2 = ap (λ w. byte w 2) e2 ∙ halves_2 (p / 2 ^ 16) n fp fn in
        let b3 = ap (λ w. byte w 3) e2 ∙ halves_3 (p / 2 ^ 16) n fp fn in
        let b4 = ap (λ w. byte w 0) e3 ∙ halves_0 n (q * 2 ^ 16 % 2 ^ 32) fn fq in
        let b5 = ap (λ w. byte w 1) e3 ∙ halves_1 n (q * 2 ^ 16 % 2 ^ 32) fn fq in
        let b6 = ap (λ w. byte w 2) e3 ∙ halves_2 n (q * 2 ^ 16 % 2 ^ 32) fn fq ∙ low_0 q (fit 3) in
        let b7 = ap (λ w. byte w 3) e3 ∙ halves_3 n (q * 2 ^ 16 % 2 ^ 32) fn fq ∙ low_1 q (fit 3) in
        λ i. byte (e0 i) 0 ∷ byte (e0 i) 1 ∷ byte (e0 i) 2 ∷ byte (e0 i) 3
        ∷ byte (e1 i) 0 ∷ byte (e1 i) 1 ∷ byte (e1 i) 2 ∷ byte (e1 i) 3
        ∷ b0 i ∷ b1 i ∷ b2 i ∷ b3 i ∷ b4 i ∷ b5 i ∷ b6 i ∷ b7 i
        ∷ byte (e4 i) 0 ∷ byte (e4 i) 1 ∷ byte (e4 i) 2 ∷ byte (e4 i) 3 ∷ byte (e5 i) 0 ∷ byte (e5 i) 1 ∷ []

    pub pair_set : (a : Address) → take 22 (digest_bytes ws 6) ≡ compressed a → take 22 (digest_bytes vs 6) ≡ compressed (record a { key_pair = n })
    pair_set a held = pair_bytes ∙ ap (λ l. take 10 l ++ (to_be_bytes w32 n ++ drop 14 l)) held

  -- the words of a chain
  module _ (e0 : slice_index vs 0 ≡ slice_index ws 0) (e1 : slice_index vs 1 ≡ slice_index ws 1)
      (e2 : slice_index vs 2 ≡ slice_index ws 2) (e3 : slice_index vs 3 ≡ halves (slice_index ws 3 / 2 ^ 16) n)
      (e4 : slice_index vs 4 ≡ halves n (slice_index ws 4 * 2 ^ 16 % 2 ^ 32)) (e5 : slice_index vs 5 ≡ slice_index ws 5) where
    chain_bytes : take 22 (digest_bytes vs 6) ≡ take 14 (take 22 (digest_bytes ws 6)) ++ (to_be_bytes w32 n ++ drop 18 (take 22 (digest_bytes ws 6)))
    unfolding digest_bytes
    chain_bytes =
        let p : ℕ = slice_index ws 3 in
        let q : ℕ = slice_index ws 4 in
        let fp : p / 2 ^ 16 < 2 ^ 32 = high_fits p (fit 3) in
        let fq : q * 2 ^ 16 % 2 ^ 32 < 2 ^ 32 = low_fits q (fit 4) in
        let b0 = ap (λ w. byte w 0) e3 ∙ halves_0 (p / 2 ^ 16) n fp fn ∙ high_2 p (fit 3) in
        let b1 = ap (λ w. byte w 1) e3 ∙ halves_1 (p / 2 ^ 16) n fp fn ∙ high_3 p (fit 3) in
        let b2 = ap (λ w. byte w 2) e3 ∙ halves_2 (p / 2 ^ 16) n fp fn in
        let b3 = ap (λ w. byte w 3) e3 ∙ halves_3 (p / 2 ^ 16) n fp fn in
        let b4 = ap (λ w. byte w 0) e4 ∙ halves_0 n (q * 2 ^ 16 % 2 ^ 32) fn fq in
        let b5 = ap (λ w. byte w 1) e4 ∙ halves_1 n (q * 2 ^ 16 % 2 ^ 32) fn fq in
        let b6 = ap (λ w. byte w 2) e4 ∙ halves_2 n (q * 2 ^ 16 % 2 ^ 32) fn fq ∙ low_0 q (fit 4) in
        let b7 = ap (λ w. byte w 3) e4 ∙ halves_3 n (q * 2 ^ 16 % 2 ^ 32) fn fq ∙ low_1 q (fit 4) in
        λ i. byte (e0 i) 0 ∷ byte (e0 i) 1 ∷ byte (e0 i) 2 ∷ byte (e0 i) 3
        ∷ byte (e1 i) 0 ∷ byte (e1 i) 1 ∷ byte (e1 i) 2 ∷ byte (e1 i) 3
        ∷ byte (e2 i) 0 ∷ byte (e2 i) 1 ∷ byte (e2 i) 2 ∷ byte (e2 i) 3
        ∷ b0 i ∷ b1 i ∷ b2 i ∷ b3 i ∷ b4 i ∷ b5 i ∷ b6 i ∷ b7 i ∷ byte (e5 i) 0 ∷ byte (e5 i) 1 ∷ []

    pub chain_set : (a : Address) → take 22 (digest_bytes ws 6) ≡ compressed a → take 22 (digest_bytes vs 6) ≡ compressed (record a { chain = n })
    chain_set a held = chain_bytes ∙ ap (λ l. take 14 l ++ (to_be_bytes w32 n ++ drop 18 l)) held

-- the words of an address, each half a word on
pub half_address : (ws vs : List ℕ) → Fit ws → slice_index vs 0 ≡ slice_index ws 0 / 2 ^ 16
    → slice_index vs 1 ≡ halves (slice_index ws 0) (slice_index ws 1) → slice_index vs 2 ≡ halves (slice_index ws 1) (slice_index ws 2)
    → slice_index vs 3 ≡ halves (slice_index ws 2) (slice_index ws 3) → slice_index vs 4 ≡ halves (slice_index ws 3) (slice_index ws 4)
    → slice_index vs 5 ≡ halves (slice_index ws 4) (slice_index ws 5) → half_on vs 6 ≡ take 22 (digest_bytes ws 6)
unfolding digest_bytes
half_address ws vs fit e0 e1 e2 e3 e4 e5 =
    let w : ℕ → ℕ = λ k. slice_index ws k in
    let two : (v k l : ℕ) → v ≡ halves (w k) (w l) → to_be_bytes w32 v ≡ byte (w k) 2 ∷ byte (w k) 3 ∷ byte (w l) 0 ∷ byte (w l) 1 ∷ [] = λ v k l e.
    ap (to_be_bytes w32) e
    ∙ (λ i. halves_0 (w k) (w l) (fit k) (fit l) i ∷ halves_1 (w k) (w l) (fit k) (fit l) i
    ∷ halves_2 (w k) (w l) (fit k) (fit l) i ∷ halves_3 (w k) (w l) (fit k) (fit l) i ∷ []) in
    let b2 = ap (λ (v : ℕ). byte v 2) e0 ∙ high_2 (w 0) (fit 0) in
    let b3 = ap (λ (v : ℕ). byte v 3) e0 ∙ high_3 (w 0) (fit 0) in
    let p1 = two _ 0 1 e1 in
    let p2 = two _ 1 2 e2 in
    let p3 = two _ 2 3 e3 in
    let p4 = two _ 3 4 e4 in
    let p5 = two _ 4 5 e5 in
    λ i. b2 i ∷ b3 i ∷ (p1 i ++ (p2 i ++ (p3 i ++ (p4 i ++ p5 i))))
