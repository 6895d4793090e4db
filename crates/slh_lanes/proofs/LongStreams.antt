-- How a hash value of SHA-512 and a block's words follow a message as it grows by a word.
use Rattle.std.proofs.Common.{◌≡◌, ℕ, zero, suc, ◌+◌, ◌-◌, ◌*◌, ◌/◌, ◌%◌, ◌^◌, ◌<◌, List, [], ◌∷◌, ◌++◌, length, slice_index, take, replicate, arith, sym, subst, ap, ap₂, ◌∙◌, add-one, w32, length-append, append_assoc}
use Rattle.std.specs.Int.{to_be_bytes, w128}
use Rattle.std.proofs.lemmas.List.{length-replicate, replicate-append-replicate}
use Rattle.sha2.specs.Sha256.{word_at}
use Rattle.sha2.specs.Sha512.{IsAbsorbed, final_hash, hash_after, padded_message, padding, word_at as long_word_at}
use Rattle.sha2.proofs.Absorbing512.{hash_after-append}
use Rattle.slh_lanes.specs.Block.{halves}
use Rattle.slh_lanes.specs.LongBlock.{long_word, long_word_of_halves}
use Rattle.slh_lanes.specs.Streams.{half_on}
use Rattle.slh_lanes.proofs.Halves.{byte}
use Rattle.slh_lanes.proofs.LongBlock.{long_word_of_two}
use Rattle.slh_lanes.proofs.Streams.{half_word, zeros_move}

-- long word k of a block of 128 bytes that begins in the middle of a word
pub half_long_word : (ws : List ℕ) (k : ℕ) → k < 16
    → slice_index ws (2 * k) < 2 ^ 32 → slice_index ws (2 * k + 1) < 2 ^ 32 → slice_index ws (2 * k + 2) < 2 ^ 32
    → long_word_at (take 128 (half_on ws 33)) (8 * k) ≡ long_word_of_halves (slice_index ws (2 * k)) (slice_index ws (2 * k + 1)) (slice_index ws (2 * k + 2))
half_long_word ws k lt fp fq fr =
    let b : List ℕ = take 128 (half_on ws 33) in
    let even : 8 * k ≡ 4 * (2 * k) = omega arith in
    let odd : 8 * k + 4 ≡ 4 * (2 * k + 1) = omega arith in
    let last : 2 * k + 2 ≡ 2 * k + 1 + 1 = omega arith in
    let fl : slice_index ws (2 * k + 1 + 1) < 2 ^ 32 = subst (λ (q : ℕ). slice_index ws q < 2 ^ 32) last fr in
    long_word_of_two b (8 * k)
    ∙ ap₂ long_word (ap (word_at b) even ∙ half_word 32 ws (2 * k) (omega arith) fp fq)
    (ap (word_at b) odd ∙ half_word 32 ws (2 * k + 1) (omega arith) fq fl
    ∙ ap (λ (q : ℕ). halves (slice_index ws (2 * k + 1)) (slice_index ws q)) (sym last))

-- eight zeros more
eight_more : (k : ℕ) (t : List ℕ) → replicate (k + 8) 0 ++ t ≡ replicate k 0 ++ (0 ∷ 0 ∷ 0 ∷ 0 ∷ 0 ∷ 0 ∷ 0 ∷ 0 ∷ t)
eight_more k t = ap (λ (l : List ℕ). l ++ t) (sym (replicate-append-replicate k 8 0)) ∙ append_assoc (replicate k 0) (replicate 8 0) t

-- the padding as words that begin in the middle of a word: a bit 1 and zeros, zeros, and the length in bits
pub long_padding_words : (n k : ℕ) → n * 8 < 2 ^ 32 → (239 - n % 128) % 128 ≡ 4 * k + 1
    → to_be_bytes w32 0x80000000 ++ (replicate (4 * k + 8) 0 ++ (to_be_bytes w32 (n * 8 / 2 ^ 16) ++ to_be_bytes w32 (n * 8 * 2 ^ 16 % 2 ^ 32)))
    ≡ padding n ++ 0 ∷ 0 ∷ []
long_padding_words n k few count =
    let b : ℕ = n * 8 in
    let whole : b % 2 ^ 128 ≡ b = omega arith in
    let tail : List ℕ = byte b 0 ∷ byte b 1 ∷ byte b 2 ∷ byte b 3 ∷ 0 ∷ 0 ∷ [] in
    let h2 : byte (b / 2 ^ 16) 2 ≡ byte b 0 = omega arith in
    let h3 : byte (b / 2 ^ 16) 3 ≡ byte b 1 = omega arith in
    let h0 : byte (b / 2 ^ 16) 0 ≡ 0 = omega arith in
    let h1 : byte (b / 2 ^ 16) 1 ≡ 0 = omega arith in
    let l0 : byte (b * 2 ^ 16 % 2 ^ 32) 0 ≡ byte b 2 = omega arith in
    let l1 : byte (b * 2 ^ 16 % 2 ^ 32) 1 ≡ byte b 3 = omega arith in
    let l2 : byte (b * 2 ^ 16 % 2 ^ 32) 2 ≡ 0 = omega arith in
    let l3 : byte (b * 2 ^ 16 % 2 ^ 32) 3 ≡ 0 = omega arith in
    let ours : to_be_bytes w32 (b / 2 ^ 16) ++ to_be_bytes w32 (b * 2 ^ 16 % 2 ^ 32) ≡ 0 ∷ 0 ∷ tail =
    λ i. h0 i ∷ h1 i ∷ h2 i ∷ h3 i ∷ l0 i ∷ l1 i ∷ l2 i ∷ l3 i ∷ [] in
    let g : (i : ℕ) → i < 12 → slice_index (to_be_bytes w128 b) i ≡ 0 = high_zeros b few in
    let theirs : to_be_bytes w128 b ++ 0 ∷ 0 ∷ [] ≡ 0 ∷ 0 ∷ 0 ∷ 0 ∷ 0 ∷ 0 ∷ 0 ∷ 0 ∷ 0 ∷ 0 ∷ 0 ∷ 0 ∷ tail =
    λ i. g 0 (omega arith) i ∷ g 1 (omega arith) i ∷ g 2 (omega arith) i ∷ g 3 (omega arith) i ∷ g 4 (omega arith) i ∷ g 5 (omega arith) i
    ∷ g 6 (omega arith) i ∷ g 7 (omega arith) i ∷ g 8 (omega arith) i ∷ g 9 (omega arith) i ∷ g 10 (omega arith) i ∷ g 11 (omega arith) i ∷ tail in
    let z : List ℕ = replicate (4 * k) 0 in
    let r : List ℕ = 0 ∷ 0 ∷ 0 ∷ 0 ∷ 0 ∷ 0 ∷ 0 ∷ 0 ∷ 0 ∷ 0 ∷ tail in
    let moved : z ++ (0 ∷ 0 ∷ 0 ∷ r) ≡ 0 ∷ 0 ∷ 0 ∷ (z ++ r) =
    zeros_move (4 * k) (0 ∷ 0 ∷ r) ∙ ap (λ (l : List ℕ). 0 ∷ l) (zeros_move (4 * k) (0 ∷ r))
    ∙ ap (λ (l : List ℕ). 0 ∷ 0 ∷ l) (zeros_move (4 * k) r) in
    let more : replicate (4 * k + 1) 0 ++ (to_be_bytes w128 b ++ 0 ∷ 0 ∷ []) ≡ z ++ (0 ∷ 0 ∷ 0 ∷ r) =
    ap (λ (m : ℕ). replicate m 0 ++ (to_be_bytes w128 b ++ 0 ∷ 0 ∷ [])) (add-one (4 * k))
    ∙ ap (λ (l : List ℕ). 0 ∷ (z ++ l)) theirs ∙ sym (zeros_move (4 * k) (0 ∷ 0 ∷ r)) in
    let eight : replicate (4 * k + 8) 0 ++ (0 ∷ 0 ∷ tail) ≡ z ++ r = eight_more (4 * k) (0 ∷ 0 ∷ tail) in
    ap (λ (l : List ℕ). 0x80 ∷ 0 ∷ 0 ∷ 0 ∷ (replicate (4 * k + 8) 0 ++ l)) ours ∙ ap (λ (l : List ℕ). 0x80 ∷ 0 ∷ 0 ∷ 0 ∷ l) eight
    ∙ ap (λ (l : List ℕ). 0x80 ∷ l) (sym (more ∙ moved))
    ∙ ap (λ (l : List ℕ). 0x80 ∷ l) (sym (append_assoc (replicate (4 * k + 1) 0) (to_be_bytes w128 b) (0 ∷ 0 ∷ [])))
    ∙ (λ i. (0x80 ∷ replicate (sym count i) 0 ++ to_be_bytes w128 (sym whole i)) ++ 0 ∷ 0 ∷ [])
  where
    high_zeros : (b : ℕ) → b < 2 ^ 32 → (i : ℕ) → i < 12 → slice_index (to_be_bytes w128 b) i ≡ 0
    high_zeros b few zero lt = omega arith
    high_zeros b few (suc zero) lt = omega arith
    high_zeros b few (suc (suc zero)) lt = omega arith
    high_zeros b few (suc (suc (suc zero))) lt = omega arith
    high_zeros b few (suc (suc (suc (suc zero)))) lt = omega arith
    high_zeros b few (suc (suc (suc (suc (suc zero))))) lt = omega arith
    high_zeros b few (suc (suc (suc (suc (suc (suc zero)))))) lt = omega arith
    high_zeros b few (suc (suc (suc (suc (suc (suc (suc zero))))))) lt = omega arith
    high_zeros b few (suc (suc (suc (suc (suc (suc (suc (suc zero)))))))) lt = omega arith
    high_zeros b few (suc (suc (suc (suc (suc (suc (suc (suc (suc zero))))))))) lt = omega arith
    high_zeros b few (suc (suc (suc (suc (suc (suc (suc (suc (suc (suc zero)))))))))) lt = omega arith
    high_zeros b few (suc (suc (suc (suc (suc (suc (suc (suc (suc (suc (suc zero))))))))))) lt = omega arith
    high_zeros b few (suc (suc (suc (suc (suc (suc (suc (suc (suc (suc (suc (suc i)))))))))))) lt = absurd (omega arith)

-- the hash value of a message with its padding, and of two bytes more
pub long_hash_padded : (ini h b m t : List ℕ) → IsAbsorbed ini h b (m ++ t) → t ≡ padding (length m) ++ 0 ∷ 0 ∷ [] → h ≡ final_hash ini m
long_hash_padded ini h b m t held is =
    let n : ℕ = length m in
    let all : List ℕ = padded_message m in
    let z : ℕ = (239 - n % 128) % 128 in
    let whole : m ++ t ≡ all ++ 0 ∷ 0 ∷ [] = ap (λ (l : List ℕ). m ++ l) is ∙ sym (append_assoc m (padding n) (0 ∷ 0 ∷ [])) in
    let lp : length all ≡ n + (z + 17) = omega (arith, length-append m (padding n), length-append (replicate z 0) (to_be_bytes w128 (n * 8 % 2 ^ 128)), length-replicate {A = ℕ} z 0) in
    let la : length (all ++ 0 ∷ 0 ∷ []) ≡ length all + 2 = length-append all (0 ∷ 0 ∷ []) in
    let blocks : length (all ++ 0 ∷ 0 ∷ []) / 128 ≡ length all / 128 = omega (arith, lp, la) in
    held.0 ∙ ap (λ (l : List ℕ). hash_after ini l (length l / 128)) whole ∙ ap (hash_after ini (all ++ 0 ∷ 0 ∷ [])) blocks
    ∙ hash_after-append ini all (0 ∷ 0 ∷ []) (length all / 128) (omega arith)
