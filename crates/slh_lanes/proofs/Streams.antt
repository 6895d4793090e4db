-- How a hash value and a block's words follow a message as it grows by a word.
use Rattle.std.proofs.Common.{◌≡◌, ℕ, zero, suc, ◌+◌, ◌-◌, ◌*◌, ◌/◌, ◌%◌, ◌^◌, ◌<◌, ◌≤◌, List, [], ◌∷◌, ◌++◌, length, slice_index, set, take, drop, replicate, arith, refl, sym, ap, ap₂, ◌∙◌, add-one, w32, w64, length-append, append_assoc}
use Rattle.std.specs.Int.{from_be_bytes, to_be_bytes}
use Rattle.std.proofs.lemmas.List.{get_or-set_same, get_or-set_other, get_or-take, get_or-drop, drop-take, drop-append-le, length-replicate, length-set, length-drop}
use Rattle.std.proofs.Math.Seq.{take-append-add}
use Rattle.sha2.specs.Sha256.{IsAbsorbed, digest_bytes, final_hash, hash_after, padded_message, padding, word_at}
use Rattle.sha2.proofs.Absorbing256.{hash_after-append}
use Rattle.slh_lanes.specs.Block.{halves}
use Rattle.slh_lanes.specs.Streams.{half_on}
use Rattle.slh_lanes.proofs.Halves.{byte, low_high}
use Rattle.slh_lanes.proofs.WordBytes.{digest_at, length-digest_bytes, take_digest}

-- the bytes of words depend on no others
digest_same : (ws vs : List ℕ) (n : ℕ) → ((k : ℕ) → k < n → slice_index ws k ≡ slice_index vs k) → digest_bytes ws n ≡ digest_bytes vs n
unfolding digest_bytes
digest_same ws vs zero same = refl
digest_same ws vs (suc n) same =
    ap₂ (λ (b : List ℕ) (w : ℕ). b ++ to_be_bytes w32 w) (digest_same ws vs n (λ k lt. same k (omega arith))) (same n (omega arith))

pub half_same : (ws vs : List ℕ) (n : ℕ) → ((k : ℕ) → k < n → slice_index ws k ≡ slice_index vs k) → half_on ws n ≡ half_on vs n
half_same ws vs n same = ap (drop 2) (digest_same ws vs n same)

-- the first bytes, up to a word's end
pub half_front : (ws : List ℕ) (u n : ℕ) → 1 ≤ u → u ≤ n → take (4 * u - 2) (half_on ws n) ≡ half_on ws u
half_front ws u n low le =
    let two : 2 + (4 * u - 2) ≡ 4 * u = omega arith in
    sym (drop-take 2 (4 * u - 2) (digest_bytes ws n)) ∙ ap (λ (k : ℕ). drop 2 (take k (digest_bytes ws n))) two ∙ ap (drop 2) (take_digest ws u n le)

-- one word more
half_more : (ws : List ℕ) (u : ℕ) → 1 ≤ u → half_on ws (u + 1) ≡ half_on ws u ++ to_be_bytes w32 (slice_index ws u)
unfolding digest_bytes
half_more ws u low = rw add-one (drop-append-le 2 (digest_bytes ws u) (to_be_bytes w32 (slice_index ws u)) (omega (arith, length-digest_bytes ws u)))

pub length-half_on : (ws : List ℕ) (u : ℕ) → 1 ≤ u → length (half_on ws u) ≡ 4 * u - 2
length-half_on ws u low = omega (arith, length-drop 2 (digest_bytes ws u), length-digest_bytes ws u)

-- one word written after the first u
pub written : (ws : List ℕ) (w u : ℕ) → 1 ≤ u → u < length ws → half_on (set ws u w) (u + 1) ≡ half_on ws u ++ to_be_bytes w32 w
written ws w u low lt =
    half_more (set ws u w) u low
    ∙ ap₂ (λ (b : List ℕ) (v : ℕ). b ++ to_be_bytes w32 v)
    (half_same (set ws u w) ws u (λ k below. get_or-set_other ws u k w 0 (omega arith)))
    (get_or-set_same ws u w 0 lt)

-- word k of a block of n words that begins in the middle of a word
pub half_word : (n : ℕ) (ws : List ℕ) (k : ℕ) → k < n → slice_index ws k < 2 ^ 32 → slice_index ws (k + 1) < 2 ^ 32
    → word_at (take (4 * n) (half_on ws (n + 1))) (4 * k) ≡ halves (slice_index ws k) (slice_index ws (k + 1))
half_word n ws k lt fp fq =
    let all : List ℕ = digest_bytes ws (n + 1) in
    let at : (i : ℕ) → i < 4 * n → slice_index (take (4 * n) (half_on ws (n + 1))) i ≡ slice_index all (2 + i) = λ i below.
    get_or-take (4 * n) (half_on ws (n + 1)) i 0 below ∙ get_or-drop 2 all i 0 in
    let to : (i j : ℕ) → i ≡ j → slice_index all i ≡ slice_index all j = λ i j e. ap (λ (q : ℕ). slice_index all q) e in
    let b0 = at (4 * k) (omega arith) ∙ to _ (4 * k + 2) (omega arith) ∙ digest_at ws (n + 1) k 2 (omega arith) (omega arith) in
    let b1 = at (4 * k + 1) (omega arith) ∙ to _ (4 * k + 3) (omega arith) ∙ digest_at ws (n + 1) k 3 (omega arith) (omega arith) in
    let b2 = at (4 * k + 2) (omega arith) ∙ to _ (4 * (k + 1) + 0) (omega arith) ∙ digest_at ws (n + 1) (k + 1) 0 (omega arith) (omega arith) in
    let b3 = at (4 * k + 3) (omega arith) ∙ to _ (4 * (k + 1) + 1) (omega arith) ∙ digest_at ws (n + 1) (k + 1) 1 (omega arith) (omega arith) in
    (λ i. from_be_bytes w32 (b0 i ∷ b1 i ∷ b2 i ∷ b3 i ∷ [])) ∙ low_high (slice_index ws k) (slice_index ws (k + 1)) fp fq

-- a hash function over blocks of n words
module _ (n size : ℕ) (IsAbsorbed : List ℕ → List ℕ → List ℕ → List ℕ → Type 0) (compress : List ℕ → List ℕ → List ℕ)
    (whole : size ≡ 4 * n) (some : 1 ≤ n)
    (IsAbsorbed_short : (ini h b c m d : List ℕ) → IsAbsorbed ini h b m → length m % size + length d < size
    → take (length m % size + length d) c ≡ take (length m % size) b ++ d → IsAbsorbed ini h c (m ++ d))
    (IsAbsorbed_fill : (ini h b c m d x : List ℕ) → IsAbsorbed ini h b m → length m % size + length d ≡ size
    → x ≡ take (length m % size) b ++ d → IsAbsorbed ini (compress h x) c (m ++ d))
    (filled_up : (k : ℕ) → k % size + 2 ≡ size → (k + 2) % size ≡ 0) where
  -- a word that leaves the block short
  pub pushed_short : (ini h ws : List ℕ) (w u : ℕ) (m : List ℕ) → IsAbsorbed ini h (half_on ws (n + 1)) m → length m % size + 2 ≡ 4 * u → u < n
      → length ws ≡ n + 1 → IsAbsorbed ini h (half_on (set ws u w) (n + 1)) (m ++ to_be_bytes w32 w)
  pushed_short ini h ws w u m held at high long =
      let d : List ℕ = to_be_bytes w32 w in
      let low : 1 ≤ u = omega (arith, at) in
      let before : length m % size ≡ 4 * u - 2 = omega (arith, at) in
      let after : length m % size + length d ≡ 4 * (u + 1) - 2 = omega (arith, at) in
      IsAbsorbed_short ini h (half_on ws (n + 1)) (half_on (set ws u w) (n + 1)) m d held (omega (arith, after, high, whole))
      (ap (λ (k : ℕ). take k (half_on (set ws u w) (n + 1))) after ∙ half_front (set ws u w) (u + 1) (n + 1) (omega arith) (omega arith)
      ∙ written ws w u low (omega arith)
      ∙ ap (λ (b : List ℕ). b ++ d) (sym (ap (λ (k : ℕ). take k (half_on ws (n + 1))) before ∙ half_front ws u (n + 1) low (omega arith))))

  -- a word that fills the block: its second half begins the next
  pub pushed_full : (ini h ws : List ℕ) (w : ℕ) (m : List ℕ) → IsAbsorbed ini h (half_on ws (n + 1)) m → length m % size + 2 ≡ size
      → length ws ≡ n + 1
      → IsAbsorbed ini (compress h (take size (half_on (set ws n w) (n + 1)))) (half_on (set (set ws n w) 0 w) (n + 1)) (m ++ to_be_bytes w32 w)
  unfolding digest_bytes
  pushed_full ini h ws w m held at long =
      let d : List ℕ = to_be_bytes w32 w in
      let d1 : List ℕ = take 2 d in
      let d2 : List ℕ = drop 2 d in
      let x : List ℕ = take size (half_on (set ws n w) (n + 1)) in
      let vs : List ℕ = set (set ws n w) 0 w in
      let old : List ℕ = half_on ws n in
      let l : length old + 2 ≡ size = omega (arith, length-half_on ws n some, whole, some) in
      let before : length m % size ≡ 4 * n - 2 = omega (arith, at, whole) in
      let block : x ≡ old ++ d1 =
      ap (take size) (written ws w n some (omega arith)) ∙ ap (λ (k : ℕ). take k (old ++ d)) (sym l) ∙ take-append-add old d 2 in
      let front : take (length m % size) (half_on ws (n + 1)) ≡ old =
      ap (λ (k : ℕ). take k (half_on ws (n + 1))) before ∙ half_front ws n (n + 1) some (omega arith) in
      let filled : IsAbsorbed ini (compress h x) [] (m ++ d1) =
      IsAbsorbed_fill ini h (half_on ws (n + 1)) [] m d1 x held at (block ∙ ap (λ (b : List ℕ). b ++ d1) (sym front)) in
      let edge : length (m ++ d1) % size ≡ 0 = ap (λ (k : ℕ). k % size) (length-append m d1) ∙ filled_up (length m) at in
      let first : slice_index vs 0 ≡ w = get_or-set_same (set ws n w) 0 w 0 (omega (arith, length-set ws n w)) in
      let rest : half_on vs 1 ≡ d2 = ap (λ (v : ℕ). drop 2 (to_be_bytes w32 v)) first in
      let placed : take (length (m ++ d1) % size + length d2) (half_on vs (n + 1)) ≡ take (length (m ++ d1) % size) [] ++ d2 =
      rw edge (half_front vs 1 (n + 1) (omega arith) (omega arith) ∙ rest) in
      rw (sym (append_assoc m d1 d2))
      (IsAbsorbed_short ini (compress h x) [] (half_on vs (n + 1)) (m ++ d1) d2 filled (omega (arith, edge, whole, some)) placed)

-- a zero moved over zeros
pub zeros_move : (k : ℕ) (t : List ℕ) → replicate k 0 ++ (0 ∷ t) ≡ 0 ∷ (replicate k 0 ++ t)
zeros_move zero t = refl
zeros_move (suc k) t = ap (λ (l : List ℕ). 0 ∷ l) (zeros_move k t)

-- the padding as words that begin in the middle of a word: a bit 1 and zeros, zeros, and the length in bits
pub padding_words : (n k : ℕ) → n * 8 < 2 ^ 32 → (119 - n % 64) % 64 ≡ 4 * k + 1
    → to_be_bytes w32 0x80000000 ++ (replicate (4 * k) 0 ++ (to_be_bytes w32 (n * 8 / 2 ^ 16) ++ to_be_bytes w32 (n * 8 * 2 ^ 16 % 2 ^ 32)))
    ≡ padding n ++ 0 ∷ 0 ∷ []
padding_words n k few count =
    let b : ℕ = n * 8 in
    let whole : b % 2 ^ 64 ≡ b = omega arith in
    let tail : List ℕ = byte b 0 ∷ byte b 1 ∷ byte b 2 ∷ byte b 3 ∷ 0 ∷ 0 ∷ [] in
    let h2 : byte (b / 2 ^ 16) 2 ≡ byte b 0 = omega arith in
    let h3 : byte (b / 2 ^ 16) 3 ≡ byte b 1 = omega arith in
    let h0 : byte (b / 2 ^ 16) 0 ≡ 0 = omega arith in
    let h1 : byte (b / 2 ^ 16) 1 ≡ 0 = omega arith in
    let l0 : byte (b * 2 ^ 16 % 2 ^ 32) 0 ≡ byte b 2 = omega arith in
    let l1 : byte (b * 2 ^ 16 % 2 ^ 32) 1 ≡ byte b 3 = omega arith in
    let l2 : byte (b * 2 ^ 16 % 2 ^ 32) 2 ≡ 0 = omega arith in
    let l3 : byte (b * 2 ^ 16 % 2 ^ 32) 3 ≡ 0 = omega arith in
    let ours : to_be_bytes w32 (b / 2 ^ 16) ++ to_be_bytes w32 (b * 2 ^ 16 % 2 ^ 32) ≡ 0 ∷ 0 ∷ tail =
    λ i. h0 i ∷ h1 i ∷ h2 i ∷ h3 i ∷ l0 i ∷ l1 i ∷ l2 i ∷ l3 i ∷ [] in
    let g0 : slice_index (to_be_bytes w64 b) 0 ≡ 0 = omega arith in
    let g1 : slice_index (to_be_bytes w64 b) 1 ≡ 0 = omega arith in
    let g2 : slice_index (to_be_bytes w64 b) 2 ≡ 0 = omega arith in
    let g3 : slice_index (to_be_bytes w64 b) 3 ≡ 0 = omega arith in
    let theirs : to_be_bytes w64 b ++ 0 ∷ 0 ∷ [] ≡ 0 ∷ 0 ∷ 0 ∷ 0 ∷ tail =
    λ i. g0 i ∷ g1 i ∷ g2 i ∷ g3 i ∷ tail in
    let z : List ℕ = replicate (4 * k) 0 in
    let moved : z ++ (0 ∷ 0 ∷ 0 ∷ 0 ∷ 0 ∷ tail) ≡ 0 ∷ 0 ∷ 0 ∷ (z ++ (0 ∷ 0 ∷ tail)) =
    zeros_move (4 * k) (0 ∷ 0 ∷ 0 ∷ 0 ∷ tail) ∙ ap (λ (l : List ℕ). 0 ∷ l) (zeros_move (4 * k) (0 ∷ 0 ∷ 0 ∷ tail))
    ∙ ap (λ (l : List ℕ). 0 ∷ 0 ∷ l) (zeros_move (4 * k) (0 ∷ 0 ∷ tail)) in
    let more : replicate (4 * k + 1) 0 ++ (to_be_bytes w64 b ++ 0 ∷ 0 ∷ []) ≡ z ++ (0 ∷ 0 ∷ 0 ∷ 0 ∷ 0 ∷ tail) =
    ap (λ (m : ℕ). replicate m 0 ++ (to_be_bytes w64 b ++ 0 ∷ 0 ∷ [])) (add-one (4 * k))
    ∙ ap (λ (l : List ℕ). 0 ∷ (z ++ l)) theirs ∙ sym (zeros_move (4 * k) (0 ∷ 0 ∷ 0 ∷ 0 ∷ tail)) in
    ap (λ (l : List ℕ). 0x80 ∷ 0 ∷ 0 ∷ 0 ∷ (z ++ l)) ours ∙ ap (λ (l : List ℕ). 0x80 ∷ l) (sym (more ∙ moved))
    ∙ ap (λ (l : List ℕ). 0x80 ∷ l) (sym (append_assoc (replicate (4 * k + 1) 0) (to_be_bytes w64 b) (0 ∷ 0 ∷ [])))
    ∙ (λ i. (0x80 ∷ replicate (sym count i) 0 ++ to_be_bytes w64 (sym whole i)) ++ 0 ∷ 0 ∷ [])

-- the hash value of a message with its padding, and of two bytes more
pub hash_padded : (ini h b m t : List ℕ) → IsAbsorbed ini h b (m ++ t) → t ≡ padding (length m) ++ 0 ∷ 0 ∷ [] → h ≡ final_hash ini m
hash_padded ini h b m t held is =
    let n : ℕ = length m in
    let all : List ℕ = padded_message m in
    let z : ℕ = (119 - n % 64) % 64 in
    let whole : m ++ t ≡ all ++ 0 ∷ 0 ∷ [] = ap (λ (l : List ℕ). m ++ l) is ∙ sym (append_assoc m (padding n) (0 ∷ 0 ∷ [])) in
    let lp : length all ≡ n + (z + 9) = omega (arith, length-append m (padding n), length-append (replicate z 0) (to_be_bytes w64 (n * 8 % 2 ^ 64)), length-replicate {A = ℕ} z 0) in
    let la : length (all ++ 0 ∷ 0 ∷ []) ≡ length all + 2 = length-append all (0 ∷ 0 ∷ []) in
    let blocks : length (all ++ 0 ∷ 0 ∷ []) / 64 ≡ length all / 64 = omega (arith, lp, la) in
    held.0 ∙ ap (λ (l : List ℕ). hash_after ini l (length l / 64)) whole ∙ ap (hash_after ini (all ++ 0 ∷ 0 ∷ [])) blocks
    ∙ hash_after-append ini all (0 ∷ 0 ∷ []) (length all / 64) (omega arith)
