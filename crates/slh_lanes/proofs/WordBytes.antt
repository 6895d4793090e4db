-- The bytes of a block's words.
use Rattle.std.proofs.Common.{◌≡◌, ℕ, zero, suc, ◌+◌, ◌*◌, ◌/◌, ◌%◌, ◌^◌, ◌<◌, ◌≤◌, List, [], ◌∷◌, ◌++◌, length, slice_index, take, arith, refl, sym, ap, inl, inr, ◌∙◌, add-zero, w32, length-append}
use Rattle.std.specs.Int.{to_be_bytes}
use Rattle.std.proofs.lemmas.List.{get_or_append_left, get_or-append-add, get_or-take, length-take-le}
use Rattle.std.proofs.lemmas.Nat.{be_bytes_4, from_be_bytes-to_be_bytes_4}
use Rattle.std.proofs.lemmas.Grind.{same_number_lists}
use Rattle.std.proofs.lemmas.Bool.{cases_lt}
use Rattle.sha2.specs.Sha256.{digest_bytes, word_at}
use Rattle.slh_lanes.specs.Columns.{HasWords}

pub length-digest_bytes : (h : List ℕ) (n : ℕ) → length (digest_bytes h n) ≡ 4 * n
unfolding digest_bytes
length-digest_bytes h zero = refl
length-digest_bytes h (suc n) = omega (arith, length-append (digest_bytes h n) (to_be_bytes w32 (slice_index h n)), length-digest_bytes h n)

-- byte i of word k
pub digest_at : (h : List ℕ) (n k i : ℕ) → k < n → i < 4 → slice_index (digest_bytes h n) (4 * k + i) ≡ slice_index (to_be_bytes w32 (slice_index h k)) i
unfolding digest_bytes
digest_at h zero k i lt small = absurd (omega arith)
digest_at h (suc n) k i lt small = elim (cases_lt k n) [
  | inl below ↦
      let l : 4 * k + i < length (digest_bytes h n) = omega (arith, length-digest_bytes h n) in
      get_or_append_left (digest_bytes h n) (to_be_bytes w32 (slice_index h n)) 0 (4 * k + i) l ∙ digest_at h n k i below small
  | inr ge ↦
      let e : k ≡ n = omega arith in
      let at : 4 * k + i ≡ length (digest_bytes h n) + i = omega (arith, length-digest_bytes h n) in
      ap (λ m. slice_index (digest_bytes h n ++ to_be_bytes w32 (slice_index h n)) m) at
      ∙ get_or-append-add (digest_bytes h n) (to_be_bytes w32 (slice_index h n)) i 0
      ∙ ap (λ m. slice_index (to_be_bytes w32 (slice_index h m)) i) (sym e)
]

-- words are those of their bytes
pub HasWords_bytes : (ws : List ℕ) → ((k : ℕ) → k < 16 → slice_index ws k < 2 ^ 32) → HasWords (digest_bytes ws 16) ws
HasWords_bytes ws fits k lt =
    let w = slice_index ws k in
    let b0 : slice_index (digest_bytes ws 16) (4 * k) ≡ slice_index (to_be_bytes w32 w) 0 = rw add-zero at (digest_at ws 16 k 0 lt (omega arith)) in
    rw (b0, digest_at ws 16 k 1 lt (omega arith), digest_at ws 16 k 2 lt (omega arith), digest_at ws 16 k 3 lt (omega arith))
    (from_be_bytes-to_be_bytes_4 w (fits k lt))

small_of : (a b c d : ℕ) → a < 256 → b < 256 → c < 256 → d < 256 → (m : ℕ) → slice_index (a ∷ b ∷ c ∷ d ∷ []) m < 256
small_of a b c d ha hb hc hd zero = ha
small_of a b c d ha hb hc hd (suc zero) = hb
small_of a b c d ha hb hc hd (suc (suc zero)) = hc
small_of a b c d ha hb hc hd (suc (suc (suc zero))) = hd
small_of a b c d ha hb hc hd (suc (suc (suc (suc m)))) = omega arith

four_at : (xs : List ℕ) (i k : ℕ) → k < 4 → slice_index (slice_index xs i ∷ slice_index xs (i + 1) ∷ slice_index xs (i + 2) ∷ slice_index xs (i + 3) ∷ []) k ≡ slice_index xs (i + k)
four_at xs i zero lt = ap (λ (q : ℕ). slice_index xs q) (omega arith)
four_at xs i (suc zero) lt = refl
four_at xs i (suc (suc zero)) lt = refl
four_at xs i (suc (suc (suc zero))) lt = refl
four_at xs i (suc (suc (suc (suc k)))) lt = absurd (omega arith)

-- the bytes of a word that was read from bytes
bytes_of_word : (xs : List ℕ) (i n : ℕ) → ((k : ℕ) → slice_index xs k < 256) → n ≡ word_at xs i → (k : ℕ) → k < 4
    → slice_index (to_be_bytes w32 n) k ≡ slice_index xs (i + k)
bytes_of_word xs i n small is k lt =
    let bs : List ℕ = slice_index xs i ∷ slice_index xs (i + 1) ∷ slice_index xs (i + 2) ∷ slice_index xs (i + 3) ∷ [] in
    ap (λ (l : List ℕ). slice_index l k) (be_bytes_4 bs n refl (small_of _ _ _ _ (small i) (small (i + 1)) (small (i + 2)) (small (i + 3))) is)
    ∙ four_at xs i k lt

-- words that were read from bytes have those bytes
pub digest_of_bytes : (ws v : List ℕ) (m : ℕ) → 4 * m ≤ length v → ((k : ℕ) → slice_index v k < 256)
    → ((k : ℕ) → k < m → slice_index ws k ≡ word_at v (4 * k)) → digest_bytes ws m ≡ take (4 * m) v
digest_of_bytes ws v m le small is =
    let long = length-digest_bytes ws m in
    same_number_lists (digest_bytes ws m) (take (4 * m) v) (long ∙ sym (length-take-le (4 * m) v le)) (λ p lt.
    let k : ℕ = p / 4 in
    let i : ℕ = p % 4 in
    let at : 4 * k + i ≡ p = omega arith in
    let low : k < m = omega (arith, long) in
    ap (λ (q : ℕ). slice_index (digest_bytes ws m) q) (sym at) ∙ digest_at ws m k i low (omega arith)
    ∙ bytes_of_word v (4 * k) (slice_index ws k) small (is k low) i (omega arith)
    ∙ ap (λ (q : ℕ). slice_index v q) at
    ∙ sym (get_or-take (4 * m) v p 0 (omega (arith, long))))

-- the bytes of the first m of n words
pub take_digest : (ws : List ℕ) (m n : ℕ) → m ≤ n → take (4 * m) (digest_bytes ws n) ≡ digest_bytes ws m
take_digest ws m n le =
    let long = length-digest_bytes ws m in
    let cut : length (take (4 * m) (digest_bytes ws n)) ≡ 4 * m = length-take-le (4 * m) (digest_bytes ws n) (omega (arith, length-digest_bytes ws n)) in
    same_number_lists (take (4 * m) (digest_bytes ws n)) (digest_bytes ws m) (cut ∙ sym long) (λ p lt.
    let k : ℕ = p / 4 in
    let i : ℕ = p % 4 in
    let at : 4 * k + i ≡ p = omega arith in
    get_or-take (4 * m) (digest_bytes ws n) p 0 (omega (arith, cut))
    ∙ ap (λ (q : ℕ). slice_index (digest_bytes ws n) q) (sym at) ∙ digest_at ws n k i (omega (arith, cut)) (omega arith)
    ∙ sym (digest_at ws m k i (omega (arith, cut)) (omega arith)) ∙ ap (λ (q : ℕ). slice_index (digest_bytes ws m) q) at)
