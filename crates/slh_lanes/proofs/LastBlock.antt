-- The last block of a message.
use Rattle.std.proofs.Common.{◌≡◌, ℕ, ◌+◌, ◌*◌, ◌/◌, ◌%◌, List, [], ◌++◌, length, take, drop, arith, refl, sym, ap, ◌∙◌, length-append, length-drop, append_assoc}
use Rattle.std.proofs.lemmas.List.{take_all}
use Rattle.sha2.specs.Sha256.{IsAbsorbed, compress, digest_bytes, final_hash, hash_after, initial_hash_256, padded_message, padding, sha256}
use Rattle.sha2.proofs.Absorbing256.{IsAbsorbed_fill}

-- the bytes after m fill the block with their padding
one_block : (i h b m x : List ℕ) → IsAbsorbed i h b m → length m % 64 + (length x + length (padding (length m + length x))) ≡ 64
    → final_hash i (m ++ x) ≡ compress h (take (length m % 64) b ++ (x ++ padding (length m + length x)))
one_block i h b m x a full =
    let pad : List ℕ = padding (length m + length x) in
    let whole : padded_message (m ++ x) ≡ m ++ (x ++ pad) = rw (length-append m x) (append_assoc m x pad) in
    let filled = IsAbsorbed_fill i h b [] m (x ++ pad) (take (length m % 64) b ++ (x ++ pad)) a (omega (arith, full, length-append x pad)) refl in
    ap (λ (q : List ℕ). hash_after i q (length q / 64)) whole ∙ sym filled.0

-- the digest, where h has taken in the whole blocks of m, and `left` is what is left of it
pub last_block : (h left m x : List ℕ) → h ≡ hash_after initial_hash_256 m (length m / 64) → left ≡ drop (length m / 64 * 64) m
    → length m % 64 + (length x + length (padding (length m + length x))) ≡ 64
    → sha256 (m ++ x) ≡ digest_bytes (compress h (left ++ (x ++ padding (length m + length x)))) 8
unfolding sha256
last_block h left m x state rest full =
    let count : length left ≡ length m % 64 = ap length rest ∙ omega (arith, length-drop (length m / 64 * 64) m) in
    let all : take (length m % 64) left ≡ left = take_all (length m % 64) left (omega (arith, count)) in
    ap (λ (q : List ℕ). digest_bytes q 8) (one_block initial_hash_256 h left m x (state, all ∙ rest) full
    ∙ ap (λ (q : List ℕ). compress h (q ++ (x ++ padding (length m + length x)))) all)
