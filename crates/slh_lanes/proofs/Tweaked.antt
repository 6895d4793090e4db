-- F and PRF as two compressions.
use Rattle.std.proofs.Common.{◌≡◌, ℕ, ◌+◌, ◌-◌, ◌*◌, ◌/◌, ◌%◌, ◌^◌, ◌≤◌, List, ◌++◌, length, take, drop, replicate, arith, refl, ap, ◌∙◌, w64, length-append, append_assoc}
use Rattle.std.specs.Int.{to_be_bytes}
use Rattle.std.proofs.lemmas.List.{length-replicate, take_all}
use Rattle.std.proofs.Math.Seq.{take-append_seam, drop-append_seam}
use Rattle.sha2.specs.Sha256.{compress, digest_bytes, hash_after, initial_hash_256, padded_message, padding, sha256}
use Rattle.slh_params.specs.Address.{Address, compressed}
use Rattle.slh_params.specs.Bits.{to_byte}
use Rattle.slh_params.specs.Params.{Params}
use Rattle.slh_hash.specs.Hash.{tweaked_hash}
use Rattle.slh_hash.specs.HashFunctions.{SHA_256}
use Rattle.slh_hash.proofs.Zeros.{to_byte-zero}
use Rattle.slh_lanes.specs.Block.{first_block, second_block}

blocks : (s t : List ℕ) → length s ≡ 64 → length t ≡ 64 → hash_after initial_hash_256 (s ++ t) 2 ≡ compress (compress initial_hash_256 s) t
unfolding hash_after
blocks s t ls lt =
    let first : take 64 (s ++ t) ≡ s = rw ls at (take-append_seam s t) in
    let second : drop 64 (s ++ t) ≡ t = rw ls at (drop-append_seam s t) in
    rw (first, second, take_all 64 t (omega arith)) refl

-- with its padding, a message of n bytes after a block and an address fills a second block
length-padding : (n : ℕ) → n ≤ 32 → length (padding (86 + n)) ≡ 42 - n
length-padding n le =
    let z : ℕ = (119 - (86 + n) % 64) % 64 in
    omega (arith, length-append (replicate z 0) (to_be_bytes w64 ((86 + n) * 8 % 2 ^ 64)), length-replicate {A = ℕ} z 0)

sha256_two : (s a x : List ℕ) → length s ≡ 64 → length a ≡ 22 → length x ≤ 32
    → sha256 ((s ++ a) ++ x) ≡ digest_bytes (compress (compress initial_hash_256 s) (second_block a x)) 8
unfolding sha256
sha256_two s a x ls la few =
    let l : length ((s ++ a) ++ x) ≡ 86 + length x = omega (arith, length-append (s ++ a) x, length-append s a) in
    let pad : List ℕ = padding (86 + length x) in
    let t : List ℕ = a ++ (x ++ pad) in
    let lt : length t ≡ 64 = omega (arith, length-append a (x ++ pad), length-append x pad, length-padding (length x) few) in
    let p : padded_message ((s ++ a) ++ x) ≡ s ++ t =
    rw l (append_assoc (s ++ a) x pad ∙ append_assoc s a (x ++ pad)) in
    let n : length (s ++ t) / 64 ≡ 2 = omega (arith, length-append s t) in
    ap (λ h. digest_bytes h 8) (ap (λ q. hash_after initial_hash_256 q (length q / 64)) p ∙ rw n (blocks s t ls lt))

-- PK.seed and zeros fill a block of any size
pub length-first_block : (size : ℕ) (p : Params) (pk : List ℕ) → length pk ≡ p.n → p.n ≤ size → length (pk ++ to_byte 0 (size - p.n)) ≡ size
length-first_block size p pk lp high =
    let zeros : length (to_byte 0 (size - p.n)) ≡ size - p.n = rw (to_byte-zero (size - p.n)) (length-replicate (size - p.n) 0) in
    omega (arith, length-append pk (to_byte 0 (size - p.n)), zeros, lp, high)

pub tweaked_is : (p : Params) (pk : List ℕ) (a : Address) (x : List ℕ) → length pk ≡ p.n → p.n ≤ 32 → length x ≤ 32
    → tweaked_hash SHA_256 p pk a x
    ≡ take p.n (digest_bytes (compress (compress initial_hash_256 (first_block p pk)) (second_block (compressed a) x)) 8)
tweaked_is p pk a x lp high lx =
    ap (take p.n) (sha256_two (first_block p pk) (compressed a) x (length-first_block 64 p pk lp (omega (arith, high))) refl (omega arith))
