-- H where n is 24 or 32 as two compressions.
use Rattle.std.proofs.Common.{◌≡◌, ℕ, ◌+◌, ◌-◌, ◌*◌, ◌/◌, ◌%◌, ◌^◌, ◌≤◌, List, ◌++◌, length, take, drop, replicate, arith, refl, ap, ◌∙◌, length-append, append_assoc}
use Rattle.std.specs.Int.{to_be_bytes, w128}
use Rattle.std.proofs.lemmas.List.{length-replicate, take_all}
use Rattle.std.proofs.Math.Seq.{take-append_seam, drop-append_seam}
use Rattle.sha2.specs.Sha512.{compress, digest_bytes, hash_after, initial_hash_512, padded_message, padding, sha512}
use Rattle.slh_params.specs.Address.{Address, compressed}
use Rattle.slh_params.specs.Params.{Params}
use Rattle.slh_hash.specs.Hash.{tweaked_hash}
use Rattle.slh_hash.specs.HashFunctions.{SHA_512}
use Rattle.slh_lanes.specs.LongBlock.{long_first_block, long_second_block}
use Rattle.slh_lanes.proofs.Tweaked.{length-first_block}

blocks : (s t : List ℕ) → length s ≡ 128 → length t ≡ 128 → hash_after initial_hash_512 (s ++ t) 2 ≡ compress (compress initial_hash_512 s) t
unfolding hash_after
blocks s t ls lt =
    let first : take 128 (s ++ t) ≡ s = rw ls at (take-append_seam s t) in
    let second : drop 128 (s ++ t) ≡ t = rw ls at (drop-append_seam s t) in
    rw (first, second, take_all 128 t (omega arith)) refl

-- with its padding, a message of n bytes after a block and an address fills a second block
length-padding : (n : ℕ) → n ≤ 64 → length (padding (150 + n)) ≡ 106 - n
length-padding n le =
    let z : ℕ = (239 - (150 + n) % 128) % 128 in
    omega (arith, length-append (replicate z 0) (to_be_bytes w128 ((150 + n) * 8 % 2 ^ 128)), length-replicate {A = ℕ} z 0)

sha512_two : (s a x : List ℕ) → length s ≡ 128 → length a ≡ 22 → length x ≤ 64
    → sha512 ((s ++ a) ++ x) ≡ digest_bytes (compress (compress initial_hash_512 s) (long_second_block a x)) 8
unfolding sha512
sha512_two s a x ls la few =
    let l : length ((s ++ a) ++ x) ≡ 150 + length x = omega (arith, length-append (s ++ a) x, length-append s a) in
    let pad : List ℕ = padding (150 + length x) in
    let t : List ℕ = a ++ (x ++ pad) in
    let lt : length t ≡ 128 = omega (arith, length-append a (x ++ pad), length-append x pad, length-padding (length x) few) in
    let p : padded_message ((s ++ a) ++ x) ≡ s ++ t =
    rw l (append_assoc (s ++ a) x pad ∙ append_assoc s a (x ++ pad)) in
    let n : length (s ++ t) / 128 ≡ 2 = omega (arith, length-append s t) in
    ap (λ h. digest_bytes h 8) (ap (λ q. hash_after initial_hash_512 q (length q / 128)) p ∙ rw n (blocks s t ls lt))

pub long_tweaked_is : (p : Params) (pk : List ℕ) (a : Address) (x : List ℕ) → length pk ≡ p.n → p.n ≤ 32 → length x ≤ 64
    → tweaked_hash SHA_512 p pk a x
    ≡ take p.n (digest_bytes (compress (compress initial_hash_512 (long_first_block p pk)) (long_second_block (compressed a) x)) 8)
long_tweaked_is p pk a x lp high lx =
    ap (take p.n) (sha512_two (long_first_block p pk) (compressed a) x (length-first_block 128 p pk lp (omega (arith, high))) refl (omega arith))
