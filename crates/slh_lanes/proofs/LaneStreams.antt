-- What T hashes in each lane.
use Rattle.std.proofs.Common.{◌≡◌, ℕ, ◌+◌, ◌-◌, ◌*◌, ◌/◌, ◌%◌, ◌≤◌, ◌==◌, true, false, if◌then◌else◌, List, ◌++◌, length, take, arith, refl, sym, ap, ◌∙◌, length-append}
use Rattle.sha2.specs.Sha256.{digest_bytes}
use Rattle.slh_params.specs.Address.{Address, compressed}
use Rattle.slh_params.specs.Bits.{to_byte}
use Rattle.slh_params.specs.Params.{Params}
use Rattle.slh_hash.specs.Hash.{T, tweaked, tweaked_hash}
use Rattle.slh_hash.specs.HashFunctions.{SHA_256, SHA_512}
use Rattle.slh_lanes.proofs.Tweaked.{length-first_block}
use Rattle.slh_lanes.proofs.WordBytes.{take_digest}

-- where n is 16, T hashes by SHA-256
pub short_T : (p : Params) (pk : List ℕ) (a : Address) (x : List ℕ) → (p.n == 16) ≡ true → tweaked_hash SHA_256 p pk a x ≡ T p pk a x
unfolding T
short_T p pk a x e = ap (λ b. tweaked_hash (if b then SHA_256 else SHA_512) p pk a x) (sym e)

-- else by SHA-512
pub long_T : (p : Params) (pk : List ℕ) (a : Address) (x : List ℕ) → (p.n == 16) ≡ false → tweaked_hash SHA_512 p pk a x ≡ T p pk a x
unfolding T
long_T p pk a x e = ap (λ b. tweaked_hash (if b then SHA_256 else SHA_512) p pk a x) (sym e)

pub length-tweaked : (size : ℕ) (p : Params) (pk : List ℕ) (a : Address) (x : List ℕ) → length pk ≡ p.n → p.n ≤ size
    → length (tweaked size p pk a x) ≡ size + 22 + length x
length-tweaked size p pk a x lp high =
    let s : List ℕ = pk ++ to_byte 0 (size - p.n) in
    let adrs : List ℕ = compressed a in
    let la : length adrs ≡ 22 = refl in
    omega (arith, length-append (s ++ adrs) x, length-append s adrs, length-first_block size p pk lp high, la)

-- the bytes of as many words as n bytes fill
pub digest_of_n : (ws : List ℕ) (m n : ℕ) → m ≡ n → n % 4 ≡ 0 → n ≤ 32 → digest_bytes ws (m / 4) ≡ take n (digest_bytes ws 8)
digest_of_n ws m n e whole high =
    let at : 4 * (m / 4) ≡ n = omega (arith, e, whole) in
    sym (take_digest ws (m / 4) 8 (omega (arith, at, high))) ∙ ap (λ (k : ℕ). take k (digest_bytes ws 8)) at
