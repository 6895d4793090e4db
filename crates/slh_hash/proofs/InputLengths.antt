-- How many bytes F, PRF, H and T hash: a block, an address of 22 bytes, and the nodes. Worked examples by computing.
use Rattle.std.proofs.Common.{◌≡◌, ℕ, ◌+◌, ◌-◌, ◌*◌, ◌≤◌, List, ◌++◌, length, arith, length-append, refl, lit≤}
use Rattle.std.proofs.lemmas.List.{length-replicate}
use Rattle.slh_params.specs.Address.{Address, compressed}
use Rattle.slh_params.specs.Bits.{to_byte}
use Rattle.slh_params.specs.Params.{Params}
use Rattle.slh_params.specs.ParamSet.{params, S128s, S128f, S192s, S192f, S256f}
use Rattle.slh_hash.specs.Hash.{tweaked}
use Rattle.slh_hash.specs.HashFunctions.{category_function}
use Rattle.slh_hash.proofs.Zeros.{to_byte-zero}

length-tweaked : (block : ℕ) (p : Params) (pk : List ℕ) (a : Address) (x : List ℕ) → length pk ≡ p.n → p.n ≤ block
    → length (tweaked block p pk a x) ≡ block + 22 + length x
length-tweaked block p pk a x e h =
    let zeros : length (to_byte 0 (block - p.n)) ≡ block - p.n = rw (to_byte-zero (block - p.n)) (length-replicate (block - p.n) 0) in
    let adrs : length (compressed a) ≡ 22 = refl in
    omega (
      arith,
      length-append ((pk ++ to_byte 0 (block - p.n)) ++ compressed a) x,
      length-append (pk ++ to_byte 0 (block - p.n)) (compressed a),
      length-append pk (to_byte 0 (block - p.n)),
      zeros,
      adrs,
      e,
      h,
    )

-- F of 128f hashes 102 bytes
f_128f : (pk : List ℕ) (a : Address) (x : List ℕ) → length pk ≡ 16 → length x ≡ 16 → length (tweaked 64 (params S128f) pk a x) ≡ 102
unfolding params
f_128f pk a x e n = omega (arith, length-tweaked 64 (params S128f) pk a x e (lit≤ tt), n)

-- PRF of 192f hashes 110
prf_192f : (pk : List ℕ) (a : Address) (sk : List ℕ) → length pk ≡ 24 → length sk ≡ 24 → length (tweaked 64 (params S192f) pk a sk) ≡ 110
unfolding params
prf_192f pk a sk e n = omega (arith, length-tweaked 64 (params S192f) pk a sk e (lit≤ tt), n)

-- H of 192s hashes 198, by SHA-512
h_192s : (pk : List ℕ) (a : Address) (x : List ℕ) → length pk ≡ 24 → length x ≡ 2 * 24
    → length (tweaked (category_function (params S192s)).block (params S192s) pk a x) ≡ 198
unfolding params
h_192s pk a x e n = omega (arith, length-tweaked 128 (params S192s) pk a x e (lit≤ tt), n)

-- T over the k nodes of 128s hashes 310, by SHA-256
t_128s : (pk : List ℕ) (a : Address) (x : List ℕ) → length pk ≡ 16 → length x ≡ 14 * 16
    → length (tweaked (category_function (params S128s)).block (params S128s) pk a x) ≡ 310
unfolding params
t_128s pk a x e n = omega (arith, length-tweaked 64 (params S128s) pk a x e (lit≤ tt), n)

-- T over the len nodes of 256f hashes 2294, by SHA-512
t_256f : (pk : List ℕ) (a : Address) (x : List ℕ) → length pk ≡ 32 → length x ≡ 67 * 32
    → length (tweaked (category_function (params S256f)).block (params S256f) pk a x) ≡ 2294
unfolding params
t_256f pk a x e n = omega (arith, length-tweaked 128 (params S256f) pk a x e (lit≤ tt), n)
