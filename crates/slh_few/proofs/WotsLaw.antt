-- The key that a WOTS+ signature gives is the public key.
use Rattle.std.proofs.Common.{◌≡◌, ℕ, ◌-◌, ◌*◌, ◌^◌, ◌<◌, ◌≤◌, List, length, ap, ◌∙◌, arith}
use Rattle.std.proofs.Math.Nat.{mul-le-mul}
use Rattle.slh_params.specs.declared.param_set.ParamSet.{ParamSet}
use Rattle.slh_params.specs.ParamSet.{params}
use Rattle.slh_params.proofs.Bounds.{len_high, n_high}
use Rattle.slh_params.specs.Params.{Params, w, len}
use Rattle.slh_hash.specs.Hash.{T}
use Rattle.slh_few.specs.Chunks.{end_to_end, chunk}
use Rattle.slh_few.specs.Wots.{chain, digit, secret, wots_address, whole_chain, signed_chain, finished_chain, wots_pk, wots_sig, wots_pk_from_sig}
use Rattle.slh_few.specs.declared.place.Place.{Place}
use Rattle.slh_hash.proofs.Lengths.{length-PRF}
use Rattle.slh_few.proofs.Chains.{length-chain, chain-rest}
use Rattle.slh_few.proofs.DigitBounds.{digit-small}
use Rattle.slh_few.proofs.Ends.{end_to_end-same, chunk-end_to_end, length-end_to_end}

-- a secret has n bytes
pub length-secret : (p : Params) (sk pk : List ℕ) (at : Place) (c : ℕ) → p.n ≤ 32 → length (secret p sk pk at c) ≡ p.n
unfolding secret
length-secret p sk pk at c h = length-PRF p pk sk _ h

-- the ends of all chains are short
pub ends_few : (s : ParamSet) (sk pk : List ℕ) (at : Place) → length (end_to_end (whole_chain (params s) sk pk at) (len (params s))) < 2 ^ 28
ends_few s sk pk at =
    let p = params s in
    let all : length (end_to_end (whole_chain p sk pk at) (len p)) ≡ len p * p.n =
    length-end_to_end (whole_chain p sk pk at) p.n (len p) (λ c l.
    length-chain p pk at c (secret p sk pk at c) 0 (w p - 1) (n_high s) (length-secret p sk pk at c (n_high s))) in
    let most : len p * p.n ≤ 133 * 32 = mul-le-mul (len_high s) (n_high s) in
    omega (arith, all, most)

-- a chunk of the signature has n bytes
pub length-signed_chain : (p : Params) (sk pk : List ℕ) (at : Place) (m : List ℕ) (c : ℕ) → p.n ≤ 32 → length (signed_chain p sk pk at m c) ≡ p.n
length-signed_chain p sk pk at m c h = length-chain p pk at c (secret p sk pk at c) 0 (digit p m c) h (length-secret p sk pk at c h)

-- the signature has len n bytes
pub length-wots_sig : (p : Params) (sk pk : List ℕ) (at : Place) (m : List ℕ) → p.n ≤ 32 → length (wots_sig p sk pk at m) ≡ len p * p.n
unfolding wots_sig
length-wots_sig p sk pk at m h = length-end_to_end (signed_chain p sk pk at m) p.n (len p) (λ c l. length-signed_chain p sk pk at m c h)

-- each chain that the signature's chunk is run on to is the whole chain
finished : (p : Params) (sk pk : List ℕ) (at : Place) (m : List ℕ) → p.n ≤ 32 → (c : ℕ) → c < len p
    → finished_chain p pk at m (wots_sig p sk pk at m) c ≡ whole_chain p sk pk at c
unfolding wots_sig
finished p sk pk at m h c l =
    let d = digit p m c in
    let x = secret p sk pk at c in
    let here : chunk p.n (end_to_end (signed_chain p sk pk at m) (len p)) c ≡ chain p pk at c x 0 d =
    chunk-end_to_end (signed_chain p sk pk at m) p.n (len p) c l (λ j i. length-signed_chain p sk pk at m j h) in
    ap (λ y. chain p pk at c y d (w p - 1 - d)) here
    ∙ chain-rest p pk at c x d (w p - 1) (omega (arith, digit-small p m c))

-- the signature's key is the public key
pub wots_pk_from_sig-wots_sig : (p : Params) (sk pk : List ℕ) (at : Place) (m : List ℕ) → p.n ≤ 32
    → wots_pk_from_sig p pk at m (wots_sig p sk pk at m) ≡ wots_pk p sk pk at
unfolding wots_pk_from_sig wots_pk
wots_pk_from_sig-wots_sig p sk pk at m h =
    ap (λ x. T p pk (wots_address at 1 0 0) x)
    (end_to_end-same (finished_chain p pk at m (wots_sig p sk pk at m)) (whole_chain p sk pk at) (len p) (finished p sk pk at m h))
