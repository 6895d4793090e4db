-- F, PRF, T and PRF_msg give n bytes.
use Rattle.std.proofs.Common.{◌≡◌, ◌==◌, if◌then◌else◌, ℕ, ◌≤◌, true, false, List, ◌++◌, length, take, arith}
use Rattle.std.proofs.lemmas.List.{length-take-le}
use Rattle.slh_params.specs.Address.{Address}
use Rattle.slh_params.specs.Params.{Params}
use Rattle.slh_hash.specs.HashFunctions.{HashFunction, IsSized, SHA_256, SHA_512, category_function, sized_256, sized_512}
use Rattle.slh_hash.specs.Hash.{F, PRF, T, tweaked, tweaked_hash}
use Rattle.slh_hash.specs.Keyed.{hmac, hmac_message, PRF_msg}

pub sized_category : (p : Params) → IsSized (category_function p)
sized_category p = elim (p.n == 16) as (λ b. IsSized (if b then SHA_256 else SHA_512)) [ true ↦ sized_256 | false ↦ sized_512 ]

length-tweaked_hash : (f : HashFunction) → IsSized f → (p : Params) (pk : List ℕ) (a : Address) (x : List ℕ) → p.n ≤ 32 → length (tweaked_hash f p pk a x) ≡ p.n
length-tweaked_hash f h p pk a x n = length-take-le p.n _ (omega (arith, h.digests (tweaked f.block p pk a x), h.low))

pub length-F : (p : Params) (pk : List ℕ) (a : Address) (x : List ℕ) → p.n ≤ 32 → length (F p pk a x) ≡ p.n
unfolding F
length-F p pk a x h = length-tweaked_hash SHA_256 sized_256 p pk a x h

pub length-PRF : (p : Params) (pk sk : List ℕ) (a : Address) → p.n ≤ 32 → length (PRF p pk sk a) ≡ p.n
unfolding PRF
length-PRF p pk sk a h = length-tweaked_hash SHA_256 sized_256 p pk a sk h

pub length-T : (p : Params) (pk : List ℕ) (a : Address) (x : List ℕ) → p.n ≤ 32 → length (T p pk a x) ≡ p.n
unfolding T
length-T p pk a x h = length-tweaked_hash (category_function p) (sized_category p) p pk a x h

length-hmac : (f : HashFunction) → IsSized f → (key text : List ℕ) → length (hmac f key text) ≡ f.size
unfolding hmac
length-hmac f h key text = h.digests (hmac_message f key text)

pub category_hmac_size : (p : Params) (key text : List ℕ) → length (hmac (category_function p) key text) ≡ (category_function p).size
category_hmac_size p key text = length-hmac (category_function p) (sized_category p) key text

-- an HMAC that is cut to n bytes
pub length-cut_hmac : (p : Params) (key text : List ℕ) → p.n ≤ 32 → length (take p.n (hmac (category_function p) key text)) ≡ p.n
length-cut_hmac p key text h =
    let f : HashFunction = category_function p in
    let sized : IsSized f = sized_category p in
    length-take-le p.n _ (omega (arith, h, length-hmac f sized key text, sized.low))

pub length-PRF_msg : (p : Params) (sk_prf opt_rand msg : List ℕ) → p.n ≤ 32 → length (PRF_msg p sk_prf opt_rand msg) ≡ p.n
unfolding PRF_msg
length-PRF_msg p sk_prf opt_rand msg h = length-cut_hmac p sk_prf (opt_rand ++ msg) h
