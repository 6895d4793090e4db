-- Verifying in the pure form by the inner hash of H_msg, which the caller computes: ours, over FIPS 205, sections 9.3,
-- 10.3 and 11.2.
use Rattle.std.specs.Prelude.{◌≡◌, ℕ, ◌+◌, ◌*◌, List, ◌++◌, length}
use Rattle.slh_params.specs.Bits.{to_byte}
use Rattle.slh_params.specs.Params.{Params, sig_len}
use Rattle.slh_params.specs.ParamSet.{params}
use Rattle.slh_hash.specs.HashFunctions.{category_function}
use Rattle.slh_hash.specs.Keyed.{inner_hash_len, H_msg_by_hash}
use Rattle.slh_core.specs.Keys.{Key, pk_seed, pk_root}
use Rattle.slh_core.specs.Signatures.{get_r, get_sig_fors, get_sig_ht, root_of_parts}

-- all that the inner hash hashes before the message: R, PK.seed, PK.root, 0, the length of the context, the context
abbrev pub verify_front : Key → List ℕ → List ℕ → List ℕ
verify_front pk ctx sig =
    get_r (params pk.set) sig ++ pk_seed pk ++ pk_root pk ++ (to_byte 0 1 ++ to_byte (length ctx) 1 ++ ctx)

-- the length of that front
abbrev pub front_len : Params → List ℕ → ℕ
front_len p ctx = 3 * p.n + 2 + length ctx

-- the hash of the front and the message: by SHA-256 if n is 16, else by SHA-512
abbrev pub hash_after_front : Key → List ℕ → List ℕ → List ℕ → List ℕ
hash_after_front pk ctx sig msg = (category_function (params pk.set)).hash (verify_front pk ctx sig ++ msg)

-- the root of the top tree that a signature gives, if this is the inner hash (Algorithm 20, lines 4 to 17)
abbrev pub root_by_hash : Key → List ℕ → List ℕ → List ℕ
root_by_hash pk hash sig =
    let p = params pk.set in
    root_of_parts pk (H_msg_by_hash p (get_r p sig) (pk_seed pk) hash) (get_sig_fors p sig) (get_sig_ht p sig)

-- the bytes are a valid signature of a message with this inner hash
pub record IsValidByHash (pk : Key) (hash sig : List ℕ) : Type 0 where
  pub hash_len : length hash ≡ inner_hash_len (params pk.set)
  pub len : length sig ≡ sig_len (params pk.set)
  pub root : root_by_hash pk hash sig ≡ pk_root pk
