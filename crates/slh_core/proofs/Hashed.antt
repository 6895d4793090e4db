-- The inner hash of M' and the front with the message.
use Rattle.std.proofs.Common.{◌≡◌, ◌↔◌, ℕ, List, ◌++◌, length, ap, sym, ◌∙◌, subst}
use Rattle.std.proofs.lemmas.List.{append_assoc}
use Rattle.slh_params.specs.ParamSet.{params}
use Rattle.slh_hash.specs.HashFunctions.{category_function}
use Rattle.slh_hash.specs.Keyed.{inner_hash, inner_hash_len, H_msg_by_hash, H_msg}
use Rattle.slh_hash.proofs.Lengths.{sized_category}
use Rattle.slh_core.specs.Keys.{Key, pk_seed, pk_root}
use Rattle.slh_core.specs.Messages.{pure_message}
use Rattle.slh_core.specs.Signatures.{get_r, get_sig_fors, get_sig_ht, root_of_parts, digest_of, IsValid}
use Rattle.slh_core.specs.HashedMessages.{hash_after_front, IsValidByHash}

-- the front and the message are R, PK.seed, PK.root and M'
pub after_front : (pk : Key) (ctx sig msg : List ℕ)
    → hash_after_front pk ctx sig msg ≡ inner_hash (params pk.set) (get_r (params pk.set) sig) (pk_seed pk) (pk_root pk) (pure_message ctx msg)
after_front pk ctx sig msg =
    ap (category_function (params pk.set)).hash (append_assoc (get_r (params pk.set) sig ++ pk_seed pk ++ pk_root pk) _ msg)

-- by that hash H_msg is the digest of M'
pub digest_by_hash : (pk : Key) (ctx sig msg hash : List ℕ) → hash ≡ hash_after_front pk ctx sig msg
    → H_msg_by_hash (params pk.set) (get_r (params pk.set) sig) (pk_seed pk) hash ≡ digest_of pk (get_r (params pk.set) sig) (pure_message ctx msg)
unfolding H_msg
digest_by_hash pk ctx sig msg hash e =
    ap (H_msg_by_hash (params pk.set) (get_r (params pk.set) sig) (pk_seed pk)) (e ∙ after_front pk ctx sig msg)

-- valid by that hash is valid
pub same_verdict : (pk : Key) (ctx sig msg hash : List ℕ) → hash ≡ hash_after_front pk ctx sig msg
    → IsValidByHash pk hash sig ↔ IsValid pk (pure_message ctx msg) sig
same_verdict pk ctx sig msg hash e =
    let p = params pk.set in
    let Gives : List ℕ → Type 0 = λ d. root_of_parts pk d (get_sig_fors p sig) (get_sig_ht p sig) ≡ pk_root pk in
    let same = digest_by_hash pk ctx sig msg hash e in
    let size : length hash ≡ inner_hash_len p = ap length e ∙ (sized_category p).digests _ in (
      λ v. record { len = v.len; root = subst Gives same v.root },
      λ v. record { hash_len = size; len = v.len; root = subst Gives (sym same) v.root },
    )
