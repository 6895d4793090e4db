-- The verdict on a message that comes in pieces.
use Rattle.std.proofs.Common.{◌≡◌, ◌↔◌, ℕ, ◌≤◌, Bool, IsTrue, List, length, sym, subst}
use Rattle.slh_params.specs.Params.{sig_len}
use Rattle.slh_params.specs.ParamSet.{params}
use Rattle.slh_core.specs.Keys.{Key, pk_root}
use Rattle.slh_core.specs.Messages.{pure_message}
use Rattle.slh_core.specs.Signatures.{digest_of, get_r, get_sig_fors, get_sig_ht, root_of_parts, IsValid}

-- a signature of the right length that gives PK.root for the digest of M' is valid, and no other
pub judged_by_digest : (pk : Key) (ctx sig msg digest : List ℕ) (answer : Bool) → length ctx ≤ 255 → length sig ≡ sig_len (params pk.set)
    → digest ≡ digest_of pk (get_r (params pk.set) sig) (pure_message ctx msg)
    → (IsTrue answer ↔ (root_of_parts pk digest (get_sig_fors (params pk.set) sig) (get_sig_ht (params pk.set) sig) ≡ pk_root pk))
    → IsTrue answer ↔ ((length ctx ≤ 255) × IsValid pk (pure_message ctx msg) sig)
judged_by_digest pk ctx sig msg digest answer short len e h =
    let Gives : List ℕ → Type 0 = λ d. root_of_parts pk d (get_sig_fors (params pk.set) sig) (get_sig_ht (params pk.set) sig) ≡ pk_root pk in (
      λ t. (short, record { len = len; root = subst Gives e (h.0 t) }),
      λ v. h.1 (subst Gives (sym e) v.1.root),
    )
