-- A verdict by the hash of the front and the message is that on the message.
use Rattle.std.proofs.Common.{◌≡◌, ◌≤◌, ◌↔◌, ℕ, List, length, Option, None, Some, IsSomeAnd}
use Rattle.slh_params.specs.Params.{pk_len}
use Rattle.slh_params.specs.ParamSet.{params}
use Rattle.slh_params.specs.declared.param_set.ParamSet.{ParamSet}
use Rattle.slh_core.specs.HashedMessages.{hash_after_front, IsValidByHash}
use Rattle.slh_core.specs.Messages.{pure_message}
use Rattle.slh_core.specs.Signatures.{IsValid}
use Rattle.slh_core.proofs.Hashed.{same_verdict}
use Rattle.slh_c.specs.Keys.{key}

pub of_message : (set : Option ParamSet) (Done : Type 0) (pk hash sig ctx msg : List ℕ)
    → (Done ↔ IsSomeAnd set (λ s. (length pk ≡ pk_len (params s)) × IsValidByHash (key s pk) hash sig))
    → length ctx ≤ 255 → IsSomeAnd set (λ s. hash ≡ hash_after_front (key s pk) ctx sig msg)
    → (Done ↔ IsSomeAnd set (λ s. (length pk ≡ pk_len (params s)) × (length ctx ≤ 255) × IsValid (key s pk) (pure_message ctx msg) sig))
of_message None Done pk hash sig ctx msg verdict short e = absurd e
of_message (Some s) Done pk hash sig ctx msg verdict short e =
    let same = same_verdict (key s pk) ctx sig msg hash e in (
      λ done. let facts = verdict.0 done in (facts.0, short, same.0 facts.1),
      λ facts. verdict.1 (facts.0, same.1 facts.2),
    )
