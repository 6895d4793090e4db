-- Eight signatures under one set: ours, over FIPS 205, section 9.3.
use Rattle.std.specs.Prelude.{◌≡◌, ℕ, ◌*◌, ◌^◌, ◌<◌, List, length, slice_index_or}
use Rattle.slh_params.specs.Params.{sig_len}
use Rattle.slh_params.specs.ParamSet.{params}
use Rattle.slh_params.specs.declared.param_set.ParamSet.{ParamSet}
use Rattle.slh_hash.specs.Keyed.{joined}
use Rattle.slh_few.specs.Hypertree.{ht_root_from_sig}
use Rattle.slh_few.specs.Xmss.{xmss_sig_len}
use Rattle.slh_core.specs.Signatures.{root_of_signature, IsValid}
use Rattle.slh_core.specs.declared.eight.HtPart.{HtPart}
use Rattle.slh_core.specs.declared.eight.SignedParts.{SignedParts}

-- the signature is valid for the parts put end to end
abbrev pub IsPartsValid : SignedParts → Type 0
IsPartsValid x = IsValid x.pk.now (joined x.parts) x.sig.now

-- the key is of this set, and the signature of its length
abbrev pub IsOfSet : ParamSet → SignedParts → Type 0
IsOfSet set x = (x.pk.now.set ≡ set) × (length x.sig.now ≡ sig_len (params set))

-- so is each of the eight
abbrev pub AreOfSet : ParamSet → List SignedParts → Type 0
AreOfSet set items = (j : ℕ) (x : SignedParts) → j < 8 → IsOfSet set (slice_index_or items j x)

-- the root of the top tree that the signature gives
abbrev pub root_of : SignedParts → List ℕ
root_of x = root_of_signature x.pk.now (joined x.parts) x.sig.now

-- what the hypertree signs, and its signature, are of this set, and give this root
abbrev pub Gives : ParamSet → List ℕ → HtPart → Type 0
Gives set root r =
    let p = params set in
    (r.context.set ≡ set) × (r.at.idx_leaf < 2 ^ p.hp) × (length r.pk_fors.items ≡ p.n)
    × (length r.sig_ht.now ≡ p.d * xmss_sig_len p)
    × (ht_root_from_sig p r.context.pk_seed.now r.pk_fors.items r.at.idx_tree r.at.idx_leaf r.sig_ht.now ≡ root)

-- eight of them give these roots
abbrev pub AreGiving : ParamSet → (ℕ → List ℕ) → List HtPart → Type 0
AreGiving set root parts = (j : ℕ) (r : HtPart) → j < 8 → Gives set (root j) (slice_index_or parts j r)
