-- Keys and signatures as parts put end to end.
use Rattle.std.proofs.Common.{◌≡◌, ℕ, ◌*◌, List, ◌++◌, length, take, drop, refl, ◌∙◌, arith, length-append}
use Rattle.std.proofs.lemmas.List.{append_assoc, take_at, drop_at}
use Rattle.slh_params.specs.Params.{sig_len}
use Rattle.slh_params.specs.ParamSet.{params}
use Rattle.slh_params.specs.declared.param_set.ParamSet.{ParamSet}
use Rattle.slh_core.specs.Keys.{Key, pk_root, top_root, generated_key, IsGeneratedKey}
use Rattle.slh_core.specs.Signatures.{digest_of, fors_sig_len, root_of_parts, IsValid}

-- the PK.root of a generated key is the root of its seeds
pub generated : (s : ParamSet) (a b c : List ℕ) → length a ≡ (params s).n → length b ≡ (params s).n → length c ≡ (params s).n
    → IsGeneratedKey (generated_key s a b c)
unfolding IsGeneratedKey
generated s a b c la lb lc =
    let n : ℕ = (params s).n in
    let r : List ℕ = top_root (params s) a c in
    let t : a ++ b ++ c ++ r ≡ (a ++ b) ++ (c ++ r) = append_assoc (a ++ b) c r in
    let u : a ++ b ++ c ++ r ≡ a ++ (b ++ (c ++ r)) = t ∙ append_assoc a b (c ++ r) in
    let e : drop (2 * n) (a ++ b ++ c ++ r) ≡ c ++ r = rw t (drop_at (a ++ b) (c ++ r) (2 * n) (omega (arith, length-append a b, la, lb))) in
    let f : take n (a ++ b ++ c ++ r) ≡ a = rw u (take_at a (b ++ (c ++ r)) n la) in
    let g : take n (c ++ r) ≡ c = take_at c r n lc in
    let k : drop n (c ++ r) ≡ r = drop_at c r n lc in
    rw (e, f, g, k) refl

-- a signature whose parts give the key's root is valid
pub valid : (pk : Key) (msg r rest out : List ℕ) → out ≡ r ++ rest → length r ≡ (params pk.set).n → length out ≡ sig_len (params pk.set)
    → root_of_parts pk (digest_of pk r msg) (take (fors_sig_len (params pk.set)) rest) (drop (fors_sig_len (params pk.set)) rest) ≡ pk_root pk
    → IsValid pk msg out
valid pk msg r rest out e l len root =
    let front : take (params pk.set).n out ≡ r = rw e (take_at r rest (params pk.set).n l) in
    let back : drop (params pk.set).n out ≡ rest = rw e (drop_at r rest (params pk.set).n l) in
    record { len = len; root = rw (front, back) root }
