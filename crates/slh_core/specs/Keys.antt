-- Keys as byte strings, and their generation (FIPS 205, section 9.1, Algorithm 18).
use Rattle.std.specs.Prelude.{◌≡◌, ℕ, ◌-◌, ◌*◌, List, ◌++◌, take, drop}
use Rattle.slh_params.specs.Params.{Params}
use Rattle.slh_params.specs.ParamSet.{params}
use Rattle.slh_params.specs.declared.param_set.ParamSet.{ParamSet}
use Rattle.slh_tree.specs.Tree.{root}
use Rattle.slh_few.specs.Xmss.{xmss_tree}

-- a secret key SK.seed ‖ SK.prf ‖ PK.seed ‖ PK.root, or a public key PK.seed ‖ PK.root; each part has n bytes
pub record Key : Type 0 where
  pub set : ParamSet
  pub bytes : List ℕ

-- SK.seed of a secret key
abbrev pub sk_seed : Key → List ℕ
sk_seed sk = take (params sk.set).n sk.bytes

-- SK.prf of a secret key
abbrev pub sk_prf : Key → List ℕ
sk_prf sk = take (params sk.set).n (drop (params sk.set).n sk.bytes)

-- the public key of a secret key
abbrev pub public_of : Key → Key
public_of sk = record { set = sk.set; bytes = drop (2 * (params sk.set).n) sk.bytes }

-- PK.seed of a public key
abbrev pub pk_seed : Key → List ℕ
pk_seed pk = take (params pk.set).n pk.bytes

-- PK.root of a public key
abbrev pub pk_root : Key → List ℕ
pk_root pk = drop (params pk.set).n pk.bytes

-- the root of the one tree of the top layer, under SK.seed and PK.seed
unfoldable pub top_root : Params → List ℕ → List ℕ → List ℕ
top_root p sk_seed pk_seed = root (xmss_tree p sk_seed pk_seed (p.d - 1) 0)

-- the secret key of three seeds (Algorithm 18)
abbrev pub generated_key : ParamSet → List ℕ → List ℕ → List ℕ → Key
generated_key set sk_seed sk_prf pk_seed =
    record { set = set; bytes = sk_seed ++ sk_prf ++ pk_seed ++ top_root (params set) sk_seed pk_seed }

-- PK.root of the secret key is the root that its seeds give
unfoldable pub IsGeneratedKey : Key → Type 0
IsGeneratedKey sk = pk_root (public_of sk) ≡ top_root (params sk.set) (sk_seed sk) (pk_seed (public_of sk))
