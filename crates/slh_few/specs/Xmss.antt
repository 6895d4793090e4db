-- XMSS (FIPS 205, section 6).
use Rattle.std.specs.Prelude.{◌≡◌, ℕ, ◌+◌, ◌*◌, ◌<◌, List, [], ◌++◌, length, slice_index_or, take, drop}
use Rattle.arrayvec.specs.ArrayVec.{ArrayVec}
use Rattle.slh_params.specs.Address.{address, TREE}
use Rattle.slh_params.specs.Params.{Params, len}
use Rattle.slh_hash.specs.Hash.{H}
use Rattle.slh_tree.specs.Tree.{MerkleTree}
use Rattle.slh_tree.specs.Climb.{path, climb}
use Rattle.slh_few.specs.Wots.{wots_pk, wots_sig, wots_pk_from_sig}
use Rattle.slh_few.specs.declared.place.Place.{Place}

-- the place with these numbers
abbrev pub place : ℕ → ℕ → ℕ → Place
place l t i = record { layer = l; tree = t; pair = i }

-- the nodes are the public keys at this place and those after it
abbrev pub AreKeysFrom : Params → List ℕ → List ℕ → Place → List (ArrayVec ℕ) → Type 0
AreKeysFrom p sk_seed pk_seed at keys = (j : ℕ) (d : ArrayVec ℕ) → j < length keys
    → (slice_index_or keys j d).items ≡ wots_pk p sk_seed pk_seed (place at.layer at.tree (at.pair + j))

-- tree t of layer l: its leaves are WOTS+ public keys (Algorithm 9)
abbrev pub xmss_tree : Params → List ℕ → List ℕ → ℕ → ℕ → MerkleTree
xmss_tree p sk_seed pk_seed l t = record {
  height = p.hp;
  width = p.n;
  leaf = λ i. wots_pk p sk_seed pk_seed (place l t i);
  join = λ z i x y. H p pk_seed (address l t TREE 0 z i) x y;
}

-- the length of a WOTS+ signature, and of an XMSS signature
abbrev pub wots_sig_len : Params → ℕ
wots_sig_len p = len p * p.n

abbrev pub xmss_sig_len : Params → ℕ
xmss_sig_len p = (len p + p.hp) * p.n

-- the signature: that of the leaf's WOTS+ key, then the leaf's path (Algorithm 10)
unfoldable pub xmss_sig : Params → List ℕ → List ℕ → Place → List ℕ → List ℕ
xmss_sig p sk_seed pk_seed at m = wots_sig p sk_seed pk_seed at m ++ path (xmss_tree p sk_seed pk_seed at.layer at.tree) at.pair

-- the root that a signature gives (Algorithm 11); climbing makes no leaf, so that no SK.seed is needed
unfoldable pub xmss_pk_from_sig : Params → List ℕ → Place → List ℕ → List ℕ → List ℕ
xmss_pk_from_sig p pk_seed at m sig =
    climb (xmss_tree p [] pk_seed at.layer at.tree) at.pair
    (wots_pk_from_sig p pk_seed at m (take (wots_sig_len p) sig)) (drop (wots_sig_len p) sig)
