-- FORS (FIPS 205, section 8).
use Rattle.std.specs.Prelude.{ℕ, ◌+◌, ◌-◌, ◌*◌, ◌^◌, List, [], ◌++◌, take, drop, slice_index}
use Rattle.slh_params.specs.Address.{address, FORS_TREE, FORS_ROOTS, FORS_PRF}
use Rattle.slh_params.specs.Bits.{base_2b}
use Rattle.slh_params.specs.Params.{Params}
use Rattle.slh_hash.specs.Hash.{F, PRF, T, H}
use Rattle.slh_tree.specs.Tree.{MerkleTree}
use Rattle.slh_tree.specs.Climb.{path, climb}
use Rattle.slh_few.specs.Chunks.{end_to_end, chunk}

-- secret number u (Algorithm 14), at tree t and key pair i as all below
unfoldable pub fors_secret : Params → List ℕ → List ℕ → ℕ → ℕ → ℕ → List ℕ
fors_secret p sk_seed pk_seed t i u = PRF p pk_seed sk_seed (address 0 t FORS_PRF i 0 u)

-- the leaf over a secret
abbrev pub fors_leaf : Params → List ℕ → ℕ → ℕ → ℕ → List ℕ → List ℕ
fors_leaf p pk_seed t i u x = F p pk_seed (address 0 t FORS_TREE i 0 u) x

-- FORS tree j, whose nodes are numbered on from those of the trees before it (Algorithm 15)
abbrev pub fors_tree : Params → List ℕ → List ℕ → ℕ → ℕ → ℕ → MerkleTree
fors_tree p sk_seed pk_seed t i j = record {
  height = p.a;
  width = p.n;
  leaf = λ v. fors_leaf p pk_seed t i (j * 2 ^ p.a + v) (fors_secret p sk_seed pk_seed t i (j * 2 ^ p.a + v));
  join = λ z v x y. H p pk_seed (address 0 t FORS_TREE i z (j * 2 ^ (p.a - z) + v)) x y;
}

-- the leaf of tree j that a message digest asks for
abbrev pub fors_index : Params → List ℕ → ℕ → ℕ
fors_index p md j = slice_index (base_2b md p.a p.k) j

-- the length of a secret and its path
abbrev pub fors_part_len : Params → ℕ
fors_part_len p = (1 + p.a) * p.n

-- of tree j the secret asked for, then its leaf's path
abbrev pub fors_part : Params → List ℕ → List ℕ → ℕ → ℕ → List ℕ → ℕ → List ℕ
fors_part p sk_seed pk_seed t i md j =
    fors_secret p sk_seed pk_seed t i (j * 2 ^ p.a + fors_index p md j)
    ++ path (fors_tree p sk_seed pk_seed t i j) (fors_index p md j)

-- the signature (Algorithm 16)
unfoldable pub fors_sig : Params → List ℕ → List ℕ → ℕ → ℕ → List ℕ → List ℕ
fors_sig p sk_seed pk_seed t i md = end_to_end (fors_part p sk_seed pk_seed t i md) p.k

-- the root of tree j that a secret and a path give; climbing makes no leaf, so that no SK.seed is needed
abbrev pub fors_root : Params → List ℕ → ℕ → ℕ → List ℕ → ℕ → List ℕ → List ℕ
fors_root p pk_seed t i md j sig =
    climb (fors_tree p [] pk_seed t i j) (fors_index p md j)
    (fors_leaf p pk_seed t i (j * 2 ^ p.a + fors_index p md j) (take p.n sig)) (drop p.n sig)

-- T over the roots of all trees
abbrev pub compressed_roots : Params → List ℕ → ℕ → ℕ → (ℕ → List ℕ) → List ℕ
compressed_roots p pk_seed t i roots = T p pk_seed (address 0 t FORS_ROOTS i 0 0) (end_to_end roots p.k)

-- the public key that a signature gives (Algorithm 17)
unfoldable pub fors_pk_from_sig : Params → List ℕ → ℕ → ℕ → List ℕ → List ℕ → List ℕ
fors_pk_from_sig p pk_seed t i md sig = compressed_roots p pk_seed t i (λ j. fors_root p pk_seed t i md j (chunk (fors_part_len p) sig j))
