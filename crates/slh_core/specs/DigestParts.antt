-- The parts of a message digest (FIPS 205, section 9.2, Algorithm 19, lines 6 to 10).
use Rattle.std.specs.Prelude.{ℕ, ◌+◌, ◌-◌, ◌%◌, ◌^◌, List, take, drop}
use Rattle.slh_params.specs.Bits.{to_int}
use Rattle.slh_params.specs.Params.{Params, h, md_len, tree_len, leaf_len}

-- the part that FORS signs
abbrev pub md : Params → List ℕ → List ℕ
md p digest = take (md_len p) digest

-- the tree of layer 0
unfoldable pub idx_tree : Params → List ℕ → ℕ
idx_tree p digest = to_int (take (tree_len p) (drop (md_len p) digest)) % 2 ^ (h p - p.hp)

-- the leaf in that tree
unfoldable pub idx_leaf : Params → List ℕ → ℕ
idx_leaf p digest = to_int (take (leaf_len p) (drop (md_len p + tree_len p) digest)) % 2 ^ p.hp
