-- The trees of a signature as trees: their heights, and that all nodes have n bytes.
use Rattle.std.proofs.Common.{◌≡◌, ℕ, length, refl, ◌∙◌}
use Rattle.slh_params.specs.ParamSet.{params}
use Rattle.slh_tree.specs.Tree.{Lawful, node}
use Rattle.slh_tree.proofs.Authentic.{node_width}
use Rattle.slh_few.specs.Trees.{xmss_tree-lawful, fors_tree-lawful}
use Rattle.slh_subtrees.specs.Jobs.{height_of}
use Rattle.slh_subtrees.specs.Trees.{TreeSource, tree_of}
use Rattle.slh_subtrees.specs.declared.range.JobTree.{JobTree}
use Rattle.slh_subtrees.specs.declared.range.JobTree.TheVariants.{Xmss, Fors}

pub tree-height : (s : TreeSource) (tree : JobTree) → height_of (params s.set) tree ≡ (tree_of s tree).height
tree-height s (Xmss l) = refl
tree-height s (Fors j) = refl

pub tree-width : (s : TreeSource) (tree : JobTree) → (tree_of s tree).width ≡ (params s.set).n
tree-width s (Xmss l) = refl
tree-width s (Fors j) = refl

pub tree-lawful : (s : TreeSource) (tree : JobTree) → Lawful (tree_of s tree)
tree-lawful s (Xmss l) = xmss_tree-lawful s.set s.sk_seed s.pk_seed l _
tree-lawful s (Fors j) = fors_tree-lawful s.set s.sk_seed s.pk_seed s.idx_tree s.idx_leaf j

pub length-tree_node : (s : TreeSource) (tree : JobTree) (z i : ℕ) → length (node (tree_of s tree) z i) ≡ (params s.set).n
length-tree_node s tree z i = node_width (tree_of s tree) (tree-lawful s tree) z i ∙ tree-width s tree
