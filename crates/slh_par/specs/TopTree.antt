-- The XMSS tree of the top layer, whose root is in the public key (FIPS 205, Algorithm 18).
use Rattle.std.specs.Prelude.{◌≡◌, ◌-◌}
use Rattle.slh_params.specs.ParamSet.{params}
use Rattle.slh_tree.specs.Tree.{MerkleTree}
use Rattle.slh_tree.specs.Cover.{IsCover}
use Rattle.slh_tree.specs.declared.cover.Cover.{Cover}
use Rattle.slh_few.specs.Xmss.{xmss_tree}
use Rattle.slh_few.specs.declared.context.SigningContext.{SigningContext}
use Rattle.slh_subtrees.specs.declared.range.JobRange.{JobRange}

-- the tree
abbrev pub top_tree : SigningContext → MerkleTree
top_tree s = xmss_tree (params s.public.set) s.sk_seed.now s.public.pk_seed.now ((params s.public.set).d - 1) 0

-- the cover of a job's range
pub record IsTopAnswer (tree : MerkleTree) (job : JobRange) (c : Cover) : Type 0 where
  pub lo : c.lo ≡ job.lo
  pub hi : c.hi ≡ job.hi
  pub cover : IsCover tree c.lo c.hi c.nodes.items
