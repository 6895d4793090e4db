-- The jobs of a signature and of key generation, the leaf ranges of their trees: ours.
use Rattle.std.specs.Prelude.{ℕ, ◌+◌, ◌-◌, ◌*◌, ◌<◌, ◌^◌, List, ◌++◌, length, map}
use Rattle.std.specs.List.{flat_map, range_with_len}
use Rattle.slh_params.specs.Params.{Params}
use Rattle.slh_params.specs.ParamSet.{params}
use Rattle.slh_subtrees.specs.CutTrees.{CutTrees}
use Rattle.slh_subtrees.specs.Points.{ranges}
use Rattle.slh_subtrees.specs.declared.range.JobTree.{JobTree}
use Rattle.slh_subtrees.specs.declared.range.JobTree.TheVariants.{Xmss, Fors}
use Rattle.slh_subtrees.specs.declared.range.JobRange.{JobRange}

-- the tree is one of a signature's: its layer is below d, or its number below k
abbrev pub IsTreeOf : Params → JobTree → Type 0
IsTreeOf p (Xmss layer) = layer < p.d
IsTreeOf p (Fors number) = number < p.k

-- the height of the tree
abbrev pub height_of : Params → JobTree → ℕ
height_of p (Xmss layer) = p.hp
height_of p (Fors number) = p.a

-- the points at which the tree is cut
abbrev pub cut_points_of : CutTrees → JobTree → List ℕ
cut_points_of c (Xmss layer) = c.xmss
cut_points_of c (Fors number) = c.fors

-- the ranges of the tree's leaves, from left to right
abbrev pub tree_ranges : CutTrees → JobTree → List (ℕ × ℕ)
tree_ranges c tree = ranges 0 (cut_points_of c tree) (2 ^ height_of (params c.set) tree)

-- these ranges as jobs
abbrev pub tree_jobs : CutTrees → JobTree → List JobRange
tree_jobs c tree = map (λ r. record { tree = tree; lo = r.0; hi = r.1 }) (tree_ranges c tree)

-- the jobs of a signature: those of its XMSS trees, layer 0 first, and then those of its FORS trees
abbrev pub signing_jobs : CutTrees → List JobRange
signing_jobs c =
    flat_map (λ layer. tree_jobs c (Xmss layer)) (range_with_len 0 (params c.set).d)
    ++ flat_map (λ number. tree_jobs c (Fors number)) (range_with_len 0 (params c.set).k)

-- the jobs of key generation: those of the XMSS tree of the top layer
abbrev pub key_generation_jobs : CutTrees → List JobRange
key_generation_jobs c = tree_jobs c (Xmss ((params c.set).d - 1))

-- the number of the tree's first job among those of a signature
abbrev pub first_job_of : CutTrees → JobTree → ℕ
first_job_of c (Xmss layer) = layer * (length c.xmss + 1)
first_job_of c (Fors number) = (params c.set).d * (length c.xmss + 1) + number * (length c.fors + 1)
