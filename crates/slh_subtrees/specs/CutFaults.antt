-- Where trees are cut, and when they are not: ours.
use Rattle.std.specs.Prelude.{ℕ, ◌≤◌, ◌^◌, ◌&&◌, if◌then◌else◌, nat_le, List, [], ◌∷◌, ◌++◌, length, Option, Some, None}
use Rattle.std.specs.List.Sorted.{IsStrictlyIncreasing}
use Rattle.std.specs.Option.{option_map, option_or}
use Rattle.slh_params.specs.Params.{Params}
use Rattle.slh_subtrees.specs.Points.{first_bad, level_points}
use Rattle.slh_subtrees.specs.declared.cuts.Cuts.{Cuts}
use Rattle.slh_subtrees.specs.declared.cuts.Cuts.TheVariants.{Levels, Points}
use Rattle.slh_subtrees.specs.declared.fault.CutTree.{CutTree}
use Rattle.slh_subtrees.specs.declared.fault.CutTree.TheVariants.{Xmss, Fors}
use Rattle.slh_subtrees.specs.declared.fault.CutFault.{CutFault}
use Rattle.slh_subtrees.specs.declared.fault.CutFault.TheVariants.{BadCutting}

-- the points at which trees of this height are cut
abbrev pub cut_points : ℕ → Cuts → List ℕ
cut_points height (Levels level) = level_points height level
cut_points height (Points points) = points.now

-- trees of this height may be cut so: at most 8 levels, or at most 255 points, all of them rising between 0 and the
-- number of leaves
abbrev pub IsInRule : ℕ → Cuts → Type 0
IsInRule height (Levels level) = (level ≤ height) × (level ≤ 8)
IsInRule height (Points points) = IsStrictlyIncreasing (0 ∷ points.now ++ 2 ^ height ∷ []) × (length points.now ≤ 255)

-- the fault of the cuts of the trees of one kind, if any
abbrev pub fault_of : CutTree → ℕ → Cuts → Option CutFault
fault_of tree height (Levels level) = (if nat_le level height && nat_le level 8 then None else Some (BadCutting tree level))
fault_of tree height (Points points) = option_map (λ place. BadCutting tree place) (first_bad (2 ^ height) 0 0 points.now)

-- the fault of the cuts of a parameter set's trees, if any; the XMSS trees are checked first
abbrev pub cut_fault : Params → Cuts → Cuts → Option CutFault
cut_fault p xmss fors = option_or (fault_of Xmss p.hp xmss) (fault_of Fors p.a fors)
