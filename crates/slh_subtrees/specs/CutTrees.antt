-- The view of a cutting, for contracts: ours.
use Rattle.std.specs.Prelude.{ℕ, List}
use Rattle.slh_params.specs.declared.param_set.ParamSet.{ParamSet}

-- A parameter set, and the points at which its XMSS trees and its FORS trees are cut
pub record CutTrees : Type 0 where
  pub set : ParamSet
  pub xmss : List ℕ
  pub fors : List ℕ
