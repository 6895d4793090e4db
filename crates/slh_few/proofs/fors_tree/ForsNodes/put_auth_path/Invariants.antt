use Rattle.std.proofs.Common.{◌≡◌, ◌*◌, take}
use Rattle.slh_params.specs.ParamSet.{params}
use Rattle.slh_tree.specs.Climb.{path_below}
use Rattle.slh_few.specs.Trees.{fors_nodes_of}
use Rattle.slh_few.proofs.fors_tree.ForsNodes.put_auth_path.Given as goal

abbrev pub invariant-loop-z : goal.invariant-loop-z
invariant-loop-z l = take (l.z * (params l.self.signer.now.public.set).n) l.out ≡ path_below (fors_nodes_of l.self) l.i l.z
