use Rattle.std.proofs.Common.{◌≡◌, ◌*◌, take}
use Rattle.slh_few.specs.Chunks.{end_to_end}
use Rattle.slh_few.specs.Paths.{node_bytes}
use Rattle.slh_few.proofs.path_bytes.put_known_nodes.Given as goal

abbrev pub invariant-loop-z : goal.invariant-loop-z
invariant-loop-z l = take (l.z * l.n) l.out ≡ end_to_end (node_bytes l.path) l.z
