use Rattle.std.proofs.Common.{◌≡◌, ◌*◌, take, length}
use Rattle.slh_hash.specs.Keyed.{joined, mgf1_blocks}
use Rattle.slh_hash.proofs.mgf1.mgf1_of.Given as goal

abbrev pub invariant-loop-number : goal.invariant-loop-number
invariant-loop-number g l = take (l.size * l.number) l.out ≡ take (length l.out) (mgf1_blocks g.D.HashFunctionOf.function (joined l.parts) l.number)
