use Rattle.std.proofs.Common.{ℕ, List, ◌++◌, take}
use Rattle.slh_hash.specs.Keyed.{joined}
use Rattle.slh_hash.proofs.hash_function.absorb.Given as goal

abbrev pub invariant-loop-part : goal.invariant-loop-part
invariant-loop-part g l =
    (m : List ℕ) → g.D.Digest.holds l.initial.hasher m → g.D.Digest.holds l.hasher (m ++ joined (take l.part-index l.parts))
