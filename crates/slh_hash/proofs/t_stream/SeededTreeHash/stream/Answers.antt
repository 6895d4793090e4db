use Rattle.std.proofs.Common.{◌-◌, ◌++◌}
use Rattle.std.proofs.lemmas.List.{append-nil}
use Rattle.slh_params.specs.Bits.{to_byte}
use Rattle.slh_hash.specs.HashFunctions.{category_function}
use Rattle.slh_hash.specs.Stream.{IsSeededTree, HasAbsorbed, HoldsFor}
use Rattle.slh_hash.proofs.t_stream.SeededTreeHash.stream.Goals as goal

pub returns : goal.returns
unfolding IsSeededTree HasAbsorbed
returns c = λ p pk h.
    let held : HoldsFor c.copy-hasher.result p (pk ++ to_byte 0 ((category_function p).block - p.n)) = rw c.copy-hasher.ensures h.1 in
    (h.0, rw append-nil (rw c.compressed.ensures at (c.update.ensures p _ held)))
