use Rattle.std.proofs.Common.{◌-◌, ◌++◌, refl}
use Rattle.sha2.specs.Hashers.{Holds256}
use Rattle.slh_params.specs.Bits.{to_byte}
use Rattle.slh_hash.specs.Seeded.{IsSeeded}
use Rattle.slh_hash.proofs.seeded_hash.SeededHash.digest.Goals as goal

pub returns-clause-value : goal.returns-clause-value
unfolding IsSeeded
returns-clause-value c = λ p pk h.
    let s : Holds256 c.in-Ok.state (pk ++ to_byte 0 (64 - p.n)) = rw c.in-Ok.ensures.cases h.1 in
    let d = c.finalize-digest.ensures _ (c.update-2.ensures _ (c.update.ensures _ s)) in
    rw (c.truncated.ensures.front, c.n.ensures, d, c.compressed.ensures, h.0) refl
