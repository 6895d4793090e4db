use Rattle.std.proofs.Common.{◌≡◌, ◌+◌, ◌*◌, ◌%◌, ◌^◌, ◌<◌, ap, arith}
use Rattle.std.proofs.lemmas.Nat.{one_shl}
use Rattle.slh_jobs.specs.Ranges.{below}
use Rattle.slh_jobs.proofs.Indices.{range_within}
use Rattle.slh_jobs.proofs.shape.Shape.leaves.Goals as goal

pub returns-clause-within : goal.returns-clause-within
returns-clause-within c =
    let s = c.args.self.now in
    let low : below s < 32 = omega (arith, c.requires.shape.high) in
    let size : 1 * 2 ^ below s % 2 ^ 32 ≡ 2 ^ below s = one_shl (below s) 32 low in
    let product : (c.args.range + 1) * (1 * 2 ^ below s % 2 ^ 32) ≡ (c.args.range + 1) * 2 ^ below s = ap (λ k. (c.args.range + 1) * k) size in
    rw c.below-size.ensures (omega (arith, product, range_within s c.requires.shape c.args.range c.requires.range))
