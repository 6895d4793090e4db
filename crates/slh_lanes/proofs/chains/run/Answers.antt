use Rattle.std.proofs.Common.{◌≡◌, refl, arith}
use Rattle.slh_lanes.specs.Steps.{steps}
use Rattle.slh_lanes.proofs.chains.run.Goals as goal

pub returns-then-most-eq0 : goal.returns-then-most-eq0
unfolding steps
returns-then-most-eq0 g c = λ p pk j a n whole lane short held.
    let none : g.W.Lanes.lane c.args.counts j ≡ 0 = omega (arith, c.most.ensures j lane, c.if-most-eq0.true) in
    rw none refl
