use Rattle.std.proofs.Common.{◌<◌, arith, ◌∙◌}
use Rattle.slh_few.proofs.lanes.fors_climbs.climb_on.Goals as goal

pub returns-then-y-eq0-clause-x : goal.returns-then-y-eq0-clause-x
returns-then-y-eq0-clause-x c = λ indices leaves given j low.
    let lane : j < 8 = omega (arith, low, c.requires.x.0) in
    c.h.ensures 0 j (omega arith) lane _ (c.adrs.ensures j lane)
    ∙ c.pair_up-x_right.ensures c.args.lanes.now.pk_seed.now indices leaves given j low

pub returns-else-y-eq0-clause-x : goal.returns-else-y-eq0-clause-x
returns-else-y-eq0-clause-x c = λ indices leaves given j low.
    let lane : j < 8 = omega (arith, low, c.requires.x.0) in
    c.h-else-y-eq0.ensures 0 j (omega arith) lane _ (c.adrs-else-y-eq0.ensures j lane)
    ∙ c.pair_up-x_right.ensures c.args.lanes.now.pk_seed.now indices leaves given j low

pub returns-else-y-eq0-clause-y : goal.returns-else-y-eq0-clause-y
returns-else-y-eq0-clause-y c = λ indices leaves given j low.
    let lane : j < 8 = omega (arith, low, c.requires.y.0) in
    c.h-else-y-eq0.ensures 1 j (omega arith) lane _ (c.adrs-else-y-eq0-2.ensures j lane)
    ∙ c.pair_up-y_right.ensures c.args.lanes.now.pk_seed.now indices leaves given j low
