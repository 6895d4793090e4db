use Rattle.std.proofs.Common.{◌≡◌, ℕ, ◌==◌, ◌≤◌, true, false, ◌++◌, arith, refl, sym, ap, ◌∙◌}
use Rattle.std.proofs.lemmas.List.{append-nil}
use Rattle.slh_params.specs.Address.{compressed}
use Rattle.slh_params.specs.Params.{Params}
use Rattle.slh_params.specs.ParamSet.{params}
use Rattle.slh_params.proofs.Bounds.{n_high}
use Rattle.slh_lanes.specs.Block.{first_block}
use Rattle.slh_lanes.specs.LaneSeeds.{HasSeedAt}
use Rattle.slh_lanes.specs.LaneStreams.{HasAbsorbedAt}
use Rattle.slh_lanes.specs.LongBlock.{long_first_block}
use Rattle.slh_lanes.proofs.Tweaked.{length-first_block}
use Rattle.slh_lanes.proofs.lane_stream.LaneStream.under.Goals as goal

pub returns-then-n-eq16 : goal.returns-then-n-eq16
unfolding HasAbsorbedAt HasSeedAt
returns-then-n-eq16 c = λ j pk a lane seed held.
    let set = c.args.seeds.now.set in
    let p : Params = params set in
    let high : p.n ≤ 32 = n_high set in
    let same : (p.n == 16) ≡ true = ap (λ (k : ℕ). k == 16) (sym c.n.ensures ∙ c.if-n-eq16.true) in
    let first = c.new.ensures j lane a held (first_block p pk) (length-first_block 64 p pk seed.0 (omega (arith, high)))
    (rw c.bare.ensures seed.1) in
    (refl, seed.0, (same, rw (append-nil (first_block p pk ++ compressed a)) first))

pub returns-else-n-eq16 : goal.returns-else-n-eq16
unfolding HasAbsorbedAt HasSeedAt
returns-else-n-eq16 c = λ j pk a lane seed held.
    let set = c.args.seeds.now.set in
    let p : Params = params set in
    let high : p.n ≤ 32 = n_high set in
    let other : (p.n == 16) ≡ false = grind (arith, c.n.ensures, c.if-n-eq16.false) in
    let first = c.new-else-n-eq16.ensures j lane a held (long_first_block p pk) (length-first_block 128 p pk seed.0 (omega (arith, high)))
    (rw c.bare-else-n-eq16.ensures (seed.2 (λ e. c.if-n-eq16.false (c.n.ensures ∙ e)))) in
    (refl, seed.0, (other, rw (append-nil (long_first_block p pk ++ compressed a)) first))
