use Rattle.std.proofs.Common.{◌≡◌, ℕ, ◌+◌, ◌≤◌, List, length, take, arith, subst, ap, ◌∙◌}
use Rattle.slh_params.proofs.Bounds.{n_high}
use Rattle.slh_hash.specs.Hash.{tweaked}
use Rattle.slh_lanes.specs.Lanes.{value_at}
use Rattle.slh_lanes.specs.LaneStreams.{HasAbsorbedAt, HoldsForAt}
use Rattle.slh_lanes.specs.declared.lane_stream.CategoryStream.{CategoryStream}
use Rattle.slh_lanes.proofs.LaneStreams.{length-tweaked, long_T, short_T}
use Rattle.slh_lanes.proofs.lane_stream.LaneStream.finish.Goals as goal

pub returns-in-Short : goal.returns-in-Short
unfolding HasAbsorbedAt value_at
returns-in-Short c = λ p pk j a x lane held few.
    let high : p.n ≤ 32 = rw held.0 at (n_high c.args.self.set) in
    let s = subst (λ (q : CategoryStream). HoldsForAt q j p pk a x) c.in-Short.is held.2 in
    let m : List ℕ = tweaked 64 p pk a x in
    let long : length m ≡ 86 + length x = length-tweaked 64 p pk a x held.1 (omega (arith, high)) in
    ap (take p.n) (c.finish.ensures j lane m s.1 (omega (arith, long, few))) ∙ short_T p pk a x s.0

pub returns-in-Long : goal.returns-in-Long
unfolding HasAbsorbedAt
returns-in-Long c = λ p pk j a x lane held few.
    let high : p.n ≤ 32 = rw held.0 at (n_high c.args.self.set) in
    let s = subst (λ (q : CategoryStream). HoldsForAt q j p pk a x) c.in-Long.is held.2 in
    let m : List ℕ = tweaked 128 p pk a x in
    let long : length m ≡ 150 + length x = length-tweaked 128 p pk a x held.1 (omega (arith, high)) in
    c.truncated.ensures j p.n lane high ∙ ap (take p.n) (c.finish-in-Long.ensures j lane m s.1 (omega (arith, long, few))) ∙ long_T p pk a x s.0
