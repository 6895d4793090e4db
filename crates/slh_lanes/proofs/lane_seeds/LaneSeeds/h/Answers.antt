use Rattle.std.proofs.Common.{◌≡◌, ◌≢◌, ℕ, ◌++◌, List, ap, sym, ◌∙◌}
use Rattle.slh_params.specs.Params.{Params}
use Rattle.slh_params.specs.ParamSet.{params}
use Rattle.slh_params.proofs.Bounds.{n_cases, n_high}
use Rattle.slh_hash.specs.Hash.{tweaked_hash}
use Rattle.slh_hash.specs.HashFunctions.{SHA_256}
use Rattle.slh_lanes.specs.Columns.{column}
use Rattle.slh_lanes.specs.Lanes.{value_at}
use Rattle.slh_lanes.specs.LaneSeeds.{HasSeedAt}
use Rattle.slh_lanes.proofs.NodeLengths.{by_sha256, not_short}
use Rattle.slh_lanes.proofs.lane_seeds.LaneSeeds.h.Goals as goal

pub long_digests-requires : goal.long_digests-requires
long_digests-requires c = not_short c.n-n.result (rw c.n-n.ensures (n_cases c.args.self.now.set)) c.if-n-eq16.false

pub returns-then-n-eq16 : goal.returns-then-n-eq16
unfolding HasSeedAt
returns-then-n-eq16 c = λ j pk a lane seed held.
    let set = c.args.self.now.set in
    let p : Params = params set in
    let n : p.n ≡ 16 = sym c.n-n.ensures ∙ c.if-n-eq16.true in
    let both : ℕ → List ℕ = λ m. value_at c.args.left.now j m ++ value_at c.args.right.now j m in
    c.short_digests.ensures p pk j a (n_high set) seed.0 lane (ap (column j) c.bare.ensures ∙ seed.1) held
    ∙ ap (tweaked_hash SHA_256 p pk a) (c.two_short.ensures j lane ∙ ap both (sym n))
    ∙ by_sha256 p pk a (both p.n) n

pub returns-else-n-eq16 : goal.returns-else-n-eq16
unfolding HasSeedAt
returns-else-n-eq16 c = λ j pk a lane seed held.
    let p : Params = params c.args.self.now.set in
    let other : p.n ≢ 16 = λ e. c.if-n-eq16.false (c.n-n.ensures ∙ e) in
    c.long_digests.ensures p pk j a (sym c.n-n.ensures) seed.0 lane (ap (column j) c.bare-else-n-eq16.ensures ∙ seed.2 other) held
