use Rattle.std.proofs.Common.{◌≡◌, ℕ, ◌+◌, ◌-◌, ◌*◌, ◌^◌, ◌≤◌, slice_index, lit≤, arith, ap, subst, ◌∙◌}
use Rattle.std.proofs.Math.Nat.{mul-le-mul, pow-le-pow_right}
use Rattle.slh_params.specs.ParamSet.{params}
use Rattle.slh_params.proofs.Bounds.{a_high}
use Rattle.slh_lanes.specs.Lanes.{HasAddress}
use Rattle.slh_few.proofs.fors_tree.ForsPlace.lane_adrs.Goals as goal

pub consecutive-requires : goal.consecutive-requires
consecutive-requires c =
    let s = c.args.set in
    let t = c.args.self.now.tree_no in
    let depth : ℕ = (params s).a - c.args.z in
    let few : t ≤ 64 = omega (arith, c.requires.tree) in
    let short : depth ≤ 14 = omega (arith, a_high s) in
    let low : 2 ^ depth ≤ 2 ^ 14 = pow-le-pow_right {n = 2} (lit≤ tt) short in
    let all : t * 2 ^ depth ≤ 64 * 2 ^ 14 = mul-le-mul few low in
    let is = c.index_in_forest-index.ensures ∙ ap (λ k. t * 2 ^ (k - c.args.z) + c.args.first) c.a.ensures in
    omega (arith, is, all, low, c.requires.index)

pub returns : goal.returns
returns c = λ j lane.
    let a = (params c.args.set).a in
    let index = c.index_in_forest-index.ensures ∙ ap (λ k. c.args.self.now.tree_no * 2 ^ (k - c.args.z) + c.args.first) c.a.ensures in
    let hash : slice_index c.consecutive.result j ≡ c.args.self.now.tree_no * 2 ^ (a - c.args.z) + (c.args.first + j) =
    c.consecutive.ensures j lane ∙ omega (arith, index) in
    subst (HasAddress c.set_hashes.new.adrs j) (λ i. record (c.fors_adrs.ensures i) { hash = hash i })
    (c.set_hashes.ensures j lane _ (c.adrs_lanes-adrs.ensures j lane))
