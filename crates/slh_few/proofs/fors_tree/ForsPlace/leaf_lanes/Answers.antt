use Rattle.std.proofs.Common.{◌≡◌, ℕ, ◌+◌, ◌-◌, ◌*◌, ◌^◌, ap, subst, ◌∙◌, arith}
use Rattle.slh_params.specs.Address.{Address, address, FORS_PRF, FORS_TREE}
use Rattle.slh_params.specs.ParamSet.{params}
use Rattle.slh_hash.specs.Hash.{F}
use Rattle.slh_lanes.specs.Lanes.{HasAddress}
use Rattle.slh_few.specs.Fors.{fors_secret}
use Rattle.slh_few.proofs.fors_tree.ForsPlace.leaf_lanes.Goals as goal

pub returns : goal.returns
unfolding fors_secret
returns c = λ j lane.
    let t = c.args.self.now in
    let p = params c.args.lanes.now.set in
    let pk = c.args.lanes.now.pk_seed.now in
    let at : ℕ → ℕ → Address = λ kind k. address 0 t.idx_tree kind t.idx_leaf 0 (t.tree_no * 2 ^ k + (c.args.first + j)) in
    let all : p.a - 0 ≡ p.a = omega arith in
    let prf = subst (λ (k : ℕ). HasAddress c.lane_adrs.result j (at FORS_PRF k)) all (c.lane_adrs.ensures j lane) in
    let f = subst (λ (k : ℕ). HasAddress c.lane_adrs-adrs.result j (at FORS_TREE k)) all (c.lane_adrs-adrs.ensures j lane) in
    c.f.ensures 0 j (omega arith) lane _ f ∙ ap (F p pk (at FORS_TREE p.a)) (c.prf-leaves.ensures 0 j (omega arith) lane _ prf)
