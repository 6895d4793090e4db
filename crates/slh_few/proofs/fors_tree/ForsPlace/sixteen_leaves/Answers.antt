-- A secret and its leaf have one index among those of all trees.
use Rattle.std.proofs.Common.{◌≡◌, ℕ, ◌+◌, ◌-◌, ◌*◌, ◌^◌, ap, subst, ◌∙◌, arith}
use Rattle.slh_params.specs.Address.{Address, address, FORS_PRF, FORS_TREE}
use Rattle.slh_params.specs.ParamSet.{params}
use Rattle.slh_hash.specs.Hash.{F}
use Rattle.slh_lanes.specs.Lanes.{HasAddress}
use Rattle.slh_tree.specs.Tree.{node}
use Rattle.slh_few.specs.Fors.{fors_secret}
use Rattle.slh_few.proofs.NodeLanes.{few_nodes}
use Rattle.slh_few.proofs.fors_tree.ForsPlace.sixteen_leaves.Goals as goal

pub overflow_add-next : goal.overflow_add-next
overflow_add-next c =
    let a = (params c.args.lanes.now.set).a in
    let all : 2 ^ (a - 0) ≡ 2 ^ a = ap (λ (k : ℕ). 2 ^ k) (let e : a - 0 ≡ a = omega arith in e) in
    omega (arith, all, few_nodes c.args.lanes.now.set 0, c.requires.within)

pub returns : goal.returns
unfolding fors_secret node
returns c =
    let t = c.args.self.now in
    let p = params c.args.lanes.now.set in
    let pk = c.args.lanes.now.pk_seed.now in
    let at : ℕ → ℕ → ℕ → Address = λ kind first k. address 0 t.idx_tree kind t.idx_leaf 0 (t.tree_no * 2 ^ k + first) in
    let all : p.a - 0 ≡ p.a = omega arith in (
      λ j lane.
          let here : ℕ = c.args.first + j in
          let prf = subst (λ (k : ℕ). HasAddress c.lane_adrs.result j (at FORS_PRF here k)) all (c.lane_adrs.ensures j lane) in
          let f = subst (λ (k : ℕ). HasAddress c.lane_adrs-3.result j (at FORS_TREE here k)) all (c.lane_adrs-3.ensures j lane) in
          c.f.ensures 0 j (omega arith) lane _ f ∙ ap (F p pk (at FORS_TREE here p.a)) (c.prf-leaves.ensures 0 j (omega arith) lane _ prf),
      λ j lane.
          let here : ℕ = c.args.first + 8 + j in
          let prf = subst (λ (k : ℕ). HasAddress c.lane_adrs-2.result j (at FORS_PRF here k)) all (c.lane_adrs-2.ensures j lane) in
          let f = subst (λ (k : ℕ). HasAddress c.lane_adrs-4.result j (at FORS_TREE here k)) all (c.lane_adrs-4.ensures j lane) in
          c.f.ensures 1 j (omega arith) lane _ f ∙ ap (F p pk (at FORS_TREE here p.a)) (c.prf-leaves.ensures 1 j (omega arith) lane _ prf),
    )
