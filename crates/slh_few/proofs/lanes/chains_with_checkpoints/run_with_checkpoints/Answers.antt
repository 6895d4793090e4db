-- After each group the ends of its chains and their checkpoints are written, too.
use Rattle.std.proofs.Common.{◌≡◌, ℕ, ◌+◌, ◌-◌, ◌*◌, ◌<◌, min, List, length, slice_index, inl, inr, ap, sym, ◌∙◌, arith}
use Rattle.std.proofs.lemmas.Bool.{cases_lt}
use Rattle.slh_params.specs.ParamSet.{params}
use Rattle.slh_params.specs.Params.{len}
use Rattle.slh_lanes.specs.Lanes.{value_at}
use Rattle.slh_few.specs.Wots.{whole_chain}
use Rattle.slh_few.specs.KeyCheckpoints.{chain_checkpoints_len, chain_checkpoints, key_checkpoints}
use Rattle.slh_few.proofs.ChainLanes.{group_below, group_next, group_all}
use Rattle.slh_few.proofs.KeyCheckpoints.{chain_checkpoints-values}
use Rattle.slh_few.proofs.ChunkWrites.{all_chunks}
use Rattle.slh_few.proofs.lanes.chains_with_checkpoints.run_with_checkpoints.Goals as goal

pub loop-group-init : goal.loop-group-init
loop-group-init c =
    let none : min (8 * 0) c.len-count.result ≡ 0 = omega arith in
    record {
      ends = λ d low. absurd (omega (arith, low, none));
      checkpoints = λ d low. absurd (omega (arith, low, none));
    }

pub loop-group-preserved : goal.loop-group-preserved
loop-group-preserved c =
    let p = params c.args.lanes.now.set in
    let sk = c.args.sk_seed.now in
    let pk = c.args.lanes.now.pk_seed.now in
    let g : ℕ = c.loop-group.group in
    let k : ℕ = c.len-count.result in
    let n : ℕ = c.n-n.result in
    let f : ℕ → List ℕ = whole_chain p sk pk c.args.at in
    let all = c.len-count.ensures in
    let below = group_below g k c.div_ceil-group-end.result c.div_ceil-group-end.ensures c.loop-group-test.true in
    let next = group_next g k c.min-used.result below c.min-used.ensures in
    let here : min (8 * g) k ≡ 8 * g = omega arith in
    let values : (j : ℕ) → j < c.min-used.result → value_at c.run_group_with_checkpoints-nodes.result j n ≡ f (slice_index c.consecutive.result j) = λ j lt.
    let lane : j < 8 = omega (arith, c.min-used.ensures) in
    ap (value_at c.run_group_with_checkpoints-nodes.result j) c.n-n.ensures ∙ c.run_group_with_checkpoints-nodes.ensures.ends j lane ∙ ap f (sym (c.consecutive.ensures j lane)) in
    record {
      ends = λ d low. elim (cases_lt d (8 * g)) [
        | inl before ↦ c.put_lanes.ensures.kept f values d (c.loop-group.invariant.ends d (omega (arith, here, before)))
        | inr ge ↦
            let i : ℕ = d - 8 * g in
            let used : i < c.min-used.result = omega (arith, low, next, ge) in
            let lane : i < 8 = omega (arith, used, c.min-used.ensures) in
            let at : slice_index c.consecutive.result i ≡ d = c.consecutive.ensures i lane ∙ omega arith in
            rw at at (c.put_lanes.ensures.written f values i used)
      ];
      checkpoints = λ d low. elim (cases_lt d (8 * g)) [
        | inl before ↦ c.run_group_with_checkpoints-nodes.ensures.before d before ∙ c.loop-group.invariant.checkpoints d (omega (arith, here, before))
        | inr ge ↦
            let i : ℕ = d - 8 * g in
            let at : 8 * g + i ≡ d = omega arith in
            let used : i < c.min-used.result = omega (arith, low, next, ge) in
            let few : d < len p = omega (arith, low, all) in
            let size : length c.run_group_with_checkpoints-nodes.new.checkpoints ≡ len p * chain_checkpoints_len p = omega (arith, c.run_group_with_checkpoints-nodes.auto.checkpoints, c.loop-group.auto.checkpoints, c.requires.checkpoints) in
            chain_checkpoints-values p sk pk c.args.at d c.run_group_with_checkpoints-nodes.new.checkpoints few size (λ q many.
            rw at at (c.run_group_with_checkpoints-nodes.ensures.checkpoints i q used many))
      ];
    }

pub returns-clause-ends : goal.returns-clause-ends
returns-clause-ends c =
    let p = params c.args.lanes.now.set in
    let sk = c.args.sk_seed.now in
    let pk = c.args.lanes.now.pk_seed.now in
    let all = group_all c.loop-group.group c.len-count.result c.div_ceil-group-end.result c.div_ceil-group-end.ensures c.loop-group-test.false ∙ c.len-count.ensures in
    all_chunks (whole_chain p sk pk c.args.at) p.n (len p) c.loop-group.ends (omega (arith, c.loop-group.auto.ends, c.requires.ends)) (λ d low.
    rw c.n-n.ensures at (c.loop-group.invariant.ends d (omega (arith, all, low))))

pub returns-clause-checkpoints : goal.returns-clause-checkpoints
unfolding key_checkpoints
returns-clause-checkpoints c =
    let p = params c.args.lanes.now.set in
    let sk = c.args.sk_seed.now in
    let pk = c.args.lanes.now.pk_seed.now in
    let all = group_all c.loop-group.group c.len-count.result c.div_ceil-group-end.result c.div_ceil-group-end.ensures c.loop-group-test.false ∙ c.len-count.ensures in
    all_chunks (chain_checkpoints p sk pk c.args.at) (chain_checkpoints_len p) (len p) c.loop-group.checkpoints (omega (arith, c.loop-group.auto.checkpoints, c.requires.checkpoints)) (λ d low. c.loop-group.invariant.checkpoints d (omega (arith, all, low)))
