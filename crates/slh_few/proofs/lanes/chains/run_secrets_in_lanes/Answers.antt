-- After each turn the values of its group's chains are written, too; in the end those of all.
use Rattle.std.proofs.Common.{◌≡◌, ℕ, ◌+◌, ◌-◌, ◌*◌, ◌<◌, List, slice_index, inl, inr, ap, sym, ◌∙◌, arith}
use Rattle.std.proofs.lemmas.Bool.{cases_lt}
use Rattle.slh_params.specs.ParamSet.{params}
use Rattle.slh_params.specs.Params.{len}
use Rattle.slh_lanes.specs.Lanes.{value_at}
use Rattle.slh_lanes.proofs.Columns.{splat_lane}
use Rattle.slh_few.specs.Chunks.{chunk}
use Rattle.slh_few.specs.Wots.{chain, secret}
use Rattle.slh_few.proofs.ChainLanes.{group_below, group_next, group_all}
use Rattle.slh_few.proofs.ChunkWrites.{all_chunks}
use Rattle.slh_few.proofs.lanes.chains.run_secrets_in_lanes.Goals as goal

pub loop-turn-preserved : goal.loop-turn-preserved
loop-turn-preserved c = λ i lt.
    let p = params c.args.lanes.now.set in
    let sk = c.args.sk_seed.now in
    let pk = c.args.lanes.now.pk_seed.now in
    let g : ℕ = c.loop-turn.turn in
    let k : ℕ = c.len-count.result in
    let group = c.group_at-group.result in
    let f : ℕ → List ℕ = λ q. chain p pk c.args.at q (secret p sk pk c.args.at q) 0 (slice_index c.args.counts.now q) in
    let below = group_below g k c.div_ceil-turn-end.result c.div_ceil-turn-end.ensures c.loop-turn-test.true in
    let next = group_next g k c.min.result below c.min.ensures in
    let values : (j : ℕ) → j < c.min.result → value_at c.run_lanes-nodes.result j c.n-n.result ≡ f (slice_index group j) = λ j low.
    let lane : j < 8 = omega (arith, c.min.ensures) in
    let x = c.secret_lanes-secrets.ensures j lane in
    ap (value_at c.run_lanes-nodes.result j) c.n-n.ensures ∙ c.run_lanes-nodes.ensures j lane
    ∙ (λ q. chain p pk c.args.at (slice_index group j) (x q) (splat_lane 0 j lane q) (c.numbers_of-steps.ensures j lane q)) in
    elim (cases_lt i (8 * g)) [
      | inl before ↦ c.put_lanes.ensures.kept f values (slice_index c.by_steps-order.result i) (c.loop-turn.invariant i (omega arith))
      | inr ge ↦
          let j : ℕ = i - 8 * g in
          let used : j < c.min.result = omega (arith, lt, next, ge) in
          let lane : j < 8 = omega (arith, used, c.min.ensures) in
          let e : 8 * g + j ≡ i = omega arith in
          let at : slice_index group j ≡ slice_index c.by_steps-order.result i =
          c.group_at-group.ensures j lane ∙ ap (λ q. slice_index c.by_steps-order.result q) e in
          rw at at (c.put_lanes.ensures.written f values j used)
    ]

pub returns : goal.returns
returns c =
    let p = params c.args.lanes.now.set in
    let sk = c.args.sk_seed.now in
    let pk = c.args.lanes.now.pk_seed.now in
    let all = group_all c.loop-turn.turn c.len-count.result c.div_ceil-turn-end.result c.div_ceil-turn-end.ensures c.loop-turn-test.false in
    let f : ℕ → List ℕ = λ q. chain p pk c.args.at q (secret p sk pk c.args.at q) 0 (slice_index c.args.counts.now q) in
    all_chunks f p.n (len p) c.loop-turn.out (omega (arith, c.requires.out)) (λ d low.
    let found = c.by_steps-order.ensures.all d (omega (arith, low, c.len-count.ensures)) in
    let there = rw c.n-n.ensures at (c.loop-turn.invariant found.0 (omega (arith, all, found.1))) in
    ap (chunk p.n c.loop-turn.out) (sym found.2) ∙ there ∙ ap f found.2)
