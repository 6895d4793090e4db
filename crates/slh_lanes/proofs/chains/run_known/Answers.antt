use Rattle.std.proofs.Common.{◌≡◌, ℕ, ◌+◌, ◌^◌, ◌<◌, ◌≤◌, List, length, min, take, inl, inr, refl, arith, sym, ap, ap₂, ◌∙◌, add-one}
use Rattle.std.proofs.lemmas.Bool.{cases_lt}
use Rattle.std.proofs.lemmas.List.{length-take-le}
use Rattle.sha2.specs.Sha256.{compress, digest_bytes}
use Rattle.slh_params.specs.Address.{Address, compressed}
use Rattle.slh_hash.specs.Hash.{F}
use Rattle.slh_lanes.specs.Block.{second_block}
use Rattle.slh_lanes.specs.Columns.{lane_column}
use Rattle.slh_lanes.specs.Steps.{steps}
use Rattle.slh_lanes.proofs.Columns.{lane_column_at}
use Rattle.slh_lanes.proofs.Tweaked.{tweaked_is}
use Rattle.slh_lanes.proofs.WordBytes.{length-digest_bytes}
use Rattle.slh_lanes.proofs.chains.run_known.Goals as goal

pub loop-step-init : goal.loop-step-init
unfolding steps
loop-step-init g c = λ p pk j a n whole lane short held.
    let none : min 0 (g.W.Lanes.lane c.args.counts j) ≡ 0 = omega arith in rw none refl

pub loop-step-preserved : goal.loop-step-preserved
unfolding steps F
loop-step-preserved g c = λ p pk j a n whole lane short held.
    let of = g.W.Lanes.lane in
    let laws = g.met.W.ShortLanes in
    let step : ℕ = c.loop-step.step in
    let from : ℕ = of c.args.from j in
    let count : ℕ = of c.args.counts j in
    let value = λ (l : List ℕ). take p.n (digest_bytes l 8) in
    let after = steps p pk a (value (lane_column of j c.args.x.now)) from in
    let before = c.loop-step.invariant p pk j a n whole lane short held in
    elim (cases_lt step count) [
      | inl lt ↦
          let room : from + count ≤ 2 ^ 16 = c.requires.few j lane in
          let is : of c.more.result j ≡ from + step = c.more.ensures j lane ∙ omega arith in
          let number : of c.more.result j < 2 ^ 16 = omega (arith, is) in
          let at : Address = record a { hash = from + step } in
          let base = c.at_step_0-base.result in
          let long : length base ≡ 6 = omega arith in
          let bytes : List ℕ = digest_bytes (lane_column of j c.loop-step.nodes) 8 in
          let high : p.n ≤ 32 = elim c.requires.n [ inl e ↦ omega (arith, e, n) | inr (inl e) ↦ omega (arith, e, n) | inr (inr e) ↦ omega (arith, e, n) ] in
          let x : List ℕ = take p.n bytes in
          let long_x = length-take-le p.n bytes (omega (arith, length-digest_bytes (lane_column of j c.loop-step.nodes) 8, high)) in
          let lx : length x ≤ 32 = omega (arith, long_x, high) in
          let adrs = c.at_step.ensures.address j lane number a (c.at_step_0-base.ensures.address j lane a held)
          ∙ ap (λ (k : ℕ). compressed (record a { hash = k })) is in
          let words = c.second_block-block.ensures.words j lane in
          let front = λ (k : ℕ) (d : _) (five : k < 5). laws.word_is _ k ∙ words k (omega (arith, five)) ∙ c.second_block-block.ensures.front j k five
          ∙ c.at_step.ensures.front j k five ∙ lane_column_at of j base k d (omega (arith, five)) in
          let begun = c.begin-begun.ensures j lane _ (front 0 _ (omega arith)) (front 1 _ (omega arith)) (front 2 _ (omega arith)) (front 3 _ (omega arith)) (front 4 _ (omega arith)) in
          let hashed = c.compress_begun.ensures j lane _ (λ k lt. laws.word_is _ k ∙ words k lt) begun ∙ laws.compress_is _ _ in
          let state = c.splat_all-state.ensures j lane ∙ short in
          let block = ap₂ second_block adrs (ap (λ (k : ℕ). take k bytes) (sym n)) in
          let m : min step count ≡ step = omega arith in
          let next : min (step + 1) count ≡ step + 1 = omega arith in
          ap value (c.take_step-nodes.ensures.taken j lane lt ∙ hashed ∙ ap₂ compress state block)
          ∙ sym (tweaked_is p pk at x whole high lx)
          ∙ ap (F p pk at) (before ∙ ap after m)
          ∙ rw (next, add-one) refl
      | inr ge ↦
          let same : min step count ≡ min (step + 1) count = omega arith in
          ap value (c.take_step-nodes.ensures.kept j lane ge) ∙ before ∙ ap after same
    ]

pub returns : goal.returns
returns g c = λ p pk j a n whole lane short held.
    let of = g.W.Lanes.lane in
    let count : ℕ = of c.args.counts j in
    let high = c.most-step-end.ensures j lane in
    let all : min c.loop-step.step count ≡ count = omega (arith, high) in
    c.loop-step.invariant p pk j a n whole lane short held
    ∙ ap (steps p pk a (take p.n (digest_bytes (lane_column of j c.args.x.now) 8)) (of c.args.from j)) all

pub second_block-block-requires : goal.second_block-block-requires
second_block-block-requires g c = (omega (arith, c.requires.room), (omega (arith, c.requires.room), (c.requires.room, c.requires.n)))
