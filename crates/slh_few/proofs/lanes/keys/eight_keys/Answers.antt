-- After each turn the keys' streams have absorbed the ends so far, and the stored values of as many chains are written.
use Rattle.std.proofs.Common.{◌≡◌, ℕ, ◌+◌, ◌-◌, ◌*◌, inl, inr, refl, subst, ◌∙◌, arith}
use Rattle.std.proofs.lemmas.Bool.{cases_lt}
use Rattle.slh_params.specs.Params.{len}
use Rattle.slh_params.specs.ParamSet.{params}
use Rattle.slh_lanes.specs.Lanes.{group}
use Rattle.slh_few.specs.KeyStreams.{AreEnds, HaveAbsorbedEnds}
use Rattle.slh_few.specs.Chunks.{chunk}
use Rattle.slh_few.proofs.EightKeys.{absorbed_more, absorbed_none, finished_keys}
use Rattle.slh_few.proofs.ChunkWrites.{all_chunks}
use Rattle.slh_few.proofs.lanes.keys.eight_keys.Goals as goal
use Rattle.slh_few.proofs.lanes.keys.eight_keys.Goals.{then-len-eq1, else-len-eq1}

pub loop-pair-init : goal.loop-pair-init
loop-pair-init g c = record {
  absorbed = absorbed_none (params c.args.lanes.now.set) c.args.sk_seed.now c.args.lanes.now.pk_seed.now c.args.at c.new-stream.result (2 * 0)
      (omega arith) (λ j lane. c.new-stream.ensures j lane _ (c.chain_adrs.ensures j lane));
  stored = λ i none. absurd (omega (arith, none));
}

pub loop-pair-preserved : goal.loop-pair-preserved
loop-pair-preserved g c =
    let p = params c.args.lanes.now.set in
    let sk = c.args.sk_seed.now in
    let pk = c.args.lanes.now.pk_seed.now in
    let now : ℕ = c.loop-pair.pair in
    let old = c.loop-pair.invariant in
    let ends = c.ends_of_two.ensures in
    let made = c.ends_of_two.result in
    let here : 2 * now + 0 ≡ 2 * now = omega arith in
    let size = g.K.Stored.size c.args.store.now p in
    let stored = g.K.Stored.stored c.args.store.now p sk pk c.args.at in
    record {
      absorbed = absorbed_more p sk pk c.args.at c.absorb.new.self c.absorb-in-loop-pair.new.self (group made 1) (2 * now + 1) (2 * (now + 1)) (omega arith) c.absorb-in-loop-pair.ensures (ends.ends 1 (omega arith))
          (absorbed_more p sk pk c.args.at c.loop-pair.stream c.absorb.new.self (group made 0) (2 * now) (2 * now + 1) (omega arith) c.absorb.ensures (subst (λ d. AreEnds p sk pk c.args.at d (group made 0)) here (ends.ends 0 (omega arith))) old.absorbed);
      stored = λ i lt. elim (cases_lt i (2 * now)) [
        | inl low ↦ ends.others i (inl low) ∙ old.stored i low
        | inr ge ↦
            let e : 2 * now + (i - 2 * now) ≡ i = omega (arith, ge) in
            subst (λ d. chunk size c.ends_of_two.new.out d ≡ stored d) e (ends.stored (i - 2 * now) (omega (arith, lt, ge)))
      ];
    }

pub returns-clause-keys : goal.returns-clause-keys
returns-clause-keys g c =
    let p = params c.args.lanes.now.set in
    let sk = c.args.sk_seed.now in
    let pk = c.args.lanes.now.pk_seed.now in
    let at = c.args.at in
    let now : ℕ = c.loop-pair.pair in
    let after = λ (k : ℕ). HaveAbsorbedEnds p sk pk at k c.loop-pair.stream in
    let all : HaveAbsorbedEnds p sk pk at (len p) c.if-len-eq1.stream = elim c.if-len-eq1.branch [
      | then-len-eq1 w ↦
          let last : 2 * now ≡ c.len-len.result - 1 = omega (arith, w.if-len-eq1.true) in
          rw w.stream-is (absorbed_more p sk pk at c.loop-pair.stream w.absorb-then-len-eq1.new.self (group w.ends_of_one.result 0) (c.len-len.result - 1) (len p)
          (omega (arith, last, w.if-len-eq1.true, c.len-len.ensures)) w.absorb-then-len-eq1.ensures
          (let here : c.len-len.result - 1 + 0 ≡ c.len-len.result - 1 = omega arith in subst (λ d. AreEnds p sk pk at d (group w.ends_of_one.result 0)) here (w.ends_of_one.ensures.ends 0 (omega arith))) (subst after last c.loop-pair.invariant.absorbed))
      | else-len-eq1 w ↦
          let even : 2 * now ≡ len p = omega (arith, w.if-len-eq1.false, c.len-len.ensures) in
          rw w.stream-is (subst after even c.loop-pair.invariant.absorbed)
    ] in
    finished_keys c.args.lanes.now.set sk pk at c.if-len-eq1.stream c.finish.result c.first_nodes.result.items (len p)
    refl c.first_nodes.ensures.len (rw c.n.ensures at c.first_nodes.ensures.values) c.finish.ensures all

pub returns-clause-stored : goal.returns-clause-stored
returns-clause-stored g c =
    let p = params c.args.lanes.now.set in
    let sk = c.args.sk_seed.now in
    let pk = c.args.lanes.now.pk_seed.now in
    let now : ℕ = c.loop-pair.pair in
    let old = c.loop-pair.invariant in
    let size = g.K.Stored.size c.args.store.now p in
    let f = g.K.Stored.stored c.args.store.now p sk pk c.args.at in
    elim c.if-len-eq1.branch [
      | then-len-eq1 w ↦
          let end : ℕ = c.len-len.result - 1 in
          let last : 2 * now ≡ end = omega (arith, w.if-len-eq1.true) in
          rw w.out-is (all_chunks f size (len p) w.ends_of_one.new.out (omega (arith, w.ends_of_one.auto.out, c.loop-pair.auto.out, c.requires.out)) (λ i lt. elim (cases_lt i end) [
            | inl low ↦ w.ends_of_one.ensures.others i (inl low) ∙ old.stored i (omega (arith, low, last))
            | inr ge ↦
                let e : end + 0 ≡ i = omega (arith, lt, ge, c.len-len.ensures) in
                subst (λ d. chunk size w.ends_of_one.new.out d ≡ f d) e (w.ends_of_one.ensures.stored 0 (omega arith))
          ]))
      | else-len-eq1 w ↦
          let even : 2 * now ≡ len p = omega (arith, w.if-len-eq1.false, c.len-len.ensures) in
          rw w.out-is (all_chunks f size (len p) c.loop-pair.out (omega (arith, c.loop-pair.auto.out, c.requires.out)) (λ i lt. old.stored i (omega (arith, lt, even))))
    ]
