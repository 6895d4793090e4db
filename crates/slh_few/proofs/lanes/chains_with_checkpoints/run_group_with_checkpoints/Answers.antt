-- After each turn the values before it are written, and the nodes are the next ones.
use Rattle.std.proofs.Common.{◌≡◌, ℕ, ◌+◌, ◌-◌, ◌*◌, ◌<◌, inl, inr, refl, ap, sym, ◌∙◌, arith}
use Rattle.std.proofs.lemmas.Bool.{cases_lt}
use Rattle.slh_params.specs.ParamSet.{params}
use Rattle.slh_few.specs.Wots.{chain, secret}
use Rattle.slh_few.specs.KeyCheckpoints.{spacing, checkpoint_count, chain_checkpoints_len, checkpoint}
use Rattle.slh_few.specs.Chunks.{chunk}
use Rattle.slh_few.proofs.Chains.{chain-start, chain-on}
use Rattle.slh_few.proofs.KeyCheckpoints.{checkpoint-more, last_checkpoint}
use Rattle.slh_few.proofs.lanes.chains_with_checkpoints.run_group_with_checkpoints.Goals as goal

pub loop-j-init : goal.loop-j-init
loop-j-init c =
    let p = params c.args.lanes.now.set in
    let sk = c.args.sk_seed.now in
    let pk = c.args.lanes.now.pk_seed.now in
    let at = c.args.at in
    let z : 0 ≡ 0 * spacing p = omega arith in
    record {
      nodes = λ i lane.
          let d : ℕ = c.args.c + i in
          c.secret_lanes-nodes.ensures i lane ∙ ap (secret p sk pk at) (c.consecutive.ensures i lane) ∙ chain-start p pk at d (secret p sk pk at d) 0
          ∙ ap (λ k. chain p pk at d (secret p sk pk at d) 0 k) z;
      checkpoints = λ i j low none. absurd (omega (arith, none));
      before = λ d low. refl;
    }

pub loop-j-preserved : goal.loop-j-preserved
loop-j-preserved c =
    let p = params c.args.lanes.now.set in
    let sk = c.args.sk_seed.now in
    let pk = c.args.lanes.now.pk_seed.now in
    let at = c.args.at in
    let every : ℕ = c.spacing-every.result in
    let now : ℕ = c.loop-j.j in
    let old = c.loop-j.invariant in
    let is : every ≡ spacing p = c.spacing-every.ensures.value in
    record {
      nodes = λ i lane.
          let d : ℕ = c.args.c + i in
          c.run_alike-nodes.ensures i lane
          ∙ (λ k. chain p pk at (c.consecutive.ensures i lane k) (old.nodes i lane k) (now * is k) (is k)) ∙ checkpoint-more p sk pk at d now;
      checkpoints = λ i j low lt. elim (cases_lt j now) [
        | inl below ↦ c.put_lane_checkpoints.ensures.others (c.args.c + i) j (omega arith) ∙ old.checkpoints i j low below
        | inr ge ↦
            let e : j ≡ now = omega arith in
            let lane : i < 8 = omega (arith, low, c.requires.used) in
            ap (λ k. chunk p.n (chunk (chain_checkpoints_len p) c.put_lane_checkpoints.new.checkpoints (c.args.c + i)) k) e ∙ c.put_lane_checkpoints.ensures.set i low ∙ old.nodes i lane
            ∙ ap (checkpoint p sk pk at (c.args.c + i)) (sym e)
      ];
      before = λ d low. c.put_lane_checkpoints.ensures.chains d low ∙ old.before d low;
    }

pub returns-clause-ends : goal.returns-clause-ends
returns-clause-ends c = λ i lane.
    let s = c.args.lanes.now.set in
    let p = params s in
    let sk = c.args.sk_seed.now in
    let pk = c.args.lanes.now.pk_seed.now in
    let at = c.args.at in
    let d : ℕ = c.args.c + i in
    let x = secret p sk pk at d in
    let is : c.spacing-every.result ≡ spacing p = c.spacing-every.ensures.value in
    let count : c.checkpoint_count-last.result ≡ checkpoint_count p = c.checkpoint_count-last.ensures.value in
    let last : c.loop-j.j ≡ checkpoint_count p - 1 = omega (arith, count) in
    let node = c.loop-j.invariant.nodes i lane ∙ ap (λ k. chain p pk at d x 0 (k * spacing p)) last in
    c.run_alike.ensures i lane ∙ (λ k. chain p pk at (c.consecutive.ensures i lane k) (node k) ((count k - 1) * is k) (is k - 1))
    ∙ chain-on p pk at d x ((checkpoint_count p - 1) * spacing p) (spacing p - 1)
    ∙ ap (λ k. chain p pk at d x 0 k) (last_checkpoint s)
