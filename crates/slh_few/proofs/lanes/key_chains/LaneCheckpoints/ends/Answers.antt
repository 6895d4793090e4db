-- After each turn the values before it are written, and the nodes are the next ones.
use Rattle.std.proofs.Common.{◌≡◌, ℕ, ◌+◌, ◌-◌, ◌*◌, length, inl, inr, refl, ap, subst, sym, ◌∙◌, arith}
use Rattle.std.proofs.lemmas.Bool.{cases_lt}
use Rattle.slh_params.specs.Params.{w}
use Rattle.slh_params.specs.ParamSet.{params}
use Rattle.slh_lanes.specs.Lanes.{group}
use Rattle.slh_few.specs.KeyCheckpoints.{spacing, checkpoint_count, chain_checkpoints_len, key_checkpoints_len, checkpoint}
use Rattle.slh_few.specs.KeyStreams.{AreAfter, key_at}
use Rattle.slh_few.specs.Chunks.{chunk}
use Rattle.slh_few.proofs.EightKeys.{run_on}
use Rattle.slh_few.proofs.KeyCheckpoints.{chain_checkpoints-values, last_checkpoint}
use Rattle.slh_few.proofs.lanes.key_chains.LaneCheckpoints.ends.Goals as goal

pub loop-j-init : goal.loop-j-init
loop-j-init over c =
    let p = params c.args.lanes.now.set in
    let z : 0 ≡ 0 * spacing p = omega arith in
    record {
      nodes = λ g in_batch. subst (λ k. AreAfter p c.args.sk_seed.now c.args.lanes.now.pk_seed.now c.args.at (c.args.c + g) k (group c.secrets-values.result g)) z
          (c.secrets-values.ensures g in_batch);
      stored = λ g i in_batch none. absurd (omega (arith, none));
      others = λ i other. refl;
    }

pub loop-j-preserved : goal.loop-j-preserved
loop-j-preserved over c =
    let p = params c.args.lanes.now.set in
    let sk = c.args.sk_seed.now in
    let pk = c.args.lanes.now.pk_seed.now in
    let every : ℕ = c.spacing-every.result in
    let now : ℕ = c.loop-j.j in
    let lane : ℕ = c.args.self.now.lane in
    let old = c.loop-j.invariant in
    let is : every ≡ spacing p = c.spacing-every.ensures.value in
    let next : now * spacing p + spacing p ≡ (now + 1) * spacing p = omega arith in
    record {
      nodes = λ g in_batch.
          run_on p sk pk c.args.at (c.args.c + g) (now * spacing p) (now * every) every ((now + 1) * spacing p) (group c.key_adrs-adrs.result g)
          (group c.loop-j.values g) (group c.chains.new.x g) (ap (λ k. now * k) is) (ap (λ k. now * spacing p + k) is ∙ next)
          (λ j in_lane. c.key_adrs-adrs.ensures g j in_batch in_lane) (λ j in_lane. c.chains.ensures g j in_batch in_lane) (old.nodes g in_batch);
      stored = λ g i in_batch lt. elim (cases_lt i now) [
        | inl below ↦ c.put_checkpoints.ensures.others (c.args.c + g) i (omega arith) ∙ old.stored g i in_batch below
        | inr ge ↦
            let e : i ≡ now = omega arith in
            ap (chunk p.n (chunk (chain_checkpoints_len p) c.put_checkpoints.new.checkpoints (c.args.c + g))) e ∙ c.put_checkpoints.ensures.set g in_batch
            ∙ old.nodes g in_batch lane c.requires.lane ∙ ap (checkpoint p sk pk (key_at c.args.at lane) (c.args.c + g)) (sym e)
      ];
      others = λ i other. c.put_checkpoints.ensures.chains i other ∙ old.others i other;
    }

pub returns-clause-ends : goal.returns-clause-ends
returns-clause-ends over c = λ g in_batch.
    let s = c.args.lanes.now.set in
    let p = params s in
    let pk = c.args.lanes.now.pk_seed.now in
    let is : c.spacing-every.result ≡ spacing p = c.spacing-every.ensures.value in
    let count : c.checkpoint_count-last.result ≡ checkpoint_count p = c.checkpoint_count-last.ensures.value in
    let last : c.checkpoint_count-last.result - 1 ≡ c.loop-j.j = omega arith in
    let end : c.loop-j.j ≡ checkpoint_count p - 1 = omega (arith, count) in
    run_on p c.args.sk_seed.now pk c.args.at (c.args.c + g) (c.loop-j.j * spacing p) ((c.checkpoint_count-last.result - 1) * c.spacing-every.result) (c.spacing-every.result - 1)
    (w p - 1) (group c.key_adrs-adrs.result g) (group c.loop-j.values g) (group c.chains-2.new.x g) (λ k. last k * is k)
    ((λ k. end k * spacing p + (is k - 1)) ∙ last_checkpoint s)
    (λ j in_lane. c.key_adrs-adrs.ensures g j in_batch in_lane) (λ j in_lane. c.chains-2.ensures g j in_batch in_lane) (c.loop-j.invariant.nodes g in_batch)

pub returns-clause-stored : goal.returns-clause-stored
returns-clause-stored over c = λ g in_batch.
    let p = params c.args.lanes.now.set in
    let sk = c.args.sk_seed.now in
    let pk = c.args.lanes.now.pk_seed.now in
    let d : ℕ = c.args.c + g in
    let lane : ℕ = c.args.self.now.lane in
    let old = c.loop-j.invariant in
    let signer = key_at c.args.at lane in
    let out = c.put_checkpoints-2.new.checkpoints in
    let last : c.checkpoint_count-last.result - 1 ≡ c.loop-j.j = omega arith in
    let size : length out ≡ key_checkpoints_len p = omega (arith, c.put_checkpoints-2.auto.checkpoints, c.loop-j.auto.out, c.requires.out) in
    chain_checkpoints-values p sk pk signer d out (omega (arith, in_batch, c.requires.chains)) size (λ i lt. elim (cases_lt i c.loop-j.j) [
      | inl below ↦ c.put_checkpoints-2.ensures.others d i (omega (arith, last, below)) ∙ old.stored g i in_batch below
      | inr ge ↦
          let e : i ≡ c.loop-j.j = omega (arith, lt, ge, c.checkpoint_count-last.ensures.value, last) in
          ap (chunk p.n (chunk (chain_checkpoints_len p) out d)) (e ∙ sym last) ∙ c.put_checkpoints-2.ensures.set g in_batch
          ∙ old.nodes g in_batch lane c.requires.lane ∙ ap (checkpoint p sk pk signer d) (sym e)
    ])

pub returns-clause-others : goal.returns-clause-others
returns-clause-others over c = λ i other. c.put_checkpoints-2.ensures.chains i other ∙ c.loop-j.invariant.others i other
