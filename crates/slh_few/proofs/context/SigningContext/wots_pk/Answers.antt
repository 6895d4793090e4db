-- Each chain is run to its end.
use Rattle.std.proofs.Common.{◌-◌, ap, ◌∙◌, arith}
use Rattle.std.proofs.lemmas.List.{get_or-replicate}
use Rattle.slh_params.specs.ParamSet.{params}
use Rattle.slh_params.specs.Params.{len}
use Rattle.slh_params.proofs.Bounds.{len_high, w_high}
use Rattle.slh_hash.specs.Hash.{T}
use Rattle.slh_few.specs.Wots.{chain, secret, whole_chain, wots_address, wots_pk}
use Rattle.slh_few.proofs.Ends.{end_to_end-same, replicate_below}
use Rattle.slh_few.proofs.context.SigningContext.wots_pk.Goals as goal

pub run_secrets_in_lanes-requires-clause-steps : goal.run_secrets_in_lanes-requires-clause-steps
run_secrets_in_lanes-requires-clause-steps c = λ i. replicate_below 136 (c.w.result - 1) i 255 (omega (arith, c.w.ensures, w_high c.args.self.now.public.set))

pub returns-clause-value : goal.returns-clause-value
unfolding wots_pk
returns-clause-value c =
    let s = c.args.self.now.public.set in
    let p = params s in
    let sk = c.args.self.now.sk_seed.now in
    let pk = c.args.self.now.public.pk_seed.now in
    c.compressed_ends.ensures.value
    ∙ ap (T p pk (wots_address c.args.at 1 0 0)) (rw (c.lanes.ensures.set, c.lanes.ensures.pk_seed) at c.run_secrets_in_lanes.ensures
    ∙ end_to_end-same _ (whole_chain p sk pk c.args.at) (len p) (λ i low.
    ap (λ k. chain p pk c.args.at i (secret p sk pk c.args.at i) 0 k) (get_or-replicate 136 i (c.w.result - 1) 0 (omega (arith, low, len_high s)) ∙ ap (λ k. k - 1) c.w.ensures)))
