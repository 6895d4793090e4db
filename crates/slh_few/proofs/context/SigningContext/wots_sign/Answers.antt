-- Each chain is run to the message's digit.
use Rattle.std.proofs.Common.{ap, ◌∙◌}
use Rattle.slh_params.specs.ParamSet.{params}
use Rattle.slh_params.specs.Params.{len}
use Rattle.slh_params.proofs.Bounds.{n_high}
use Rattle.slh_few.specs.Wots.{chain, secret, signed_chain, wots_sig, wots_pk_from_sig}
use Rattle.slh_few.proofs.Ends.{end_to_end-same}
use Rattle.slh_few.proofs.WotsLaw.{wots_pk_from_sig-wots_sig}
use Rattle.slh_few.proofs.context.SigningContext.wots_sign.Goals as goal

pub returns-clause-signature : goal.returns-clause-signature
unfolding wots_sig
returns-clause-signature c =
    let p = params c.args.self.now.public.set in
    let sk = c.args.self.now.sk_seed.now in
    let pk = c.args.self.now.public.pk_seed.now in
    rw (c.lanes.ensures.set, c.lanes.ensures.pk_seed) at c.run_secrets_in_lanes.ensures
    ∙ end_to_end-same _ (signed_chain p sk pk c.args.at c.args.msg.now.items) (len p) (λ i low.
    ap (λ s. chain p pk c.args.at i (secret p sk pk c.args.at i) 0 s) (c.digits_of-digits.ensures.digits i low))

pub returns-clause-key : goal.returns-clause-key
returns-clause-key c =
    let p = params c.args.self.now.public.set in
    let sk = c.args.self.now.sk_seed.now in
    let pk = c.args.self.now.public.pk_seed.now in
    let m = c.args.msg.now.items in
    ap (wots_pk_from_sig p pk c.args.at m) (returns-clause-signature c) ∙ wots_pk_from_sig-wots_sig p sk pk c.args.at m (n_high c.args.self.now.public.set)
