-- The key that signs is in its lane, and its values are those that the message's digits say.
use Rattle.std.proofs.Common.{ap, subst, ◌∙◌}
use Rattle.slh_params.specs.Params.{len}
use Rattle.slh_params.specs.ParamSet.{params}
use Rattle.slh_few.specs.KeyStreams.{key_at}
use Rattle.slh_few.specs.Wots.{chain, secret, signed_chain, wots_sig}
use Rattle.slh_few.specs.Xmss.{AreKeysFrom}
use Rattle.slh_few.specs.declared.place.Place.{Place}
use Rattle.slh_few.proofs.EightKeys.{among_eight}
use Rattle.slh_few.proofs.Ends.{end_to_end-same}
use Rattle.slh_few.proofs.lanes.keys.sign_among_eight.Goals as goal

pub returns-clause-signature : goal.returns-clause-signature
unfolding wots_sig
returns-clause-signature c =
    let p = params c.args.lanes.now.set in
    let sk = c.args.sk_seed.now in
    let pk = c.args.lanes.now.pk_seed.now in
    let first = c.first_of_eight.result in
    let key = ap (key_at first) c.lane_among_eight.ensures ∙ among_eight c.args.at first c.first_of_eight.ensures in
    c.eight_keys.ensures.stored ∙ end_to_end-same _ (signed_chain p sk pk c.args.at c.args.msg.now.items) (len p) (λ k l q.
    chain p pk (key q) k (secret p sk pk (key q) k) 0 (c.digits_of-digits.ensures.digits k l q))

pub returns-clause-keys : goal.returns-clause-keys
returns-clause-keys c =
    subst (λ (a : Place). AreKeysFrom (params c.args.lanes.now.set) c.args.sk_seed.now c.args.lanes.now.pk_seed.now a c.eight_keys.result.items)
    c.first_of_eight.ensures c.eight_keys.ensures.keys
