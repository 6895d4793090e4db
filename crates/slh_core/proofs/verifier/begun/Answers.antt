-- What H_msg has absorbed of the message is M' as far as the message.
use Rattle.std.proofs.Common.{◌≡◌, ◌≤◌, length, take, rules}
use Rattle.std.proofs.lemmas.List.{take_min}
use Rattle.slh_params.specs.ParamSet.{params}
use Rattle.slh_core.proofs.Messages.{pure_front}
use Rattle.slh_core.proofs.verifier.begun.Goals as goal

pub returns : goal.returns
returns c =
    let p = params c.args.pk.now.set in
    let short : length c.args.ctx.now ≤ 255 = search rules in
    let fed = c.update-2.ensures p _ _ _ _ (c.update.ensures p _ _ _ _ (rw c.set-2.ensures at c.new-hash.ensures)) in
    let n : c.n.result ≡ p.n = search rules in
    let r : take c.min.result c.args.sig.now ≡ take p.n c.args.sig.now = rw (c.min.ensures, n) (take_min p.n c.args.sig.now) in
    let front = pure_front c.in_ok-head.head c.args.ctx.now short c.in_ok-head.ensures.head in
    (short, rw (r, c.pk_seed.ensures.value, c.pk_root.ensures.value, front) at fed)
