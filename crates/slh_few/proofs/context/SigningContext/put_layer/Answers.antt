use Rattle.std.proofs.Common.{◌≡◌, ◌++◌, length, take, ap, ◌∙◌, arith}
use Rattle.std.proofs.lemmas.Slice.{take-put_mid}
use Rattle.slh_params.specs.ParamSet.{params}
use Rattle.slh_few.specs.Xmss.{xmss_sig_len}
use Rattle.slh_few.proofs.context.SigningContext.put_layer.Goals as goal

pub returns : goal.returns
returns c =
    let size : length c.xmss_sign.new.out ≡ xmss_sig_len (params c.args.self.now.public.set) = omega (arith, c.xmss_sign.auto.out, c.xmss_sig_len.ensures.value, c.requires.out) in
    take-put_mid c.args.start _ c.args.out.now c.xmss_sign.new.out _ (omega (arith, size)) (omega (arith, c.requires.out))
    ∙ ap (λ ys. take c.args.start c.args.out.now ++ ys) c.xmss_sign.ensures.signature
