use Rattle.std.proofs.Common.{◌≡◌, ◌++◌, length, take, ap, ◌∙◌, arith}
use Rattle.std.proofs.lemmas.Slice.{take-put_mid}
use Rattle.slh_params.specs.ParamSet.{params}
use Rattle.slh_few.specs.Fors.{fors_part_len}
use Rattle.slh_few.proofs.fors_tree.ForsNodes.put_fors_part.Goals as goal

pub returns : goal.returns
returns c =
    let size : length c.sign.new.out ≡ fors_part_len (params c.args.self.now.signer.now.public.set) = omega (arith, c.sign.auto.out, c.fors_part_len.ensures.value, c.requires.out) in
    take-put_mid c.args.start _ c.args.out.now c.sign.new.out _ (omega (arith, size)) (omega (arith, c.requires.out))
    ∙ ap (λ ys. take c.args.start c.args.out.now ++ ys) c.sign.ensures
