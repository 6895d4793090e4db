-- Numbers are valid exactly where no member is refused.
use Rattle.std.proofs.Common.{refl}
use Rattle.slh_params.specs.Params.{numbers}
use Rattle.slh_params.specs.ParamSet.{params}
use Rattle.slh_params.proofs.Refused.{valid_of_none, refused_of_some}
use Rattle.slh_params.proofs.param_set.ParamSet.custom.Goals as goal

pub invariant_of-result : goal.invariant_of-result
invariant_of-result c = record {
  valid = valid_of_none (numbers c.args.n c.args.lg_w c.args.hp c.args.d c.args.a c.args.k) c.in-None.ensures;
}

pub returns-in-None-clause-made : goal.returns-in-None-clause-made
unfolding params
returns-in-None-clause-made c = refl

pub returns-in-Some-clause-valid : goal.returns-in-Some-clause-valid
returns-in-Some-clause-valid c =
    let p = numbers c.args.n c.args.lg_w c.args.hp c.args.d c.args.a c.args.k in
    ((λ e. absurd cc), (λ v. absurd (refused_of_some p c.in-Some.member.now c.in-Some.ensures v)))
