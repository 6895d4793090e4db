-- The label has room for each part, and the parts one after the other are the label.
use Rattle.std.proofs.Common.{arith, sym, ◌∙◌}
use Rattle.slh_params.specs.ParamSet.{params}
use Rattle.slh_params.proofs.Bounds.{d_high}
use Rattle.slh_params.proofs.Labels.{length-name, label_standard, label_custom}
use Rattle.slh_params.proofs.param_set.ParamSet.label.Goals as goal

pub push_str-requires : goal.push_str-requires
push_str-requires c = rw (c.new-label.ensures, c.name.ensures) (omega (arith, length-name c.args.self.now))

pub returns-then-is_fips_205 : goal.returns-then-is_fips_205
returns-then-is_fips_205 c =
    rw (c.push_str.ensures.bytes, c.new-label.ensures, c.name.ensures) (sym (label_standard c.args.self.now (sym c.is_fips_205.ensures ∙ c.if-is_fips_205.true)))

pub put_number-requires-4-clause-two_digits : goal.put_number-requires-4-clause-two_digits
unfolding params
put_number-requires-4-clause-two_digits c = omega (arith, d_high c.args.self.now)

pub returns : goal.returns
returns c =
    rw (
      c.put_number-6.ensures.text,
      c.put_number-5.ensures.text,
      c.put_number-4.ensures.text,
      c.put_number-3.ensures.text,
      c.put_number-2.ensures.text,
      c.put_number.ensures.text,
      c.push_str-2.ensures.bytes,
      c.new-label.ensures,
    )
    (label_custom c.args.self.now (sym c.is_fips_205.ensures ∙ c.if-is_fips_205.false))
