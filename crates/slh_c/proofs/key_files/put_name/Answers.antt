use Rattle.std.proofs.Common.{◌≡◌, length, ap, ◌∙◌, arith}
use Rattle.slh_params.specs.Label.{label}
use Rattle.slh_key_files.specs.Lines.{line}
use Rattle.slh_c.proofs.Standard.{name_len, name_label}
use Rattle.slh_c.proofs.key_files.put_name.Goals as goal

pub put_line-requires : goal.put_line-requires
put_line-requires c =
    let e : length c.as_bytes.result.now ≡ 17 = ap length (c.as_bytes.ensures.value ∙ c.name.ensures) ∙ name_len c.args.set c.requires.set in
    omega arith

pub returns : goal.returns
returns c =
    let e : c.as_bytes.result.now ≡ label c.args.set = c.as_bytes.ensures.value ∙ c.name.ensures ∙ name_label c.args.set c.requires.set in
    c.put_line.ensures ∙ ap line e
