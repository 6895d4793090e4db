-- The buffer has room for a key of any set, which the digits fill.
use Rattle.std.proofs.Common.{◌≡◌, ◌≤◌, length, length-take-le, arith, rules, sym, ◌∙◌}
use Rattle.std.proofs.lemmas.Grind.{common_steps}
use Rattle.slh_params.specs.ParamSet.{params}
use Rattle.slh_params.specs.Params.{sk_len}
use Rattle.slh_params.proofs.Bounds.{n_high}
use Rattle.slh_key_files.specs.declared.key_kind.KeyKind.TheVariants.{Secret}
use Rattle.slh_key_files.proofs.Reading.{accepts}
use Rattle.slh_key_files.proofs.key_file.read_secret.Goals as goal

pub slice_bounds-buffer-end : goal.slice_bounds-buffer-end
slice_bounds-buffer-end c = omega (arith, c.sk_len.ensures, n_high c.in_ok-set.set)

pub slice_bounds-key-end : goal.slice_bounds-key-end
slice_bounds-key-end c =
    let fits : c.sk_len.result ≤ 128 = omega (arith, c.sk_len.ensures, n_high c.in_ok-set.set) in
    sym (length-take-le c.sk_len.result _ fits)

pub decode_digits-requires-clause-sized : goal.decode_digits-requires-clause-sized
decode_digits-requires-clause-sized c =
    let fits : c.sk_len.result ≤ 128 = omega (arith, c.sk_len.ensures, n_high c.in_ok-set.set) in
    rw (length-take-le c.sk_len.result _ fits, c.sk_len.ensures) c.in_ok-set.ensures.sized

pub unwrap-requires : goal.unwrap-requires
unwrap-requires c =
    let fits : c.sk_len.result ≤ 128 = omega (arith, c.sk_len.ensures, n_high c.in_ok-set.set) in
    let sized : length c.decode_digits.new.bytes ≡ sk_len (params c.in_ok-set.set) =
    c.decode_digits.auto.bytes ∙ length-take-le c.sk_len.result _ fits ∙ c.sk_len.ensures in
    c.from_bytes.ensures.accepted.1 sized

pub returns-in_err-set-clause-accepted : goal.returns-in_err-set-clause-accepted
returns-in_err-set-clause-accepted c = accepts Secret c.args.bytes.now c.from_residual.result (search rules)

pub returns-clause-accepted : goal.returns-clause-accepted
returns-clause-accepted c = accepts Secret c.args.bytes.now _ (grind (arith, common_steps))
