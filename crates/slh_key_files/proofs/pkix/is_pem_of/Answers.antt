use Rattle.std.proofs.Common.{◌≡◌, refl, ap, ◌∙◌}
use Rattle.slh_key_files.specs.Pkix.{any_pem, key_pem}
use Rattle.slh_key_files.specs.declared.key_kind.KeyKind.TheVariants.{Public, Secret}
use Rattle.slh_key_files.proofs.pkix.is_pem_of.Goals as goal

pub returns-in-Public : goal.returns-in-Public
returns-in-Public c =
    let same : key_pem Public c.in-Public.it ≡ key_pem Public (record { set = c.set.result; bytes = c.bytes.result.now }) = rw (c.set.ensures, c.bytes.ensures.value) refl in
    let e : any_pem c.args.key.now ≡ key_pem Public (record { set = c.set.result; bytes = c.bytes.result.now }) = ap any_pem c.in-Public.is ∙ same in
    rw e c.is_pem.ensures

pub returns-in-Secret : goal.returns-in-Secret
returns-in-Secret c =
    let same : key_pem Secret c.in-Secret.it ≡ key_pem Secret (record { set = c.set-in-Secret.result; bytes = c.bytes-in-Secret.result.now }) = rw (c.set-in-Secret.ensures, c.bytes-in-Secret.ensures.value) refl in
    let e : any_pem c.args.key.now ≡ key_pem Secret (record { set = c.set-in-Secret.result; bytes = c.bytes-in-Secret.result.now }) = ap any_pem c.in-Secret.is ∙ same in
    rw e c.is_pem-in-Secret.ensures
