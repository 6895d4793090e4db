-- The lines spell a key in DER, and the file is that key's text, or it is no key in PEM.
use Rattle.std.proofs.Common.{rules, arith, length-take-le, sym, ◌∙◌, ◌≡◌, ◌≤◌, true, false}
use Rattle.slh_key_files.proofs.PemReading.{Spells, der_standard, is_no_text, is_text, other_bytes, other_length, pem_der}
use Rattle.slh_key_files.proofs.pkix.read_pem.Goals as goal

pub returns-in_err-first : goal.returns-in_err-first
returns-in_err-first c = other_length c.args.pem.now _ c.from_residual.ensures (search rules)

pub returns-in_err-key : goal.returns-in_err-key
returns-in_err-key c =
    let few : c.in_ok-first.len ≤ 150 = c.in_ok-first.ensures.fits.0 in
    let spells : Spells c.args.pem.now c.in_ok-first.first c.in_ok-first.len c.get_base64.new.bytes =
    λ m more are_bytes len e. c.get_base64.ensures m more are_bytes (len ∙ sym (length-take-le _ _ (omega (arith, few)))) e in
    other_bytes c.args.pem.now c.get_base64.new.bytes c.read_der.result _ c.in_err-key.was c.from_residual-in_err-key.ensures c.read_der.ensures.accepted
    (pem_der c.args.pem.now c.get_base64.new.bytes c.in_ok-first.first c.in_ok-first.len (sym c.parts_of.ensures.form ∙ c.in_ok-first.was) spells)

pub is_pem_of-requires : goal.is_pem_of-requires
is_pem_of-requires c = der_standard c.get_base64.new.bytes c.in_ok-key.key ((c.read_der.ensures.accepted c.in_ok-key.key).0 c.in_ok-key.was)

pub returns-then-is_pem_of : goal.returns-then-is_pem_of
returns-then-is_pem_of c =
    let few : c.in_ok-first.len ≤ 150 = c.in_ok-first.ensures.fits.0 in
    let spells : Spells c.args.pem.now c.in_ok-first.first c.in_ok-first.len c.get_base64.new.bytes =
    λ m more are_bytes len e. c.get_base64.ensures m more are_bytes (len ∙ sym (length-take-le _ _ (omega (arith, few)))) e in
    is_text c.args.pem.now c.get_base64.new.bytes c.in_ok-key.key c.is_pem_of.result c.if-is_pem_of.true c.in_ok-key.ensures.accepted c.is_pem_of.ensures
    (pem_der c.args.pem.now c.get_base64.new.bytes c.in_ok-first.first c.in_ok-first.len (sym c.parts_of.ensures.form ∙ c.in_ok-first.was) spells)

pub returns-else-is_pem_of : goal.returns-else-is_pem_of
returns-else-is_pem_of c =
    let few : c.in_ok-first.len ≤ 150 = c.in_ok-first.ensures.fits.0 in
    let spells : Spells c.args.pem.now c.in_ok-first.first c.in_ok-first.len c.get_base64.new.bytes =
    λ m more are_bytes len e. c.get_base64.ensures m more are_bytes (len ∙ sym (length-take-le _ _ (omega (arith, few)))) e in
    is_no_text c.args.pem.now c.get_base64.new.bytes c.in_ok-key.key c.is_pem_of.result (λ t. let e : true ≡ false = sym t ∙ c.if-is_pem_of.false in absurd cc) c.in_ok-key.ensures.accepted c.is_pem_of.ensures
    (pem_der c.args.pem.now c.get_base64.new.bytes c.in_ok-first.first c.in_ok-first.len (sym c.parts_of.ensures.form ∙ c.in_ok-first.was) spells)
