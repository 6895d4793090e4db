-- The two parts are what stands before the bytes, and the bytes.
use Rattle.std.proofs.Common.{rules, ◌≡◌, sym}
use Rattle.slh_key_files.proofs.Forms.{der_front}
use Rattle.slh_key_files.proofs.pkix.put_der.Goals as goal

pub returns : goal.returns
returns c =
    let front : c.copy_from_slice.new.self ≡ c.prefix-prefix.result.now = search rules in
    let bytes : c.copy_from_slice-2.new.self ≡ c.args.key.now = search rules in
    rw (front, bytes, c.prefix-prefix.ensures) (sym (der_front c.args.kind c.args.set c.requires.standard c.args.key.now c.requires.key))
