-- The shifted checksum fills the bytes that its digits are read from.
use Rattle.std.proofs.Common.{◌≡◌, ◌*◌, ◌^◌, refl, ap, sym, ◌∙◌, arith, mod-eq_of_lt}
use Rattle.std.proofs.lemmas.List.{length-take-le}
use Rattle.slh_params.specs.Bits.{to_byte}
use Rattle.slh_params.specs.ParamSet.{params}
use Rattle.slh_params.specs.Params.{len2, ceil_div}
use Rattle.slh_few.specs.Wots.{checksum_bytes, checksum_shift}
use Rattle.slh_few.proofs.Checksum.{checksum_two, checksum_space, checksum_whole, shifted_fits}
use Rattle.slh_few.proofs.wots_digits.checksum_digits.Goals as goal

pub slice_bounds-buffer-end : goal.slice_bounds-buffer-end
slice_bounds-buffer-end c = checksum_two c.args.set _ _ _ c.len2.ensures c.lg_w.ensures c.div_ceil.ensures

pub slice_bounds-bytes-end : goal.slice_bounds-bytes-end
slice_bounds-bytes-end c = sym (length-take-le c.div_ceil.result _ (checksum_two c.args.set _ _ _ c.len2.ensures c.lg_w.ensures c.div_ceil.ensures))

pub base_2b-requires-clause-enough : goal.base_2b-requires-clause-enough
base_2b-requires-clause-enough c =
    let size = checksum_space c.args.set _ _ _ c.len2.ensures c.lg_w.ensures c.div_ceil.ensures in
    rw (c.lg_w-2.ensures, c.requires.out) (omega (arith, c.to_byte.auto.out, size, checksum_whole c.args.set))

pub returns : goal.returns
returns c =
    let p = params c.args.set in
    let csum = c.args.checksum in
    let size = checksum_space c.args.set _ _ _ c.len2.ensures c.lg_w.ensures c.div_ceil.ensures in
    let shifted : c.from.result ≡ csum * 2 ^ checksum_shift p =
    c.from.ensures ∙ rw (c.len2.ensures, c.lg_w.ensures) (mod-eq_of_lt (shifted_fits c.args.set csum c.requires.small)) in
    let bytes : c.to_byte.new.out ≡ checksum_bytes p csum =
    c.to_byte.ensures.bytes ∙ ap (to_byte c.from.result) size ∙ ap (λ x. to_byte x (ceil_div (len2 p * p.lg_w) 8)) shifted in
    c.base_2b.ensures ∙ rw (bytes, c.lg_w-2.ensures, c.requires.out) refl
