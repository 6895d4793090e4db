use Rattle.std.proofs.Common.{refl, sym}
use Rattle.std.proofs.lemmas.List.{append-nil}
use Rattle.slh_params.specs.ParamSet.{params}
use Rattle.slh_hash.specs.HashFunctions.{category_function}
use Rattle.slh_hash.specs.Keyed.{key_block, xor_each}
use Rattle.slh_hash.specs.Stream.{IsKeyed}
use Rattle.slh_hash.proofs.category_hmac.CategoryHmac.new.Goals as goal

pub returns : goal.returns
unfolding IsKeyed
returns c =
    let k = key_block (category_function (params c.args.set)) c.args.key.now in (
      refl,
      (
        rw (c.as_slice.ensures.value, c.xor_each.ensures, c.category_key_block-block.ensures, sym (append-nil (xor_each 0x36 k))) at (c.update.ensures _ _ c.new-inner.ensures),
        rw (c.as_slice-2.ensures.value, c.xor_each-2.ensures, c.category_key_block-block.ensures) at (c.update-2.ensures _ _ c.new-outer.ensures),
      ),
    )
