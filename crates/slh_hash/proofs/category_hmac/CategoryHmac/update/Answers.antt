use Rattle.std.proofs.lemmas.List.{append_assoc}
use Rattle.slh_hash.specs.HashFunctions.{category_function}
use Rattle.slh_hash.specs.Keyed.{key_block, xor_each}
use Rattle.slh_hash.specs.Stream.{IsKeyed}
use Rattle.slh_hash.proofs.category_hmac.CategoryHmac.update.Goals as goal

pub returns : goal.returns
unfolding IsKeyed
returns c = λ p key text h.
    (h.0, (rw (append_assoc (xor_each 0x36 (key_block (category_function p) key)) text c.args.bytes.now) at (c.update.ensures p _ h.1.0), h.1.1))
