use Rattle.std.proofs.Common.{ℕ, ◌<◌, lit<, rules}
use Rattle.std.proofs.lemmas.List.Elements.{All-set, All-replicate, All-same}
use Rattle.slh_params.specs.Bits.{AllBytes}
use Rattle.slh_params.proofs.Bytes.{AllBytes-put_mid}
use Rattle.slh_params.proofs.adrs.Adrs.set_type_and_clear.Goals as goal

pub invariant_of-self : goal.invariant_of-self
invariant_of-self c =
    let P : ℕ → Type 0 = λ b. b < 256 in
    let zeros : AllBytes c.copy_from_slice.new.self =
    All-same P _ _ c.copy_from_slice.ensures.after (All-replicate P 12 0 (lit< tt)) in
    search (rules, AllBytes-put_mid, zeros, All-set, c.number.type_inv, c.self.invariant)
