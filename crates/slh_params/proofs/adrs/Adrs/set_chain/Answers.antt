use Rattle.std.proofs.Common.{◌∙◌, rules}
use Rattle.slh_params.specs.Bits.{AllBytes}
use Rattle.slh_params.proofs.Bytes.{AllBytes-put_mid, AllBytes-written}
use Rattle.slh_params.proofs.adrs.Adrs.set_chain.Goals as goal

pub invariant_of-self : goal.invariant_of-self
invariant_of-self c =
    let word : AllBytes c.copy_from_slice.new.self =
    AllBytes-written c.args.chain 4 _ (c.copy_from_slice.ensures.after ∙ c.to_be_bytes.ensures) in
    search (rules, AllBytes-put_mid, word, c.self.invariant)
