-- The bytes behind the part that was written are as they were.
use Rattle.std.proofs.Common.{rules, ◌+◌, ◌-◌, length, arith}
use Rattle.std.proofs.lemmas.Slice.{drop-put_mid}
use Rattle.slh_params.proofs.node.put_node.Goals as goal

pub returns-clause-behind : goal.returns-clause-behind
returns-clause-behind c =
    drop-put_mid c.args.start (c.args.start + c.len.result - c.args.start) c.args.out.now c.copy_from_slice.new.self
    (c.args.start + length c.args.node.now.items) (omega (arith, c.len.ensures.value)) (omega (arith, c.requires)) (search rules)
