-- A range of the leaves below one node is a block of the tree.
use Rattle.std.proofs.Common.{◌/◌, ◌^◌, inl, inr, arith}
use Rattle.std.proofs.Math.Pow.{pow_mono}
use Rattle.std.proofs.lemmas.Bool.{cases_lt}
use Rattle.std.proofs.lemmas.Nat.{pow_below}
use Rattle.slh_params.specs.ParamSet.{params}
use Rattle.slh_params.proofs.Bounds.{a_high, k_high}
use Rattle.slh_tree.proofs.Blocks.{past-first}
use Rattle.slh_tree.proofs.OneCover.{block_cover}
use Rattle.slh_few.proofs.context.SigningContext.fors_range.Goals as goal

pub block_height-requires-clause-small : goal.block_height-requires-clause-small
block_height-requires-clause-small c = omega (arith, c.requires.within, pow_mono (a_high c.args.self.now.public.set))

pub hash_block-requires-clause-height : goal.hash_block-requires-clause-height
hash_block-requires-clause-height c =
    let a = (params c.args.self.now.public.set).a in
    let z = c.in-Some.z in
    let ends = c.in-Some.ensures.1 in
    elim (cases_lt a z) [
      | inl lt ↦ absurd (omega (arith, past-first z (c.args.lo / 2 ^ z), pow_below a z lt, ends, c.requires.within))
      | inr ge ↦ ge
    ]

pub returns-in-Some-clause-block : goal.returns-in-Some-clause-block
returns-in-Some-clause-block c = λ z i from to.
    block_cover _ z i c.args.lo c.args.hi c.hash_block.result.nodes.items from to c.hash_block.ensures.cover

pub invariant_of-tree : goal.invariant_of-tree
invariant_of-tree c = record { small = omega (arith, c.requires.tree, k_high c.args.self.now.public.set) }

pub invariant_of-tree-2 : goal.invariant_of-tree-2
invariant_of-tree-2 c = record { small = omega (arith, c.requires.tree, k_high c.args.self.now.public.set) }
