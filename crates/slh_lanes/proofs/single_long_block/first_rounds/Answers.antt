use Rattle.std.proofs.Common.{List, ℕ, sym, arith}
use Rattle.slh_lanes.specs.Laws512 as laws
use Rattle.slh_lanes.specs.Pairs.{eight}
use Rattle.slh_lanes.proofs.single_long_block.first_rounds.Goals as goal

pub returns : goal.returns
returns c = λ b words.
    let h : List ℕ = eight c.args.from.ab c.args.from.cd c.args.from.ef c.args.from.gh in
    let r0 = c.first_pair-v.ensures b h (words 0 (omega arith)) (words 1 (omega arith)) (sym (laws.begins h b)) in
    let r1 = c.first_pair-v-2.ensures b h (words 2 (omega arith)) (words 3 (omega arith)) r0 in
    let r2 = c.first_pair-v-3.ensures b h (words 4 (omega arith)) (words 5 (omega arith)) r1 in
    let r3 = c.first_pair-v-4.ensures b h (words 6 (omega arith)) (words 7 (omega arith)) r2 in
    let r4 = c.first_pair-v-5.ensures b h (words 8 (omega arith)) (words 9 (omega arith)) r3 in
    let r5 = c.first_pair-v-6.ensures b h (words 10 (omega arith)) (words 11 (omega arith)) r4 in
    let r6 = c.first_pair-v-7.ensures b h (words 12 (omega arith)) (words 13 (omega arith)) r5 in
    c.first_pair.ensures b h (words 14 (omega arith)) (words 15 (omega arith)) r6
