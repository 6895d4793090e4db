use Rattle.std.proofs.Common.{arith, rules, ◌≡◌, ◌≤◌, ◌^◌, ◌-◌, ◌*◌, ◌∙◌, ap, length}
use Rattle.std.proofs.Math.Nat.{pow-le-pow_right}
use Rattle.std.proofs.lemmas.List.FromFn.{length-map-range_with_len}
use Rattle.slh_subtrees.proofs.Levels.{points_more}
use Rattle.slh_subtrees.proofs.cuts.level_cuts.Goals as goal

pub push-requires : goal.push-requires
push-requires c =
    let few : 2 ^ c.args.level ≤ 2 ^ 8 = pow-le-pow_right {n = 2} (omega arith) {i = c.args.level} {j = 8} (omega arith) in
    let len : length c.loop-i.kept.items ≡ c.loop-i.i - 1 = ap length c.loop-i.invariant ∙ length-map-range_with_len (λ j. j * c.leaf_count-size.result) 1 (c.loop-i.i - 1) in
    (omega arith, omega (arith, len, few, c.leaf_count-count.ensures))

pub loop-i-preserved : goal.loop-i-preserved
loop-i-preserved c = points_more c.leaf_count-size.result c.loop-i.i _ _ (omega arith) c.loop-i.invariant (search rules)
