-- The lower nodes of the path are those of the range's answer, the upper ones those of the tree above the ranges.
use Rattle.std.proofs.Common.{◌/◌, ◌^◌, ◌<◌, arith}
use Rattle.slh_jobs.proofs.Indices.{range_below, answer_there, ranges_few, path_lengths}
use Rattle.slh_jobs.proofs.upper_tree.put_auth.Goals as goal

pub overflow_add-ranges : goal.overflow_add-ranges
overflow_add-ranges g c =
    let s = c.args.ranges.now.given.shape in
    let lt : c.args.leaf / 2 ^ c.below.result < 2 ^ s.levels = rw c.below.ensures (range_below s c.requires.shape c.args.leaf c.requires.leaf) in
    omega (arith, lt, c.args.ranges.now.few, ranges_few s.levels c.requires.shape.few)

pub path-requires-clause-there : goal.path-requires-clause-there
path-requires-clause-there g c =
    let s = c.args.ranges.now.given.shape in
    let lt : c.args.leaf / 2 ^ c.below.result < 2 ^ s.levels = rw c.below.ensures (range_below s c.requires.shape c.args.leaf c.requires.leaf) in
    answer_there c.args.ranges.now.first (c.args.leaf / 2 ^ c.below.result) s.levels _ _ lt c.args.ranges.now.there

pub put_upper-requires-clause-range : goal.put_upper-requires-clause-range
put_upper-requires-clause-range g c = rw c.below.ensures (range_below c.args.ranges.now.given.shape c.requires.shape c.args.leaf c.requires.leaf)

pub put_upper-requires-clause-out : goal.put_upper-requires-clause-out
put_upper-requires-clause-out g c =
    let s = c.args.ranges.now.given.shape in
    omega (arith, c.split_at_mut-lower.ensures.back_len, c.path_len.ensures.value, c.requires.out, path_lengths s c.requires.shape)
