-- The range of the leaf that signs is one of its tree's.
use Rattle.std.proofs.Common.{◌/◌, ◌^◌, ◌<◌, arith}
use Rattle.slh_params.specs.ParamSet.{params}
use Rattle.slh_subtrees.specs.Jobs.{height_of}
use Rattle.slh_jobs.specs.Jobs.{shape_of}
use Rattle.slh_jobs.specs.Ranges.{below, answer_len}
use Rattle.slh_jobs.proofs.Indices.{tree_range_at, tree_is_shape, ranges_few, answer_there}
use Rattle.slh_jobs.proofs.all_answers.AllAnswers.rest.Goals as goal
use Rattle.slh_jobs.proofs.all_answers.AllAnswers.rest.Goals.{After-leaf}

-- the range
range : (c : After-leaf) → c.leaf.result / 2 ^ below (shape_of c.args.self.now.signing.levels c.args.tree) < 2 ^ (shape_of c.args.self.now.signing.levels c.args.tree).levels
range c =
    let t = c.args.self.now.signing in
    let small : c.leaf.result < 2 ^ height_of (params t.levels.set) c.args.tree = rw t.tree_set at c.leaf.ensures.small in
    tree_range_at t.levels c.args.tree c.leaf.result small

pub overflow_add-first : goal.overflow_add-first
overflow_add-first c =
    let levels = c.args.self.now.signing.levels in
    let s = shape_of levels c.args.tree in
    let lt : c.leaf.result / 2 ^ c.below.result < 2 ^ s.levels = rw (c.below.ensures, c.of_kind-given.ensures.shape) (range (goal.at.overflow_add-first c).After-leaf) in
    omega (arith, lt, c.first.ensures.few, ranges_few s.levels (tree_is_shape levels c.args.tree).few)

pub rest-requires-clause-there : goal.rest-requires-clause-there
rest-requires-clause-there c =
    let levels = c.args.self.now.signing.levels in
    let s = shape_of levels c.args.tree in
    let lt : c.leaf.result / 2 ^ c.below.result < 2 ^ s.levels = rw (c.below.ensures, c.of_kind-given.ensures.shape) (range (goal.at.rest-requires-clause-there c).After-leaf) in
    rw (c.of_kind-given.ensures.shape, c.of_kind-given.ensures.bytes) (answer_there c.first.result (c.leaf.result / 2 ^ c.below.result) s.levels (answer_len s) _ lt c.first.ensures.there)
