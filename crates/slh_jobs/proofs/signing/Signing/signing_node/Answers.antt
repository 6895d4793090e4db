-- The record knows the path below the range's node.
use Rattle.std.proofs.Common.{◌≡◌, ℕ, ◌/◌, ◌^◌, ◌<◌, ◌++◌, List, ap, sym, ◌∙◌, arith}
use Rattle.slh_params.specs.ParamSet.{params}
use Rattle.slh_params.specs.declared.param_set.ParamSet.{ParamSet}
use Rattle.slh_tree.specs.Climb.{path_below}
use Rattle.slh_tree.specs.Cover.{first_leaf, past_leaf}
use Rattle.slh_subtrees.specs.Jobs.{height_of}
use Rattle.slh_subtrees.specs.SigningTrees.{source_of, tree_in, leaf_in}
use Rattle.slh_subtrees.proofs.PathLaw.{Knows, length-known, path-known}
use Rattle.slh_subtrees.proofs.TreeLaw.{tree-height, tree-width, tree-lawful}
use Rattle.slh_jobs.specs.Jobs.{shape_of}
use Rattle.slh_jobs.specs.Ranges.{below}
use Rattle.slh_jobs.proofs.Blocks.{hashed-knows}
use Rattle.slh_jobs.proofs.Indices.{tree_range_at, shape-height, shape-n}
use Rattle.slh_jobs.proofs.signing.Signing.signing_node.Goals as goal
use Rattle.slh_jobs.proofs.signing.Signing.signing_node.Goals.{After-hashed_with_rest-hashed}

pub leaves-lo-requires-clause-range : goal.leaves-lo-requires-clause-range
leaves-lo-requires-clause-range c =
    let t = c.args.self.now in
    let small : c.leaf.result < 2 ^ height_of (params t.levels.set) c.args.tree = rw t.tree_set at c.leaf.ensures.small in
    rw (c.below.ensures, c.shape-shape.ensures.value) (tree_range_at t.levels c.args.tree c.leaf.result small)

-- what is known of the range
knows : (c : After-hashed_with_rest-hashed)
    → Knows (tree_in c.args.self.now.trees c.args.tree) (leaf_in c.args.self.now.trees c.args.tree) (below (shape_of c.args.self.now.levels c.args.tree)) c.hashed_with_rest-hashed.result.path
knows c =
    let t = c.args.self.now in
    let s = shape_of t.levels c.args.tree in
    let v : ℕ = leaf_in t.trees c.args.tree in
    let high : s.height ≡ (tree_in t.trees c.args.tree).height =
    shape-height t.levels c.args.tree ∙ ap (λ (set : ParamSet). height_of (params set) c.args.tree) (sym t.tree_set) ∙ tree-height (source_of t.trees) c.args.tree in
    let from : c.leaves-lo.result.0 ≡ first_leaf (below s) (v / 2 ^ below s) = rw (c.below.ensures, c.shape-shape.ensures.value, c.leaf.ensures.value) at c.leaves-lo.ensures.lo in
    let to : c.leaves-lo.result.1 ≡ past_leaf (below s) (v / 2 ^ below s) = rw (c.below.ensures, c.shape-shape.ensures.value, c.leaf.ensures.value) at c.leaves-lo.ensures.hi in
    hashed-knows (tree_in t.trees c.args.tree) v (below s) c.hashed_with_rest-hashed.result.cover c.hashed_with_rest-hashed.result.path c.hashed_with_rest-hashed.ensures.hashed
    (c.hashed_with_rest-hashed.ensures.lo ∙ from) (c.hashed_with_rest-hashed.ensures.hi ∙ to) (omega (arith, high))

pub put_known_nodes-requires-clause-nodes : goal.put_known_nodes-requires-clause-nodes
put_known_nodes-requires-clause-nodes c = λ j lt.
    let t = c.args.self.now in
    let s = source_of t.trees in
    let below_z : j < below (shape_of t.levels c.args.tree) = rw (c.below-2.ensures, c.shape-shape.ensures.value) at lt in
    let n : c.shape-shape.result.n ≡ (params s.set).n =
    ap (λ x. x.n) c.shape-shape.ensures.value ∙ shape-n t.levels c.args.tree ∙ ap (λ (set : ParamSet). (params set).n) (sym t.tree_set) in
    length-known (tree_in t.trees c.args.tree) (tree-lawful s c.args.tree) (leaf_in t.trees c.args.tree) (below (shape_of t.levels c.args.tree)) c.hashed_with_rest-hashed.result.path
    (knows (goal.at.put_known_nodes-requires-clause-nodes c).After-hashed_with_rest-hashed) j below_z
    ∙ tree-width s c.args.tree ∙ sym n

pub returns-clause-own : goal.returns-clause-own
returns-clause-own c =
    let t = c.args.self.now in
    let z : ℕ = below (shape_of t.levels c.args.tree) in
    let path = c.hashed_with_rest-hashed.result.path in
    let lower : c.put_known_nodes.new.out ≡ path_below (tree_in t.trees c.args.tree) (leaf_in t.trees c.args.tree) z =
    rw (c.below-2.ensures, c.shape-shape.ensures.value) at c.put_known_nodes.ensures
    ∙ path-known (tree_in t.trees c.args.tree) (leaf_in t.trees c.args.tree) z path (knows (goal.at.returns-clause-own c).After-hashed_with_rest-hashed) in
    ap (λ (xs : List ℕ). xs ++ c.hashed_with_rest-hashed.new.rest) lower
    ∙ ap (λ (ys : List ℕ). path_below (tree_in t.trees c.args.tree) (leaf_in t.trees c.args.tree) z ++ ys) c.hashed_with_rest-hashed.ensures.rest
