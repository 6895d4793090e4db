-- The nodes that the tree's record knows are the path's, each of n bytes.
use Rattle.std.proofs.Common.{List, length, ap, sym, subst, ◌∙◌}
use Rattle.std.proofs.Math.Logic.{∥∥₁_elim}
use Rattle.slh_tree.specs.Record.{KnownPath}
use Rattle.slh_tree.specs.declared.cover.Cover.{Cover}
use Rattle.slh_few.specs.Chunks.{end_to_end}
use Rattle.slh_few.specs.Paths.{node_bytes}
use Rattle.slh_subtrees.specs.SigningTrees.{source_of}
use Rattle.slh_subtrees.specs.Trees.{tree_of, leaf_of}
use Rattle.slh_subtrees.proofs.PathLaw.{length-known, path-known}
use Rattle.slh_subtrees.proofs.TreeLaw.{tree-height, tree-width, tree-lawful, length-tree_node}
use Rattle.slh_par.specs.JobAnswers.{AreRangeAnswers}
use Rattle.slh_par.proofs.Unique.{AreRangeAnswers-prop}
use Rattle.slh_par.proofs.answered_trees.AnsweredTreesAnswers.put_signing_path.Goals as goal

pub tree_of_ranges-gathered-requires-clause-answers : goal.tree_of_ranges-gathered-requires-clause-answers
tree_of_ranges-gathered-requires-clause-answers g c =
    let x = c.args.self.now in
    let all = ∥∥₁_elim x.all_answers (AreRangeAnswers-prop x.trees.now x.cutting.now x.covers.items x.records.items) (λ are. are) in
    let Covers : List Cover → Type 0 = λ cs. AreRangeAnswers x.trees.now x.cutting.now cs x.records.items in
    let Records : List KnownPath → Type 0 = λ rs. AreRangeAnswers x.trees.now x.cutting.now c.deref.result.now rs in
    subst Records (sym c.deref-2.ensures.value) (subst Covers (sym c.deref.ensures.value) all)

pub put_known_nodes-requires-clause-nodes : goal.put_known_nodes-requires-clause-nodes
put_known_nodes-requires-clause-nodes g c = λ j lt.
    let s = source_of c.args.self.now.trees.now in
    let t = tree_of s c.args.tree in
    length-known t (tree-lawful s c.args.tree) (leaf_of s c.args.tree) t.height c.tree_of_ranges-gathered.result.path c.tree_of_ranges-gathered.ensures.path j (rw (c.height.ensures.value, tree-height s c.args.tree) at lt)
    ∙ tree-width s c.args.tree ∙ sym c.n.ensures

pub returns-clause-path : goal.returns-clause-path
returns-clause-path g c =
    let s = source_of c.args.self.now.trees.now in
    let t = tree_of s c.args.tree in
    let path = c.tree_of_ranges-gathered.result.path in
    c.put_known_nodes.ensures ∙ ap (end_to_end (node_bytes path)) (c.height.ensures.value ∙ tree-height s c.args.tree)
    ∙ path-known t (leaf_of s c.args.tree) t.height path c.tree_of_ranges-gathered.ensures.path

pub returns-clause-root : goal.returns-clause-root
returns-clause-root g c = c.tree_of_ranges-gathered.ensures.root

pub returns-clause-len : goal.returns-clause-len
returns-clause-len g c =
    let s = source_of c.args.self.now.trees.now in
    ap length (returns-clause-root g c) ∙ length-tree_node s c.args.tree (tree_of s c.args.tree).height 0
