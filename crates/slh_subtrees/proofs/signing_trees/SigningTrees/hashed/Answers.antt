-- The range is one of the tree over the place at its layer, or of the FORS tree of its number.
use Rattle.std.proofs.Common.{◌∙◌}
use Rattle.slh_subtrees.proofs.Hashed.{hashed_range}
use Rattle.slh_subtrees.proofs.signing_trees.SigningTrees.hashed.Goals as goal
use Rattle.slh_subtrees.proofs.signing_trees.SigningTrees.hashed.Goals.{in-Xmss, in-Fors}

pub returns-clause-hashed : goal.returns-clause-hashed
returns-clause-hashed c = elim c.match-tree.branch [
  | in-Xmss w ↦
      let made = w.xmss_range-cover.ensures in
      let height = c.for_leaf-path.ensures.height ∙ (rw w.in-Xmss.is at c.height.ensures.value) in
      let leaf = c.for_leaf-path.ensures.leaf ∙ (rw w.in-Xmss.is at c.leaf.ensures.value) in
      let cover = rw w.layer_place-at.ensures.place at made.cover in
      let gained = rw w.layer_place-at.ensures.place at made.gained in
      rw (w.cover-is, w.path-is, w.in-Xmss.is) (hashed_range _ _ c.args.lo c.args.hi _ _ _ made.lo made.hi cover gained height leaf c.for_leaf-path.ensures.empty)
  | in-Fors w ↦
      let made = w.fors_range-cover.ensures in
      let height = c.for_leaf-path.ensures.height ∙ (rw w.in-Fors.is at c.height.ensures.value) in
      let leaf = c.for_leaf-path.ensures.leaf ∙ (rw w.in-Fors.is at c.leaf.ensures.value) in
      rw (w.cover-is, w.path-is, w.in-Fors.is) (hashed_range _ _ c.args.lo c.args.hi _ _ _ made.lo made.hi made.cover made.gained height leaf c.for_leaf-path.ensures.empty)
]

pub returns-clause-block : goal.returns-clause-block
returns-clause-block c = λ z i from to. elim c.match-tree.branch [
  | in-Xmss w ↦ rw w.cover-is (w.xmss_range-cover.ensures.block z i from to)
  | in-Fors w ↦ rw w.cover-is (w.fors_range-cover.ensures.block z i from to)
]
