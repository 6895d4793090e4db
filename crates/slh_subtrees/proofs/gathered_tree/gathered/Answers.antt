-- After each record the path knows what the first records do; after `gather` it is known whole.
use Rattle.std.proofs.Common.{◌≡◌, ℕ, ◌<◌, List, length, get_or, arith, sym, subst, ◌∙◌}
use Rattle.slh_tree.specs.Tree.{MerkleTree}
use Rattle.slh_tree.specs.Record.{KnownPath}
use Rattle.slh_tree.specs.declared.cover.Cover.{Cover}
use Rattle.slh_subtrees.specs.Gathered.{IsHashed, AreHashed}
use Rattle.slh_subtrees.proofs.Merging.{merged_more, path_of, no_leaves}
use Rattle.slh_subtrees.proofs.gathered_tree.gathered.Goals as goal

-- the record in a place is that of the cover in the same place
hashed_there : (t : MerkleTree) (leaf : ℕ) (cs : List Cover) (rs : List KnownPath) (k : ℕ) (d : Cover) (r : KnownPath)
    → AreHashed t leaf cs rs → k < length rs → r ≡ get_or rs k r → IsHashed t leaf (get_or cs k d) r
hashed_there t leaf cs rs k d r all below is =
    subst (λ (y : KnownPath). IsHashed t leaf (get_or cs k d) y) (sym is) (all.each k d r (omega (arith, all.count)))

pub merge-requires-clause-height : goal.merge-requires-clause-height
merge-requires-clause-height g c =
    (hashed_there _ _ _ _ _ no_leaves _ c.requires.hashed c.loop-record-test.true c.record-item.is).height ∙ sym c.loop-record.invariant.height

pub merge-requires-clause-leaf : goal.merge-requires-clause-leaf
merge-requires-clause-leaf g c =
    (hashed_there _ _ _ _ _ no_leaves _ c.requires.hashed c.loop-record-test.true c.record-item.is).leaf ∙ sym c.loop-record.invariant.leaf

pub loop-record-preserved : goal.loop-record-preserved
loop-record-preserved g c =
    merged_more _ _ _ _ _ c.record-item.result _ c.loop-record.invariant
    (λ d. hashed_there _ _ _ _ _ d _ c.requires.hashed c.loop-record-test.true c.record-item.is)
    c.merge.ensures.height c.merge.ensures.leaf c.merge.ensures.taken

pub returns : goal.returns
returns g c =
    let t = g.T.Climbs.tree c.args.tree.now in
    let now = c.loop-record.invariant in
    let height = c.gather-root.ensures.gained.height ∙ now.height in
    let leaf = c.gather-root.ensures.gained.leaf ∙ now.leaf in
    record {
      root = c.gather-root.ensures.root;
      height = height;
      leaf = leaf;
      path = λ j below. path_of t c.args.leaf c.args.covers.now c.loop-record.record-index c.loop-record.path c.gather-root.new.rec now
          (omega (arith, c.loop-record-test.false, c.requires.hashed.count)) c.gather-root.ensures.complete j below;
    }
