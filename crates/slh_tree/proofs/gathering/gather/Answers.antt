-- After each cover the record knows the path nodes that end there and lie in no range; after the last, all of them.
use Rattle.std.proofs.Common.{inl, inr}
use Rattle.slh_tree.proofs.CoverByCover.{gathered_more, gathered_noted, lies_in_one_or_not, path_complete}
use Rattle.slh_tree.proofs.gathering.gather.Goals as goal

pub loop-cover-preserved : goal.loop-cover-preserved
loop-cover-preserved g c =
    let t = g.T.Climbs.tree c.args.tree.now in
    gathered_more t c.args.covers.now c.requires.covers c.loop-cover.cover-index c.loop-cover.stack c.args.rec.now c.loop-cover.rec c.loop-cover.invariant
    c.cover-item.result c.push_cover.new.stack c.push_cover.new.rec c.loop-cover-test.true c.cover-item.is c.push_cover.ensures.cover c.push_cover.ensures.gained

pub returns-clause-gained : goal.returns-clause-gained
returns-clause-gained g c = record {
  height = c.loop-cover.invariant.height;
  leaf = c.loop-cover.invariant.leaf;
  noted = λ j below off.
      gathered_noted (g.T.Climbs.tree c.args.tree.now) c.args.covers.now c.requires.covers c.loop-cover.cover-index c.loop-cover.stack c.args.rec.now c.loop-cover.rec c.loop-cover.invariant
      c.loop-cover-test.false c.requires.same_height c.requires.leaf j below off;
  kept = λ j on.
      c.loop-cover.invariant.kept j (λ below.
      elim (lies_in_one_or_not c.args.covers.now c.args.rec.now.leaf j) [
        | inl lies ↦ lies
        | inr off ↦ absurd (on below off)
      ]);
}

pub returns-clause-complete : goal.returns-clause-complete
returns-clause-complete g c before j below =
    let t = g.T.Climbs.tree c.args.tree.now in
    path_complete t c.args.covers.now c.args.rec.now.leaf c.args.rec.now.height c.args.rec.now c.loop-cover.rec
    (λ k low off. gathered_noted t c.args.covers.now c.requires.covers c.loop-cover.cover-index c.loop-cover.stack c.args.rec.now c.loop-cover.rec c.loop-cover.invariant
    c.loop-cover-test.false c.requires.same_height c.requires.leaf k low off)
    (λ k lies. c.loop-cover.invariant.kept k (λ _. lies)) before j below
