use Rattle.slh_few.specs.HtSignatures.{ArePlacesAt, AreRootsUnder}
use Rattle.slh_few.proofs.lanes.hypertrees.put_top_roots.Given as goal

abbrev pub invariant-loop-layer : goal.invariant-loop-layer
invariant-loop-layer l = record {
  places : ArePlacesAt l.set l.signed l.layer l.places;
  roots : AreRootsUnder l.set l.signed l.layer l.nodes;
}
