use Rattle.std.proofs.Common.{[], ◌≡◌, ℕ, ◌/◌, ◌^◌, ◌<◌, List, drop, slice_index, slice_index_or}
use Rattle.slh_params.specs.ParamSet.{params}
use Rattle.slh_lanes.specs.Lanes.{value_at}
use Rattle.slh_lanes.specs.LaneSeeds.{HasSeedAt}
use Rattle.slh_tree.specs.Climb.{climb_to, path_node}
use Rattle.slh_few.specs.Chunks.{chunk}
use Rattle.slh_few.specs.Xmss.{wots_sig_len, xmss_sig_len, xmss_tree}
use Rattle.slh_few.specs.declared.hypertree.HtSignature.{HtSignature}
use Rattle.slh_few.specs.declared.place.Place.{Place}
use Rattle.slh_few.proofs.lanes.hypertrees.climbed.Given as goal

abbrev pub invariant-loop-z : goal.invariant-loop-z
invariant-loop-z l = record {
  at : (j : ℕ) (place : Place) → j < 8 → slice_index l.at j ≡ (slice_index_or l.places j place).pair / 2 ^ l.z;
  nodes : (j : ℕ) (x : HtSignature) (place : Place) (pk : List ℕ) → j < 8 → HasSeedAt l.seeds j pk
      → let p = params l.set in let here = slice_index_or l.places j place in
      value_at l.nodes j p.n ≡ climb_to (xmss_tree p [] pk here.layer here.tree) here.pair (value_at l.leaves j p.n)
      (path_node p.n (drop (wots_sig_len p) (chunk (xmss_sig_len p) (slice_index_or l.signed j x).sig.now l.layer))) l.z;
}
