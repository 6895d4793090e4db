-- After each turn the lanes hold the nodes of the next height, and their indices.
use Rattle.std.proofs.Common.{[], ◌≡◌, ℕ, ◌+◌, ◌/◌, ◌^◌, List, drop, slice_index, slice_index_or, ap, refl, subst, ◌∙◌, arith}
use Rattle.slh_params.specs.Address.{address, TREE}
use Rattle.slh_params.specs.Params.{len}
use Rattle.slh_params.specs.ParamSet.{params}
use Rattle.slh_hash.specs.Hash.{H}
use Rattle.slh_lanes.specs.Lanes.{value_at}
use Rattle.slh_lanes.proofs.Columns.{splat_lane}
use Rattle.slh_tree.specs.Climb.{climb_to, path_node}
use Rattle.slh_tree.proofs.Authentic.{climb-start, climb-step}
use Rattle.slh_tree.proofs.Branch.{half_shr}
use Rattle.slh_few.specs.Chunks.{chunk}
use Rattle.slh_few.specs.Xmss.{wots_sig_len, xmss_sig_len, xmss_tree}
use Rattle.slh_few.proofs.XmssClimb.{parent_at, path_behind}
use Rattle.slh_few.proofs.lanes.hypertrees.climbed.Goals as goal

pub loop-z-init : goal.loop-z-init
loop-z-init c = record {
  at = λ j place lane. c.pairs_of-at.ensures j place lane ∙ omega arith;
  nodes = λ j x place pk lane seed. climb-start _ _ _ _ _ refl;
}

pub loop-z-preserved : goal.loop-z-preserved
loop-z-preserved c =
    let p = params c.args.set in
    let z : ℕ = c.loop-z.z in
    record {
      at = λ j place lane.
          let i : ℕ = (slice_index_or c.args.places.now j place).pair in
          let up : i / 2 ^ z / 2 ≡ i / 2 ^ (z + 1) = half_shr i z ∙ ap (λ (k : ℕ). i / 2 ^ k) (omega arith) in
          c.half-at.ensures j lane ∙ ap (λ (k : ℕ). k / 2) (c.loop-z.invariant.at j place lane) ∙ up;
      nodes = λ j x place pk lane seed.
          let here = slice_index_or c.args.places.now j place in
          let sig : List ℕ = chunk (xmss_sig_len p) (slice_index_or c.args.signed.now j x).sig.now c.args.layer in
          let u : ℕ = slice_index c.loop-z.at j in
          let own : List ℕ = value_at c.loop-z.nodes j p.n in
          let other : List ℕ = value_at c.path_nodes-others.result j p.n in
          let value : List ℕ = value_at c.parents-nodes.result j p.n in
          let zero = splat_lane 0 j lane in
          let held = c.set_pairs.ensures j lane _ (c.place_adrs-adrs.ensures j place lane) in
          let even = λ (e : _). subst (λ (k : ℕ). value ≡ H p pk (address here.layer here.tree TREE k (z + 1) (u / 2)) own other) zero
          (rw c.requires.seeds at (c.parents-nodes.ensures.even j pk _ lane seed held e)) in
          let odd = λ (e : _). subst (λ (k : ℕ). value ≡ H p pk (address here.layer here.tree TREE k (z + 1) (u / 2)) other own) zero
          (rw c.requires.seeds at (c.parents-nodes.ensures.odd j pk _ lane seed held e)) in
          parent_at p pk here.layer here.tree (z + 1) (here.pair / 2 ^ z) u own other value (c.loop-z.invariant.at j place lane) even odd
          ∙ climb-step (xmss_tree p [] pk here.layer here.tree) here.pair (value_at c.args.leaves.now j p.n) (path_node p.n (drop (wots_sig_len p) sig)) z own other
          (c.loop-z.invariant.nodes j x place pk lane seed) (c.path_nodes-others.ensures j x lane ∙ path_behind p.n (len p) z sig);
    }

pub returns : goal.returns
returns c = λ j x place pk lane seed.
    let p = params c.args.set in
    let here = slice_index_or c.args.places.now j place in
    let sig : List ℕ = chunk (xmss_sig_len p) (slice_index_or c.args.signed.now j x).sig.now c.args.layer in
    let all : c.loop-z.z ≡ p.hp = omega (arith, c.hp-z-end.ensures, c.loop-z-test.false) in
    c.loop-z.invariant.nodes j x place pk lane seed
    ∙ ap (climb_to (xmss_tree p [] pk here.layer here.tree) here.pair (value_at c.args.leaves.now j p.n) (path_node p.n (drop (wots_sig_len p) sig))) all
