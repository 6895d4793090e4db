-- A node is the left one if its number is even.
use Rattle.std.proofs.Common.{[], ◌∷◌, ◌≡◌, ℕ, ◌+◌, ◌/◌, ◌%◌, ◌^◌, ◌<◌, ◌≤◌, drop, slice_index, arith, ap, ap₂, ◌∙◌}
use Rattle.slh_params.specs.ParamSet.{params}
use Rattle.slh_hash.specs.Hash.{H}
use Rattle.slh_lanes.specs.Lanes.{value_at}
use Rattle.slh_lanes.proofs.Columns.{splat_lane}
use Rattle.slh_tree.specs.Climb.{path_node}
use Rattle.slh_tree.proofs.Authentic.{climb-step}
use Rattle.slh_few.specs.Fors.{fors_tree, fors_part_len}
use Rattle.slh_few.specs.ForsRoots.{address_over}
use Rattle.slh_few.specs.Chunks.{chunk}
use Rattle.slh_few.proofs.ForsClimb.{parent_numbered, path_after}
use Rattle.slh_few.proofs.lanes.fors_climbs.TreeGroup.pair_up.Goals as goal

pub returns : goal.returns
returns c = λ pk indices leaves given j low.
    let t = c.args.self.now in
    let p = params c.args.set in
    let z : ℕ = c.args.z in
    let lane : j < 8 = omega (arith, low, c.requires.within.0) in
    let tree : ℕ = t.first.tree_no + j in
    let x : ℕ = slice_index indices tree in
    let u : ℕ = slice_index t.leaves j in
    let own = chunk (fors_part_len p) c.args.sig.now tree in
    let node = value_at c.args.nodes.now j p.n in
    let sibling = value_at c.part_nodes-siblings.result j p.n in
    let odd : slice_index c.parity-right_children.result j ≡ u / 2 ^ z % 2 = c.parity-right_children.ensures j lane ∙ ap (λ (k : ℕ). k % 2) (c.indices_over.ensures j lane) in
    let one = splat_lane 1 j lane in
    let left : u / 2 ^ z % 2 ≡ 0 → slice_index c.parity-right_children.result j < slice_index (1 ∷ 1 ∷ 1 ∷ 1 ∷ 1 ∷ 1 ∷ 1 ∷ 1 ∷ []) j = λ e. rw one (omega (arith, odd, e)) in
    let right : u / 2 ^ z % 2 ≡ 1 → slice_index (1 ∷ 1 ∷ 1 ∷ 1 ∷ 1 ∷ 1 ∷ 1 ∷ 1 ∷ []) j ≤ slice_index c.parity-right_children.result j = λ e. rw one (omega (arith, odd, e)) in
    parent_numbered p [] pk t.first.idx_tree t.first.idx_leaf tree z x u node sibling
    (H p pk (address_over t (z + 1) j) (value_at c.pick_nodes.result j p.n) (value_at c.pick_nodes-right.result j p.n)) c.requires.height (leaves j low)
    (λ e. ap₂ (H p pk (address_over t (z + 1) j)) (c.pick_nodes.ensures.below j p.n lane (left e)) (c.pick_nodes-right.ensures.below j p.n lane (left e)))
    (λ e. ap₂ (H p pk (address_over t (z + 1) j)) (c.pick_nodes.ensures.others j p.n lane (right e)) (c.pick_nodes-right.ensures.others j p.n lane (right e)))
    ∙ climb-step (fors_tree p [] pk t.first.idx_tree t.first.idx_leaf tree) x _ (path_node p.n (drop p.n own)) z _ _
    (given j low) (c.part_nodes-siblings.ensures j low ∙ path_after p.n z own)
