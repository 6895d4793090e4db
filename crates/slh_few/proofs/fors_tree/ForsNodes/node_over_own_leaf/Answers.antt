-- One height more of the path is known, and its node joined to the one over the leaf.
use Rattle.std.proofs.Common.{◌≡◌, ℕ, suc, ◌+◌, ◌/◌, ◌^◌, add-one, length, List, ap, sym, ◌∙◌, arith, refl}
use Rattle.slh_params.specs.ParamSet.{params}
use Rattle.slh_params.proofs.Bounds.{a_high}
use Rattle.slh_tree.specs.declared.cover.Placed.{Placed}
use Rattle.slh_tree.specs.Tree.{node, sibling_index}
use Rattle.slh_tree.specs.Climb.{parent}
use Rattle.slh_tree.proofs.Authentic.{node-leaf, node_width, parent-sibling}
use Rattle.slh_tree.proofs.BlockNodes.{gains_none, gains_sibling}
use Rattle.slh_tree.proofs.Branch.{sibling_within, half_shr}
use Rattle.slh_tree.proofs.Pushing.{Notes}
use Rattle.slh_few.specs.Trees.{fors_nodes_of, fors_nodes-lawful}
use Rattle.slh_few.proofs.fors_tree.ForsNodes.node_over_own_leaf.Goals as goal

pub loop-height-init : goal.loop-height-init
unfolding fors_nodes_of
loop-height-init c =
    let t = fors_nodes_of c.args.self.now in
    let at : c.leaf-leaf.result ≡ c.leaf-leaf.result / 2 ^ 0 = omega arith in
    record {
      climbed = c.leaf-node.ensures ∙ ap t.leaf at ∙ sym (node-leaf t (c.leaf-leaf.result / 2 ^ 0));
      width = ap length c.leaf-node.ensures ∙ (fors_nodes-lawful c.args.self.now).leaf_width c.leaf-leaf.result;
      gained = gains_none t c.args.rec.now;
    }

pub overflow_shr-i : goal.overflow_shr-i
overflow_shr-i c = omega (arith, a_high c.args.self.now.signer.now.public.set, c.requires.height, c.loop-height-test.true)

pub node-requires-clause-within : goal.node-requires-clause-within
node-requires-clause-within c =
    sibling_within c.leaf-leaf.result (params c.args.self.now.signer.now.public.set).a c.loop-height.height (omega (arith, c.requires.index, c.leaf-leaf.ensures)) (omega (arith, c.requires.height, c.loop-height-test.true))

pub parent-node-requires-clause-high : goal.parent-node-requires-clause-high
parent-node-requires-clause-high c = omega (arith, a_high c.args.self.now.signer.now.public.set, c.requires.height, c.loop-height-test.true)

pub parent-node-requires-clause-sibling : goal.parent-node-requires-clause-sibling
unfolding fors_nodes_of
parent-node-requires-clause-sibling c =
    let t = fors_nodes_of c.args.self.now in
    ap length c.node.ensures ∙ node_width t (fors_nodes-lawful c.args.self.now) c.loop-height.height _

pub loop-height-preserved : goal.loop-height-preserved
unfolding fors_nodes_of
loop-height-preserved c =
    let t = fors_nodes_of c.args.self.now in
    let l = c.leaf-leaf.result in
    let k = c.loop-height.height in
    let old = c.loop-height.invariant in
    let placed : Placed = record { z = k; i = sibling_index l k; node = c.node.result } in
    let notes : Notes placed c.loop-height.rec c.note.new.self = record {
      height = c.note.ensures.height;
      leaf = c.note.ensures.leaf;
      noted = c.note.ensures.noted;
      kept = c.note.ensures.kept;
    } in
    let own = c.leaf-leaf.ensures in
    let up : parent t (k + 1) (l / 2 ^ k) c.loop-height.node.items c.node.result.items ≡ node t (k + 1) (l / 2 ^ (k + 1)) =
    ap (λ (x : List ℕ). parent t (k + 1) (l / 2 ^ k) x c.node.result.items) old.climbed
    ∙ ap (λ (x : List ℕ). parent t (k + 1) (l / 2 ^ k) (node t k (l / 2 ^ k)) x) c.node.ensures
    ∙ rw add-one (parent-sibling t k (l / 2 ^ k) ∙ ap (node t (suc k)) (half_shr l k))
    in
    record {
      climbed = c.parent-node.ensures.value ∙ up;
      width = c.parent-node.ensures.width;
      gained = gains_sibling t k c.args.rec.now c.loop-height.rec c.note.new.self placed refl (ap (λ i. sibling_index i k) own) (c.node.ensures ∙ ap (λ i. node t k (sibling_index i k)) own) old.gained notes;
    }

pub returns-clause-node : goal.returns-clause-node
returns-clause-node c =
    let t = fors_nodes_of c.args.self.now in
    let end : c.loop-height.height ≡ c.args.z = omega (arith, c.loop-height-test.false) in
    c.loop-height.invariant.climbed ∙ ap (λ k. node t k (c.leaf-leaf.result / 2 ^ k)) end ∙ ap (λ i. node t c.args.z (i / 2 ^ c.args.z)) c.leaf-leaf.ensures
