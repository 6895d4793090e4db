-- In the block either the leaf lies, and the path's nodes below, or the block's node is the only one.
use Rattle.std.proofs.Common.{◌≡◌, ◌/◌, ◌^◌, ◌<◌, ap, sym, ◌∙◌, subst, refl, arith}
use Rattle.arrayvec.specs.ArrayVec.{ArrayVec}
use Rattle.slh_tree.specs.declared.cover.Placed.{Placed}
use Rattle.slh_tree.specs.Cover.{past_leaf}
use Rattle.slh_tree.specs.Record.{Gains}
use Rattle.slh_tree.proofs.BlockNodes.{own_past, gains_own, gains_beside}
use Rattle.slh_tree.proofs.Pushing.{Notes}
use Rattle.slh_few.specs.Trees.{fors_nodes_of}
use Rattle.slh_few.proofs.fors_tree.ForsNodes.noted_node.Goals as goal
use Rattle.slh_few.proofs.fors_tree.ForsNodes.noted_node.Goals.{then-leaf-z, else-leaf-z}

pub node_over_own_leaf-node-requires-clause-index : goal.node_over_own_leaf-node-requires-clause-index
node_over_own_leaf-node-requires-clause-index c =
    let l = c.args.rec.now.leaf in
    let own : l / 2 ^ c.args.z ≡ c.args.i = ap (λ k. k / 2 ^ c.args.z) (sym c.leaf.ensures) ∙ c.if-leaf-z.true in
    omega (arith, own_past l c.args.z, ap (past_leaf c.args.z) own, c.requires.within)

pub returns-clause-gained : goal.returns-clause-gained
returns-clause-gained c =
    let t = fors_nodes_of c.args.self.now in
    let r0 = c.args.rec.now in
    let r = c.if-leaf-z.rec in
    let z = c.args.z in
    let placed : Placed = record { z = z; i = c.args.i; node = c.if-leaf-z.node } in
    let notes : Notes placed r c.note.new.self = record {
      height = c.note.ensures.height;
      leaf = c.note.ensures.leaf;
      noted = c.note.ensures.noted;
      kept = c.note.ensures.kept;
    } in
    elim c.if-leaf-z.branch [
      | then-leaf-z w ↦
          let own : r0.leaf / 2 ^ z ≡ c.args.i = ap (λ k. k / 2 ^ z) (sym c.leaf.ensures) ∙ w.if-leaf-z.true in
          let gained = subst (λ x. Gains t (λ j. j < z) r0 x) (sym w.rec-is) w.node_over_own_leaf-node.ensures.gained in
          gains_own t z c.args.i r0 r c.note.new.self placed refl refl own gained notes
      | else-leaf-z w ↦
          let bytes = ap (λ (n : ArrayVec _). n.items) w.node-is ∙ w.node-node.ensures in
          let noted = subst (λ x. Notes placed x c.note.new.self) w.rec-is notes in
          gains_beside t z c.args.i r0 c.note.new.self placed refl refl bytes (λ e. w.if-leaf-z.false (ap (λ k. k / 2 ^ z) c.leaf.ensures ∙ e)) noted
    ]
