-- Two siblings and their parent.
use Rattle.std.proofs.Common.{◌≡◌, ℕ, suc, ◌+◌, ◌-◌, ◌*◌, ◌/◌, ◌^◌, ◌<◌, ◌≤◌, List, arith, sym, ap, subst, ◌∙◌, inl, inr}
use Rattle.std.proofs.Math.Pow.{pow_mono}
use Rattle.std.proofs.Math.Nat.{mul-le-mul_right, lt_of_mul-lt-mul_right}
use Rattle.std.proofs.lemmas.Nat.{pow_pos, pow-add}
use Rattle.std.proofs.lemmas.Bool.{cases_lt}
use Rattle.arrayvec.specs.ArrayVec.{ArrayVec}
use Rattle.slh_tree.specs.declared.cover.Placed.{Placed}
use Rattle.slh_tree.specs.Tree.{MerkleTree, node}
use Rattle.slh_tree.specs.Cover.{past_leaf, IsNodeOf, AreSiblings}
use Rattle.slh_tree.proofs.Authentic.{node-join}
use Rattle.slh_tree.proofs.Blocks.{past-first, past_right_half}

-- a node that lies in a tree has its index below the number of nodes of its height
pub index_below : (h z i : ℕ) → z ≤ h → past_leaf z i ≤ 2 ^ h → i < 2 ^ (h - z)
index_below h z i le within =
    let sum : h - z + z ≡ h = omega arith in
    let split : 2 ^ (h - z) * 2 ^ z ≡ 2 ^ h = sym (pow-add 2 (h - z) z) ∙ ap (λ (k : ℕ). 2 ^ k) sum in
    lt_of_mul-lt-mul_right (2 ^ z) (omega (arith, past-first z i, pow_pos z, split))

module _ (t : MerkleTree) (left right : Placed) (l : IsNodeOf t left) (r : IsNodeOf t right) (s : AreSiblings left right) where
  -- two siblings are below the root
  pub joined-height : left.z + 1 ≤ t.height
  joined-height =
      elim (cases_lt left.z t.height) [
        | inl lt ↦ omega arith
        | inr ge ↦
            let whole : 2 ^ t.height ≤ 2 ^ right.z = pow_mono (let k : t.height ≤ right.z = omega (arith, s.same_height) in k) in
            let second : 1 * 2 ^ right.z ≤ right.i * 2 ^ right.z = mul-le-mul_right (2 ^ right.z) (let k : 1 ≤ right.i = omega (arith, s.next) in k) in
            absurd (omega (arith, past-first right.z right.i, pow_pos right.z, r.within))
      ]

  -- the parent ends where its right child does
  pub joined-past : past_leaf (left.z + 1) (left.i / 2) ≡ past_leaf right.z right.i
  joined-past =
      let up : left.z + 1 ≡ suc right.z = omega (arith, s.same_height) in
      let halves : 2 * (left.i / 2) + 1 ≡ right.i = omega (arith, s.left, s.next) in
      ap (λ (z : ℕ). past_leaf z (left.i / 2)) up ∙ past_right_half right.z (left.i / 2) ∙ ap (past_leaf right.z) halves

  -- the parent's index is below the number of nodes of its height
  pub joined-index : left.i / 2 < 2 ^ (t.height - (left.z + 1))
  joined-index = index_below t.height (left.z + 1) (left.i / 2) joined-height (omega (arith, joined-past, r.within))

  -- the parent is the tree's own node
  pub joined-node : (bytes : ArrayVec ℕ) → bytes.items ≡ t.join (left.z + 1) (left.i / 2) left.node.items right.node.items → IsNodeOf t (record { z = left.z + 1; i = left.i / 2; node = bytes })
  joined-node bytes e =
      let own : 2 * (left.i / 2) ≡ left.i = omega (arith, s.left) in
      let other : 2 * (left.i / 2) + 1 ≡ right.i = omega (arith, s.left, s.next) in
      let left_is : left.node.items ≡ node t left.z (2 * (left.i / 2)) = l.bytes ∙ ap (node t left.z) (sym own) in
      let right_is : right.node.items ≡ node t left.z (2 * (left.i / 2) + 1) =
      r.bytes ∙ ap (λ (z : ℕ). node t z right.i) (sym s.same_height) ∙ ap (node t left.z) (sym other)
      in
      let up : suc left.z ≡ left.z + 1 = omega arith in
      let Is : ℕ → Type 0 = λ z. t.join z (left.i / 2) (node t left.z (2 * (left.i / 2))) (node t left.z (2 * (left.i / 2) + 1)) ≡ node t z (left.i / 2) in
      record {
        height = joined-height;
        within = omega (arith, joined-past, r.within);
        bytes =
            e
            ∙ ap (λ (x : List ℕ). t.join (left.z + 1) (left.i / 2) x right.node.items) left_is
            ∙ ap (t.join (left.z + 1) (left.i / 2) (node t left.z (2 * (left.i / 2)))) right_is
            ∙ subst Is up (sym (node-join t left.z (left.i / 2)));
      }
