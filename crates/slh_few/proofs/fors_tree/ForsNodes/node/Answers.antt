use Rattle.std.proofs.Common.{◌≡◌, ℕ, ◌+◌, ◌-◌, ◌*◌, ◌^◌, ◌<◌, ◌≤◌, inl, inr, arith, sym, ◌∙◌}
use Rattle.std.proofs.Math.Nat.{mul-le-mul_right}
use Rattle.std.proofs.lemmas.Bool.{cases_lt}
use Rattle.std.proofs.lemmas.Nat.{pow-add, pow_pos}
use Rattle.slh_params.specs.ParamSet.{params}
use Rattle.slh_tree.specs.Cover.{past_leaf}
use Rattle.slh_few.specs.Trees.{fors_nodes_of}
use Rattle.slh_few.proofs.fors_tree.ForsNodes.node.Goals as goal

-- a node whose leaves lie in the tree is one of those of its height
is_below : (a z i : ℕ) → z ≤ a → past_leaf z i ≤ 2 ^ a → i < 2 ^ (a - z)
is_below a z i high within = elim (cases_lt i (2 ^ (a - z))) [
  | inl lt ↦ lt
  | inr ge ↦
      let whole : a - z + z ≡ a = omega arith in
      let all : 2 ^ (a - z) * 2 ^ z ≡ 2 ^ a = sym (pow-add 2 (a - z) z) ∙ (λ q. 2 ^ whole q) in
      let up : 2 ^ (a - z) * 2 ^ z ≤ i * 2 ^ z = mul-le-mul_right (2 ^ z) ge in
      absurd (omega (arith, within, all, up, pow_pos z))
]

pub node_from_lanes-requires-clause-index : goal.node_from_lanes-requires-clause-index
node_from_lanes-requires-clause-index c =
    let high : c.args.z ≤ (params c.args.self.now.signer.now.public.set).a = omega (arith, c.requires.height) in
    rw c.lanes.ensures.set (is_below (params c.args.self.now.signer.now.public.set).a c.args.z c.args.i high c.requires.within)

pub returns-then-z-ge-EIGHT_NODES : goal.returns-then-z-ge-EIGHT_NODES
unfolding fors_nodes_of
returns-then-z-ge-EIGHT_NODES c = rw (c.lanes.ensures.set, c.lanes.ensures.pk_seed) at c.node_from_lanes.ensures
