-- The lanes are those of the signer.
use Rattle.std.proofs.Common.{◌<◌, ap, ◌∙◌, arith}
use Rattle.slh_params.proofs.Bounds.{n_high}
use Rattle.slh_lanes.specs.Lanes.{value_at}
use Rattle.slh_few.specs.Trees.{fors_nodes_of}
use Rattle.slh_few.proofs.fors_tree.ForsNodesTree.leaves.Goals as goal

pub first_nodes-requires-clause-n : goal.first_nodes-requires-clause-n
first_nodes-requires-clause-n c = omega (arith, c.n.ensures, n_high c.args.self.now.signer.now.public.set)

pub returns-clause-leaves : goal.returns-clause-leaves
unfolding fors_nodes_of
returns-clause-leaves c = λ j d lt.
    let lane : j < 8 = omega (arith, lt, c.first_nodes.ensures.len, c.requires.few) in
    c.first_nodes.ensures.values j d lt ∙ ap (value_at c.leaf_lanes-leaves.result j) c.n.ensures
    ∙ (rw (c.lanes.ensures.set, c.lanes.ensures.pk_seed) at (c.leaf_lanes-leaves.ensures j lane))
