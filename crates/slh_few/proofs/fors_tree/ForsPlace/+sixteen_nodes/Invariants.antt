use Rattle.slh_few.proofs.fors_tree.ForsPlace.+sixteen_nodes.Given as goal

abbrev pub decreases-sixteen_nodes : goal.decreases-sixteen_nodes
decreases-sixteen_nodes l = l.z
