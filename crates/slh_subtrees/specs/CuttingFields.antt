-- The meaning of the fields of a `Cutting`: ours. No public clause cites this module.
use Rattle.std.specs.Prelude.{◌≡◌, ◌^◌, None}
use Rattle.slh_params.specs.ParamSet.{params}
use Rattle.slh_subtrees.specs.CutTrees.{CutTrees}
use Rattle.slh_subtrees.specs.Points.{first_bad}
use Rattle.slh_subtrees.specs.declared.cutting.Cutting.TheInside.{Inside}

-- the set and the points that it stores
abbrev pub cut_trees_of : Inside → CutTrees
cut_trees_of c = record { set = c.set; xmss = c.xmss.items; fors = c.fors.items }

-- the points of both kinds of tree rise and are leaves but the first one
abbrev pub HasGoodPoints : Inside → Type 0
HasGoodPoints c =
    (first_bad (2 ^ (params c.set).hp) 0 0 c.xmss.items ≡ None) × (first_bad (2 ^ (params c.set).a) 0 0 c.fors.items ≡ None)
