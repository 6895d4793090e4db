use Rattle.std.proofs.Common.{◌^◌, ◌<◌, sym, subst}
use Rattle.slh_params.specs.ParamSet.{params}
use Rattle.slh_few.specs.declared.place.Place.{Place}
use Rattle.slh_few.proofs.Layers.{layer_place-pair}
use Rattle.slh_subtrees.proofs.signing_trees.SigningTrees.layer_place.Goals as goal

pub returns-clause-pair : goal.returns-clause-pair
returns-clause-pair c =
    let t = c.args.self.now in
    let At : Place → Type 0 = λ at. at.pair < 2 ^ (params t.signer.now.public.set).hp in
    subst At (sym (t.above c.args.layer _ c.requires)) (layer_place-pair (params t.signer.now.public.set) t.idx_tree t.idx_leaf c.args.layer t.leaf)
