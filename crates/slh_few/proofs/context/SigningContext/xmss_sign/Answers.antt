-- The tree's root follows from the signature, however it was made.
use Rattle.std.proofs.Common.{◌≡◌, ℕ, ◌^◌, ◌<◌, List, ap, ◌∙◌}
use Rattle.slh_params.specs.ParamSet.{params}
use Rattle.slh_params.specs.declared.param_set.ParamSet.{ParamSet}
use Rattle.slh_tree.specs.Tree.{root}
use Rattle.slh_few.specs.Xmss.{xmss_tree, xmss_sig, xmss_pk_from_sig}
use Rattle.slh_few.specs.declared.place.Place.{Place}
use Rattle.slh_few.proofs.XmssLaw.{xmss_pk_from_sig-xmss_sig}
use Rattle.slh_few.proofs.context.SigningContext.xmss_sign.Goals as goal

root_from : (s : ParamSet) (sk pk : List ℕ) (at : Place) (m sig : List ℕ) → at.pair < 2 ^ (params s).hp → sig ≡ xmss_sig (params s) sk pk at m
    → xmss_pk_from_sig (params s) pk at m sig ≡ root (xmss_tree (params s) sk pk at.layer at.tree)
root_from s sk pk at m sig low e = ap (xmss_pk_from_sig (params s) pk at m) e ∙ xmss_pk_from_sig-xmss_sig s sk pk at m low

pub returns-clause-key : goal.returns-clause-key
returns-clause-key c = root_from _ _ _ _ _ _ c.requires.pair c.sign_giving_leaf.ensures.signature
