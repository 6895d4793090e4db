use Rattle.std.proofs.Common.{ℕ, ◌^◌, ◌<◌, sym, subst}
use Rattle.slh_params.specs.ParamSet.{params}
use Rattle.slh_few.proofs.ForsLaw.{index_lt}
use Rattle.slh_subtrees.proofs.signing_trees.SigningTrees.fors_index.Goals as goal

pub returns-clause-small : goal.returns-clause-small
returns-clause-small c =
    let p = params c.args.self.now.signer.now.public.set in
    let At : ℕ → Type 0 = λ i. i < 2 ^ p.a in
    subst At (sym (c.args.self.now.asked c.args.number c.requires)) (index_lt p c.args.self.now.md.now c.args.number)
