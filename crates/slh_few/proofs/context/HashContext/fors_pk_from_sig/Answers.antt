-- T over the roots, which stand end to end.
use Rattle.std.proofs.Common.{ap, ◌∙◌}
use Rattle.slh_params.specs.ParamSet.{params}
use Rattle.slh_params.specs.Address.{address}
use Rattle.slh_hash.specs.Hash.{T}
use Rattle.slh_few.specs.Fors.{fors_pk_from_sig}
use Rattle.slh_few.proofs.context.HashContext.fors_pk_from_sig.Goals as goal

pub returns-clause-value : goal.returns-clause-value
unfolding fors_pk_from_sig
returns-clause-value c =
    c.fors_pk.ensures.value
    ∙ ap (T (params c.args.self.now.set) c.args.self.now.pk_seed.now (address 0 c.args.idx_tree 4 c.args.idx_leaf 0 0)) c.put_fors_roots.ensures
