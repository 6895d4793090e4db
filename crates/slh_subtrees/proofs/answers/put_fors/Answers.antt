-- The buffer has room for the roots of any set, and T over them is what layer 0 signs.
use Rattle.std.proofs.Common.{◌≡◌, ◌*◌, ℕ, List, length, length-take-le, ap, sym, ◌∙◌, arith}
use Rattle.slh_params.specs.Address.{address}
use Rattle.slh_params.specs.ParamSet.{params}
use Rattle.slh_hash.specs.Hash.{T}
use Rattle.slh_subtrees.specs.SigningTrees.{source_of}
use Rattle.slh_subtrees.proofs.answers.put_fors.Goals as goal

pub slice_bounds-roots-end : goal.slice_bounds-roots-end
slice_bounds-roots-end g c = sym (length-take-le c.roots_len.result _ c.roots_len.ensures.small)

pub put_fors_parts-requires-clause-roots : goal.put_fors_parts-requires-clause-roots
put_fors_parts-requires-clause-roots g c = length-take-le c.roots_len.result _ c.roots_len.ensures.small ∙ c.roots_len.ensures.value

pub returns-clause-pk_fors : goal.returns-clause-pk_fors
returns-clause-pk_fors g c =
    let s = source_of c.args.trees.now in
    c.fors_pk.ensures.value ∙ ap (λ (xs : List ℕ). T (params s.set) s.pk_seed (address 0 s.idx_tree 4 s.idx_leaf 0 0) xs) c.put_fors_parts.ensures.roots
