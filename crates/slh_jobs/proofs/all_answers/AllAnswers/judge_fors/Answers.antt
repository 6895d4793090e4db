-- The buffer has room for the roots of any set, and T over them is what layer 0 signs.
use Rattle.std.proofs.Common.{◌≡◌, ◌*◌, ℕ, List, length, length-take-le, ap, sym, ◌∙◌, rules}
use Rattle.std.specs.Bool.{IsTrue}
use Rattle.slh_params.specs.Address.{address}
use Rattle.slh_hash.specs.Hash.{T}
use Rattle.slh_jobs.specs.AllAnswers.{params_in, source_in}
use Rattle.slh_jobs.proofs.all_answers.AllAnswers.judge_fors.Goals as goal

pub slice_bounds-tops-end : goal.slice_bounds-tops-end
slice_bounds-tops-end c = sym (length-take-le c.roots_len.result _ c.roots_len.ensures.small)

pub put_fors-requires-clause-tops : goal.put_fors-requires-clause-tops
put_fors-requires-clause-tops c = length-take-le c.roots_len.result _ c.roots_len.ensures.small ∙ c.roots_len.ensures.value

pub fors_roots_fit-requires-clause-len : goal.fors_roots_fit-requires-clause-len
fors_roots_fit-requires-clause-len c =
    c.put_fors.auto.tops ∙ length-take-le c.roots_len.result _ c.roots_len.ensures.small ∙ c.roots_len.ensures.value

pub fors_pk-requires : goal.fors_pk-requires
fors_pk-requires c =
    c.put_fors.auto.tops ∙ length-take-le c.roots_len.result _ c.roots_len.ensures.small ∙ c.roots_len.ensures.value

pub returns-clause-pk_fors : goal.returns-clause-pk_fors
returns-clause-pk_fors c =
    let s = source_in c.args.self.now in
    let p = params_in c.args.self.now in
    let yes : IsTrue c.put_fors.result = search rules in
    c.fors_pk.ensures.value ∙ ap (λ (xs : List ℕ). T p s.pk_seed (address 0 s.idx_tree 4 s.idx_leaf 0 0) xs) (c.put_fors.ensures.tops yes)
