-- A node has n bytes, and its tag follows it.
use Rattle.std.proofs.Common.{◌≡◌, ℕ, List, ◌++◌, length, ap, ◌∙◌, rules}
use Rattle.slh_params.specs.ParamSet.{params}
use Rattle.slh_jobs.specs.KeyJobs.{key_tag}
use Rattle.slh_jobs.proofs.generation.keygen_job.Goals as goal

pub copy_from_slice-requires : goal.copy_from_slice-requires
copy_from_slice-requires c =
    let own : length c.key_node-node.result.items ≡ (params c.args.levels.now.set).n = c.key_node-node.ensures.len in
    search rules

pub returns : goal.returns
returns c =
    let l = c.args.levels.now in
    let x : List ℕ = c.key_node-node.result.items in
    let Tag : List ℕ → List ℕ = key_tag l c.args.sk_seed.now c.args.sk_prf.now c.args.pk_seed.now c.args.job in
    let tag : c.answer_tag.result.items ≡ Tag x = c.answer_tag.ensures.value _ _ _ c.keyed_for_key-keyed.ensures in
    let first : c.copy_from_slice.new.self ≡ x = search rules in
    let second : c.copy_from_slice-2.new.self ≡ c.answer_tag.result.items = search rules in
    ap (λ (xs : List ℕ). xs ++ c.copy_from_slice-2.new.self) first ∙ ap (λ (ys : List ℕ). x ++ ys) (second ∙ tag) ∙ ap (λ (xs : List ℕ). xs ++ Tag xs) c.key_node-node.ensures.value
