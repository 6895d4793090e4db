-- The root of the top tree has n bytes, and makes the key that of its seeds.
use Rattle.std.proofs.Common.{◌≡◌, ◌<◌, ◌-◌, ℕ, List, length, get_or, ap, arith, sym, subst, ◌∙◌, rules}
use Rattle.std.proofs.lemmas.Option.{slice_get_within}
use Rattle.slh_params.specs.ParamSet.{params}
use Rattle.slh_tree.specs.Tree.{root}
use Rattle.slh_tree.specs.declared.cover.Cover.{Cover}
use Rattle.slh_tree.proofs.Authentic.{node_width}
use Rattle.slh_few.specs.Trees.{xmss_tree-lawful}
use Rattle.slh_few.specs.Xmss.{xmss_tree}
use Rattle.slh_core.specs.Keys.{Key, top_root, IsGeneratedKey}
use Rattle.slh_core.proofs.Parts.{generated}
use Rattle.slh_subtrees.specs.Jobs.{key_generation_jobs}
use Rattle.slh_par.specs.TopTree.{top_tree, IsTopAnswer}
use Rattle.slh_par.proofs.generation.keygen_par.Goals as goal

pub from_parts-requires-clause-pk_root : goal.from_parts-requires-clause-pk_root
from_parts-requires-clause-pk_root g c =
    let p = params c.args.set in
    let tree = xmss_tree p c.args.sk_seed.now c.args.pk_seed.now (p.d - 1) 0 in
    let bytes : List ℕ = c.deref-2.result.now in
    let is : bytes ≡ root tree =
    rw (c.new-signer.ensures.set, c.new-signer.ensures.sk_seed, c.new-signer.ensures.pk_seed) at (c.deref-2.ensures.0 ∙ c.gathered_top-root.ensures) in
    let same : length bytes ≡ length (root tree) = ap length is in
    same ∙ node_width tree (xmss_tree-lawful c.args.set c.args.sk_seed.now c.args.pk_seed.now (p.d - 1) 0) p.hp 0

pub gathered_top-root-requires-clause-each : goal.gathered_top-root-requires-clause-each
gathered_top-root-requires-clause-each g c n job d read =
    let xs = c.in_ok-covers.covers.items in
    let below = slice_get_within (key_generation_jobs c.args.cutting.now) n job read in
    let within : n < length c.in_ok-covers.covers.items = omega (arith, below, c.in_ok-covers.ensures.count) in
    let Of : List Cover → Type 0 = λ ys. IsTopAnswer (top_tree c.new-signer.result) job (get_or ys n d) in
    subst Of (sym c.deref.ensures.value) (c.in_ok-covers.ensures.right n d within job read)

pub returns-clause-key : goal.returns-clause-key
unfolding top_root
returns-clause-key g c = search rules

pub returns-clause-generated : goal.returns-clause-generated
returns-clause-generated g c =
    subst (λ (k : Key). IsGeneratedKey k) (sym (returns-clause-key g c))
    (generated c.args.set c.args.sk_seed.now c.args.sk_prf.now c.args.pk_seed.now c.requires.sk_seed c.requires.sk_prf c.requires.pk_seed)
