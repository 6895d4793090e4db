-- The buffer has room for the nodes of any tree, and each copy has its tag exactly where the node of its answer has it.
use Rattle.std.proofs.Common.{◌≡◌, ◌↔◌, ℕ, ◌-◌, ◌*◌, ◌≤◌, List, [], length-take-le, refl, ap, sym, ◌∙◌, rules, arith}
use Rattle.std.specs.Bool.{IsTrue}
use Rattle.std.proofs.Math.Nat.{mul-le-mul}
use Rattle.slh_params.proofs.Bounds.{n_high}
use Rattle.slh_tree.specs.Tree.{MerkleTree, root}
use Rattle.slh_few.specs.Trees.{xmss_joins_of}
use Rattle.slh_few.specs.Xmss.{xmss_tree}
use Rattle.slh_jobs.specs.Jobs.{params_of}
use Rattle.slh_jobs.specs.Ranges.{upper_given}
use Rattle.slh_jobs.specs.declared.shape.Shape.{Shape}
use Rattle.slh_jobs.specs.KeyJobs.{AreTagged}
use Rattle.slh_jobs.proofs.KeyLaw.{tagged_from, tagged_to}
use Rattle.slh_jobs.proofs.generation.judged_root.Goals as goal
use Rattle.slh_jobs.proofs.generation.judged_root.Goals.{After-are_judged, After-n}

few : (c : After-n) → c.keygen_jobs.result * c.n.result ≤ 8192
few c = mul-le-mul {n₂ = 256} {m₂ = 32} c.keygen_jobs.ensures.few (omega (arith, c.n.ensures, n_high c.args.levels.now.set))

pub slice_bounds-copies-end-2 : goal.slice_bounds-copies-end-2
slice_bounds-copies-end-2 c = sym (length-take-le (c.keygen_jobs.result * c.n.result) _ (few (goal.at.slice_bounds-copies-end-2 c).After-n))

pub are_judged-requires-clause-copies : goal.are_judged-requires-clause-copies
are_judged-requires-clause-copies c =
    length-take-le (c.keygen_jobs.result * c.n.result) _ (few (goal.at.are_judged-requires-clause-copies c).After-n)
    ∙ rw (c.keygen_jobs.ensures.value, c.n.ensures, c.requires.shape) refl

-- the copies have their tags where the nodes of the tree have them
fits : (c : After-are_judged) → IsTrue c.are_judged.result ↔ AreTagged c.args.levels.now c.args.sk_seed.now c.args.sk_prf.now c.args.pk_seed.now c.args.given.now.bytes.now
fits c =
    let all = c.are_judged.ensures.tags _ _ _ c.tags_of_key-tags.ensures in (
      λ some. tagged_from c.args.levels.now c.args.sk_seed.now c.args.sk_prf.now c.args.pk_seed.now c.args.given.now.bytes.now _ c.requires.shape (all.0 some),
      λ own. all.1 (tagged_to c.args.levels.now c.args.sk_seed.now c.args.sk_prf.now c.args.pk_seed.now c.args.given.now.bytes.now _ c.requires.shape own),
    )

pub returns-then-not-are_judged-clause-fit : goal.returns-then-not-are_judged-clause-fit
returns-then-not-are_judged-clause-fit c =
    let all = fits (goal.at.returns-then-not-are_judged-clause-fit c).After-are_judged in (
      λ some. absurd cc,
      λ own. absurd (let some = all.1 own in search rules),
    )

pub returns-clause-fit : goal.returns-clause-fit
returns-clause-fit c =
    let all = fits (goal.at.returns-clause-fit c).After-are_judged in (
      λ some. all.0 (search rules),
      λ own. refl,
    )

-- the tree above the ranges joins as that of the key does: no leaf of it is asked for
pub returns-clause-root : goal.returns-clause-root
returns-clause-root c =
    let l = c.args.levels.now in
    let bytes : List ℕ = c.args.given.now.bytes.now in
    let joins : MerkleTree = xmss_tree (params_of l) [] c.args.pk_seed.now ((params_of l).d - 1) 0 in
    let is : xmss_joins_of c.xmss_joins-tree.result ≡ joins =
    rw (c.new-context.ensures.set, c.new-context.ensures.pk_seed, c.top_layer.ensures) at c.xmss_joins-tree.ensures in
    c.top_root.ensures.value
    ∙ ap (λ (t : MerkleTree). root (upper_given t c.args.given.now.shape bytes 0)) is
    ∙ ap (λ (s : Shape). root (upper_given joins s bytes 0)) c.requires.shape
