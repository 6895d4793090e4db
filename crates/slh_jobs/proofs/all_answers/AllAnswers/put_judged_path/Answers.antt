-- The buffer has room for the nodes of any tree, and each copy has its tag exactly where the node of its answer has it.
use Rattle.std.proofs.Common.{◌≡◌, ◌↔◌, ◌*◌, ◌≤◌, ℕ, [], length-take-le, refl, ap, sym, ◌∙◌, rules}
use Rattle.std.specs.Bool.{IsTrue}
use Rattle.std.proofs.Math.Logic.{∥∥₁_elim}
use Rattle.std.proofs.Math.Nat.{mul-le-mul}
use Rattle.std.proofs.Props.{props}
use Rattle.slh_tree.specs.Tree.{MerkleTree, root}
use Rattle.slh_few.specs.Trees.{xmss_joins_of}
use Rattle.slh_few.specs.Xmss.{xmss_tree}
use Rattle.slh_few.specs.declared.place.Place.{Place}
use Rattle.slh_subtrees.specs.Trees.{place_of}
use Rattle.slh_jobs.specs.AllAnswers.{params_in, source_in}
use Rattle.slh_jobs.specs.Ranges.{upper_given, auth_given}
use Rattle.slh_jobs.specs.Joined.{NodesFit}
use Rattle.slh_jobs.proofs.all_answers.AllAnswers.put_judged_path.Goals as goal
use Rattle.slh_jobs.proofs.all_answers.AllAnswers.put_judged_path.Goals.{in-Xmss, in-Fors}
use Rattle.slh_jobs.proofs.all_answers.AllAnswers.put_judged_path.Goals.{After-are_judged, After-ranges-2}

few : (c : After-ranges-2) → c.ranges-2.result * c.of_kind-given.result.now.shape.n ≤ 8192
few c = mul-le-mul {n₂ = 256} {m₂ = 32} c.ranges-2.ensures.few (∥∥₁_elim c.of_kind-given.result.now.is_shape (hlevel props) (λ h. h.n_high))

pub slice_bounds-copies-end : goal.slice_bounds-copies-end
slice_bounds-copies-end c = few (goal.at.slice_bounds-copies-end c).After-ranges-2

pub slice_bounds-copies-end-2 : goal.slice_bounds-copies-end-2
slice_bounds-copies-end-2 c = sym (length-take-le (c.ranges-2.result * c.of_kind-given.result.now.shape.n) _ (few (goal.at.slice_bounds-copies-end-2 c).After-ranges-2))

pub are_judged-requires-clause-copies : goal.are_judged-requires-clause-copies
are_judged-requires-clause-copies c =
    length-take-le (c.ranges-2.result * c.of_kind-given.result.now.shape.n) _ (few (goal.at.are_judged-requires-clause-copies c).After-ranges-2)
    ∙ ap (λ (k : ℕ). k * c.of_kind-given.result.now.shape.n) c.ranges-2.ensures.value

-- the copies have their tags where the nodes of the tree have them
fits : (c : After-are_judged) → IsTrue c.are_judged.result ↔ NodesFit c.args.self.now.signing.levels c.args.self.now.signing.sk.now c.args.self.now.signing.start.now c.args.self.now.xmss.bytes.now c.args.tree
fits c =
    ∥∥₁_elim c.args.self.now.begun (hlevel props)
    (λ is. rw (c.of_kind-given.ensures.shape, c.of_kind-given.ensures.bytes, c.first-first.ensures.value, c.first_job-job.ensures.value) at (c.are_judged.ensures.tags _ _ _ is))

pub returns-then-not-are_judged-clause-tags : goal.returns-then-not-are_judged-clause-tags
returns-then-not-are_judged-clause-tags c =
    let all = fits (goal.at.returns-then-not-are_judged-clause-tags c).After-are_judged in (
      λ some. absurd cc,
      λ own. absurd (let some = all.1 own in search rules),
    )

pub returns-clause-tags : goal.returns-clause-tags
returns-clause-tags c =
    let all = fits (goal.at.returns-clause-tags c).After-are_judged in (
      λ some. all.0 (search rules),
      λ own. refl,
    )

-- the tree above the ranges joins as the tree does: no leaf of it is asked for
pub returns-clause-path : goal.returns-clause-path
returns-clause-path c = λ some.
    let s = source_in c.args.self.now in
    let p = params_in c.args.self.now in
    let given = c.of_kind-given.result.now in
    elim c.match-tree.branch [
      | in-Xmss w ↦
          let joins : xmss_joins_of w.xmss_joins-xmss.result ≡ xmss_tree p [] s.pk_seed w.in-Xmss.layer (place_of s w.in-Xmss.layer).tree =
          w.xmss_joins-xmss.ensures ∙ ap (λ (at : Place). xmss_tree p [] s.pk_seed w.in-Xmss.layer at.tree) w.layer_place-at.ensures.place in
          w.out-is ∙ w.put_auth.ensures.path
          ∙ ap (λ (t : MerkleTree). auth_given t given.shape given.bytes.now c.first-first.result c.leaf-leaf.result) joins
          ∙ rw (c.of_kind-given.ensures.shape, c.of_kind-given.ensures.bytes, c.first-first.ensures.value, c.leaf-leaf.ensures.value, w.in-Xmss.is) refl
      | in-Fors w ↦
          w.out-is ∙ w.put_auth-in-Fors.ensures.path
          ∙ ap (λ (t : MerkleTree). auth_given t given.shape given.bytes.now c.first-first.result c.leaf-leaf.result) w.fors_joins-fors.ensures
          ∙ rw (c.of_kind-given.ensures.shape, c.of_kind-given.ensures.bytes, c.first-first.ensures.value, c.leaf-leaf.ensures.value, w.in-Fors.is) refl
    ]

pub returns-clause-root : goal.returns-clause-root
returns-clause-root c =
    let s = source_in c.args.self.now in
    let p = params_in c.args.self.now in
    let given = c.of_kind-given.result.now in
    elim c.match-tree.branch [
      | in-Xmss w ↦
          let joins : xmss_joins_of w.xmss_joins-xmss.result ≡ xmss_tree p [] s.pk_seed w.in-Xmss.layer (place_of s w.in-Xmss.layer).tree =
          w.xmss_joins-xmss.ensures ∙ ap (λ (at : Place). xmss_tree p [] s.pk_seed w.in-Xmss.layer at.tree) w.layer_place-at.ensures.place in
          ap (λ x. x.items) w.result-is ∙ w.put_auth.ensures.root
          ∙ ap (λ (t : MerkleTree). root (upper_given t given.shape given.bytes.now c.first-first.result)) joins
          ∙ rw (c.of_kind-given.ensures.shape, c.of_kind-given.ensures.bytes, c.first-first.ensures.value, w.in-Xmss.is) refl
      | in-Fors w ↦
          ap (λ x. x.items) w.result-is ∙ w.put_auth-in-Fors.ensures.root
          ∙ ap (λ (t : MerkleTree). root (upper_given t given.shape given.bytes.now c.first-first.result)) w.fors_joins-fors.ensures
          ∙ rw (c.of_kind-given.ensures.shape, c.of_kind-given.ensures.bytes, c.first-first.ensures.value, w.in-Fors.is) refl
    ]
