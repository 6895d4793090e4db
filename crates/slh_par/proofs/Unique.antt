-- What is known of the answers of all jobs has one proof at most.
use Rattle.std.proofs.Common.{◌≡◌, ℕ, ◌<◌, ◌≤◌, ◌^◌, List, [], ◌∷◌, All, Some, None, length, get_or, refl, sym, ap, ◌∙◌}
use Rattle.std.specs.Coded.{×_prop}
use Rattle.std.specs.List.{slice_get}
use Rattle.std.proofs.Props.{props}
use Rattle.slh_tree.specs.Tree.{MerkleTree, node, sibling}
use Rattle.slh_tree.specs.Cover.{IsNodeOf, IsCover, Spans, NoSiblingsMeet, past_leaf}
use Rattle.slh_tree.specs.Record.{KnownPath, known, LiesInRange}
use Rattle.slh_tree.specs.declared.cover.Cover.{Cover}
use Rattle.slh_tree.specs.declared.cover.Placed.{Placed}
use Rattle.slh_subtrees.specs.CutTrees.{CutTrees}
use Rattle.slh_subtrees.specs.Jobs.{signing_jobs}
use Rattle.slh_subtrees.specs.Gathered.{IsHashed}
use Rattle.slh_subtrees.specs.SigningTrees.{tree_in, leaf_in}
use Rattle.slh_subtrees.specs.declared.range.JobRange.{JobRange}
use Rattle.slh_subtrees.specs.declared.signing_trees.SigningTrees.{SigningTrees}
use Rattle.slh_par.specs.JobAnswers.{IsAnswer, AreRangeAnswers}

-- a type that maps into one with one element at most and back
back_prop : {A B : Type 0} (to : A → B) (from : B → A) → ((x : A) → from (to x) ≡ x) → IsProp B → IsProp A
back_prop to from back one = λ x y. sym (back x) ∙ ap from (one (to x) (to y)) ∙ back y

IsNodeOf-prop : (t : MerkleTree) (p : Placed) → IsProp (IsNodeOf t p)
IsNodeOf-prop t p =
    back_prop {B = (p.z ≤ t.height) × (past_leaf p.z p.i ≤ 2 ^ t.height) × (p.node.items ≡ node t p.z p.i)}
    (λ x. (x.height, x.within, x.bytes)) (λ x. record { height = x.0; within = x.1; bytes = x.2 }) (λ x. refl) (hlevel props)

Spans-prop : (lo hi : ℕ) (ps : List Placed) → IsProp (Spans lo hi ps)
Spans-prop lo hi [] = hlevel props
Spans-prop lo hi (p ∷ ps) = ×_prop (hlevel props) (Spans-prop (past_leaf p.z p.i) hi ps)

NoSiblingsMeet-prop : (ps : List Placed) → IsProp (NoSiblingsMeet ps)
NoSiblingsMeet-prop [] = hlevel props
NoSiblingsMeet-prop (p ∷ []) = hlevel props
NoSiblingsMeet-prop (p ∷ q ∷ ps) = ×_prop (hlevel props) (NoSiblingsMeet-prop (q ∷ ps))

IsCover-prop : (t : MerkleTree) (lo hi : ℕ) (ps : List Placed) → IsProp (IsCover t lo hi ps)
IsCover-prop t lo hi ps =
    back_prop {B = All (IsNodeOf t) ps × Spans lo hi ps × NoSiblingsMeet ps}
    (λ x. (x.own, x.spans, x.apart)) (λ x. record { own = x.0; spans = x.1; apart = x.2 }) (λ x. refl)
    (hlevel (props, IsNodeOf-prop, Spans-prop, NoSiblingsMeet-prop))

IsHashed-prop : (t : MerkleTree) (idx : ℕ) (c : Cover) (r : KnownPath) → IsProp (IsHashed t idx c r)
IsHashed-prop t idx c r =
    back_prop {B = IsCover t c.lo c.hi c.nodes.items × (r.height ≡ t.height) × (r.leaf ≡ idx)
    × ((j : ℕ) → j < t.height → LiesInRange c.lo c.hi idx j → known r j ≡ Some (sibling t idx j))
    × ((j : ℕ) → (LiesInRange c.lo c.hi idx j → ⊥) → known r j ≡ None)}
    (λ x. (x.cover, x.height, x.leaf, x.inside, x.outside))
    (λ x. record { cover = x.0; height = x.1; leaf = x.2; inside = x.3; outside = x.4 }) (λ x. refl)
    (hlevel (props, IsCover-prop))

IsAnswer-prop : (s : SigningTrees) (job : JobRange) (c : Cover) (r : KnownPath) → IsProp (IsAnswer s job c r)
IsAnswer-prop s job c r =
    back_prop {B = (c.lo ≡ job.lo) × (c.hi ≡ job.hi) × IsHashed (tree_in s job.tree) (leaf_in s job.tree) c r}
    (λ x. (x.lo, x.hi, x.hashed)) (λ x. record { lo = x.0; hi = x.1; hashed = x.2 }) (λ x. refl)
    (hlevel (props, IsHashed-prop))

pub AreRangeAnswers-prop : (s : SigningTrees) (cut : CutTrees) (cs : List Cover) (rs : List KnownPath) → IsProp (AreRangeAnswers s cut cs rs)
AreRangeAnswers-prop s cut cs rs =
    back_prop {B = (length cs ≡ length (signing_jobs cut)) × (length rs ≡ length (signing_jobs cut))
    × ((n : ℕ) (job : JobRange) (c : Cover) (r : KnownPath) → slice_get (signing_jobs cut) n ≡ Some job → IsAnswer s job (get_or cs n c) (get_or rs n r))}
    (λ x. (x.covers, x.records, x.each)) (λ x. record { covers = x.0; records = x.1; each = x.2 }) (λ x. refl)
    (hlevel (props, IsAnswer-prop))
