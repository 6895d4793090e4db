-- Records of ranges, merged one after another.
use Rattle.std.proofs.Common.{◌≡◌, ℕ, ◌+◌, ◌<◌, ◌≤◌, ◌⊎◌, List, [], ◌∷◌, Option, None, Some, length, get_or, inl, inr, arith, ◌∙◌, subst, add-one}
use Rattle.std.proofs.lemmas.Bool.{cases_lt}
use Rattle.std.specs.Prelude.{MatchOption}
use Rattle.slh_tree.specs.declared.cover.Cover.{Cover}
use Rattle.slh_tree.specs.Tree.{MerkleTree, sibling}
use Rattle.slh_tree.specs.Record.{KnownPath, known, LiesInRange, LiesInOne}
use Rattle.slh_tree.proofs.CoverByCover.{lies_in_or_not}
use Rattle.slh_subtrees.specs.Gathered.{IsHashed}

-- what is known after the records of the first m ranges
pub record Merged (t : MerkleTree) (idx : ℕ) (cs : List Cover) (m : ℕ) (r : KnownPath) : Type 0 where
  pub height : r.height ≡ t.height
  pub leaf : r.leaf ≡ idx
  pub inside : (j k : ℕ) (c : Cover) → j < t.height → k < m → LiesInRange (get_or cs k c).lo (get_or cs k c).hi idx j → known r j ≡ Some (sibling t idx j)

-- the record of a range knows a path node or none
either : (t : MerkleTree) (leaf : ℕ) (c : Cover) (r : KnownPath) (j : ℕ) → IsHashed t leaf c r → j < t.height → (known r j ≡ None) ⊎ (known r j ≡ Some (sibling t leaf j))
either t leaf c r j own below =
    elim (lies_in_or_not c.lo c.hi leaf j) [
      | inl lies ↦ inr (own.inside j below lies)
      | inr apart ↦ inl (own.outside j apart)
    ]

-- the merge of two records at a height
merge_at : (x y z : Option (List ℕ)) → MatchOption x (z ≡ y) (λ _. z ≡ x) → (v : List ℕ) → y ≡ Some v → (x ≡ None) ⊎ (x ≡ Some v) → z ≡ Some v
merge_at None y z m v e known = m ∙ e
merge_at (Some w) y z m v e (inl none) = cc
merge_at (Some w) y z m v e (inr some) = m ∙ some

merge_new : (x y z : Option (List ℕ)) → MatchOption x (z ≡ y) (λ _. z ≡ x) → (v : List ℕ) → x ≡ Some v → z ≡ Some v
merge_new None y z m v e = cc
merge_new (Some w) y z m v e = m ∙ e

-- none yet
pub merged_none : (t : MerkleTree) (leaf : ℕ) (cs : List Cover) (r : KnownPath) → r.height ≡ t.height → r.leaf ≡ leaf → Merged t leaf cs 0 r
merged_none t leaf cs r height own = record { height = height; leaf = own; inside = λ j k c below none lies. absurd (omega arith) }

-- one more
pub merged_more :
    (t : MerkleTree) (leaf : ℕ) (cs : List Cover) (m : ℕ) (r other r2 : KnownPath) →
    Merged t leaf cs m r →
    ((c : Cover) → IsHashed t leaf (get_or cs m c) other) →
    r2.height ≡ r.height →
    r2.leaf ≡ r.leaf →
    ((j : ℕ) → j < r.height → MatchOption (known other j) (known r2 j ≡ known r j) (λ _. known r2 j ≡ known other j)) →
    Merged t leaf cs (m + 1) r2
merged_more t leaf cs m r other r2 before own height same taken = record {
  height = height ∙ before.height;
  leaf = same ∙ before.leaf;
  inside = λ j k c below within lies.
      let low : j < r.height = omega (arith, before.height) in
      elim (cases_lt k m) [
        | inl earlier ↦
            merge_at (known other j) (known r j) (known r2 j) (taken j low) (sibling t leaf j) (before.inside j k c below earlier lies) (either t leaf (get_or cs m c) other j (own c) below)
        | inr here ↦
            let e : k ≡ m = omega arith in
            let At : ℕ → Type 0 = λ x. LiesInRange (get_or cs x c).lo (get_or cs x c).hi leaf j in
            merge_new (known other j) (known r j) (known r2 j) (taken j low) (sibling t leaf j) ((own c).inside j below (subst At e lies))
      ];
}

-- what lies in one of the ranges lies in that of some cover
lies_somewhere : (cs : List Cover) (d : Cover) (i j : ℕ) → LiesInOne cs i j → (k : ℕ) × (k < length cs) × LiesInRange (get_or cs k d).lo (get_or cs k d).hi i j
lies_somewhere [] d i j lies = absurd lies
lies_somewhere (c ∷ cs) d i j (inl here) = (0, omega arith, here)
lies_somewhere (c ∷ cs) d i j (inr later) =
    let at = lies_somewhere cs d i j later in
    (at.0 + 1, omega (arith, at.1), rw (add-one at.0) at.2)

-- all of them
pub merged_all : (t : MerkleTree) (leaf : ℕ) (cs : List Cover) (m : ℕ) (r : KnownPath) → Merged t leaf cs m r → length cs ≤ m → Cover → (j : ℕ) → j < t.height → LiesInOne cs leaf j → known r j ≡ Some (sibling t leaf j)
merged_all t leaf cs m r now all d j below lies =
    let at = lies_somewhere cs d leaf j lies in
    now.inside j at.0 d below (omega (arith, at.1)) at.2

-- a cover without leaves
pub no_leaves : Cover
no_leaves = record { lo = 0; hi = 0; nodes = record { items = [] } }

-- the path after the covers are gathered too
pub path_of :
    (t : MerkleTree) (leaf : ℕ) (cs : List Cover) (m : ℕ) (r r2 : KnownPath) →
    Merged t leaf cs m r →
    length cs ≤ m →
    (((j : ℕ) → j < r.height → LiesInOne cs r.leaf j → known r j ≡ Some (sibling t r.leaf j)) → (j : ℕ) → j < r.height → known r2 j ≡ Some (sibling t r.leaf j)) →
    (j : ℕ) →
    j < t.height →
    known r2 j ≡ Some (sibling t leaf j)
path_of t leaf cs m r r2 now all complete =
    let Whole : ℕ → ℕ → Type 0 = λ h i. ((j : ℕ) → j < h → LiesInOne cs i j → known r j ≡ Some (sibling t i j)) → (j : ℕ) → j < h → known r2 j ≡ Some (sibling t i j) in
    let At : ℕ → Type 0 = λ h. Whole h leaf in
    let with_leaf : Whole r.height leaf = subst (Whole r.height) now.leaf complete in
    let whole : Whole t.height leaf = subst At now.height with_leaf in
    whole (λ j below lies. merged_all t leaf cs m r now all no_leaves j below lies)
