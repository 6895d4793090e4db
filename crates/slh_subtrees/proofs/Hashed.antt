-- What is made of a range, from its cover and what a record gained over it.
use Rattle.std.proofs.Common.{◌≡◌, ℕ, None, sym, ◌∙◌, arith}
use Rattle.slh_tree.specs.Tree.{MerkleTree}
use Rattle.slh_tree.specs.Cover.{IsCover}
use Rattle.slh_tree.specs.declared.cover.Cover.{Cover}
use Rattle.slh_tree.specs.Record.{KnownPath, known, Gains, LiesInRange}
use Rattle.slh_subtrees.specs.Gathered.{IsHashed}

pub hashed_range :
    (t : MerkleTree) (idx lo hi : ℕ) (c : Cover) (old new : KnownPath) →
    c.lo ≡ lo →
    c.hi ≡ hi →
    IsCover t lo hi c.nodes.items →
    Gains t (LiesInRange lo hi old.leaf) old new →
    old.height ≡ t.height →
    old.leaf ≡ idx →
    ((j : ℕ) → known old j ≡ None) →
    IsHashed t idx c new
hashed_range t idx lo hi c old new from to cover gained height leaf none = record {
  cover = rw (from, to) cover;
  height = gained.height ∙ height;
  leaf = gained.leaf ∙ leaf;
  inside = λ j below lies. rw leaf at (gained.noted j (omega (arith, height)) (rw (from, to, sym leaf) at lies));
  outside = λ j apart. gained.kept j (λ _ lies. apart (rw (sym from, sym to, leaf) at lies)) ∙ none j;
}
