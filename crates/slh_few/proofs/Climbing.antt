-- A climb joins nodes and makes no leaf.
use Rattle.std.proofs.Common.{◌≡◌, ℕ, zero, suc, ◌/◌, ◌%◌, ◌^◌, ◌==◌, List, refl, ap, ◌∙◌, if◌then◌else◌}
use Rattle.slh_tree.specs.Tree.{MerkleTree}
use Rattle.slh_tree.specs.Climb.{climb_to, parent}

-- trees that join alike are climbed alike
pub climb_to-join : (t u : MerkleTree) (i : ℕ) (x : List ℕ) (f : ℕ → List ℕ) (k : ℕ) → t.join ≡ u.join → climb_to t i x f k ≡ climb_to u i x f k
unfolding climb_to
climb_to-join t u i x f zero e = refl
climb_to-join t u i x f (suc k) e =
    ap (λ (j : ℕ → ℕ → List ℕ → List ℕ → List ℕ). if (i / 2 ^ k % 2 == 0)
    then j (suc k) (i / 2 ^ k / 2) (climb_to t i x f k) (f k) else j (suc k) (i / 2 ^ k / 2) (f k) (climb_to t i x f k)) e
    ∙ ap (λ y. parent u (suc k) (i / 2 ^ k) y (f k)) (climb_to-join t u i x f k e)
