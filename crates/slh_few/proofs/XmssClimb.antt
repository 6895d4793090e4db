-- One height of the climb in an XMSS tree.
use Rattle.std.proofs.Common.{[], ◌≡◌, ℕ, ◌+◌, ◌*◌, ◌/◌, ◌%◌, eqb, List, take, drop, inl, inr, ap, sym, ◌∙◌, arith}
use Rattle.std.proofs.lemmas.Bool.{cond-true, cond-false, ne_eqb, eq-eqb, cases_lt}
use Rattle.std.proofs.lemmas.List.{drop-drop}
use Rattle.slh_params.specs.Address.{address, TREE}
use Rattle.slh_params.specs.Params.{Params}
use Rattle.slh_hash.specs.Hash.{H}
use Rattle.slh_tree.specs.Climb.{parent, path_node}
use Rattle.slh_few.specs.Chunks.{chunk}
use Rattle.slh_few.specs.Xmss.{xmss_tree}

-- H of a node and its sibling, in the order that the node's index says, is their parent
pub parent_at : (p : Params) (pk : List ℕ) (l t z y u : ℕ) (own other value : List ℕ) → u ≡ y
    → (u % 2 ≡ 0 → value ≡ H p pk (address l t TREE 0 z (u / 2)) own other)
    → (u % 2 ≡ 1 → value ≡ H p pk (address l t TREE 0 z (u / 2)) other own)
    → value ≡ parent (xmss_tree p [] pk l t) z y own other
parent_at p pk l t z y u own other value is even odd =
    let half : u / 2 ≡ y / 2 = ap (λ (k : ℕ). k / 2) is in
    elim (cases_lt (y % 2) 1) [
      | inl low ↦
          let e : y % 2 ≡ 0 = omega arith in
          even (ap (λ (k : ℕ). k % 2) is ∙ e) ∙ ap (λ (k : ℕ). H p pk (address l t TREE 0 z k) own other) half
          ∙ sym (cond-true (eqb (y % 2) 0) _ _ (eq-eqb _ _ e))
      | inr high ↦
          let o : y % 2 ≡ 1 = omega arith in
          odd (ap (λ (k : ℕ). k % 2) is ∙ o) ∙ ap (λ (k : ℕ). H p pk (address l t TREE 0 z k) other own) half
          ∙ sym (cond-false (eqb (y % 2) 0) _ _ (ne_eqb _ _ (λ e. omega arith)))
    ]

-- the nodes of a path follow the WOTS+ signature of so many nodes
pub path_behind : (n count z : ℕ) (sig : List ℕ) → chunk n sig (count + z) ≡ path_node n (drop (count * n) sig) z
path_behind n count z sig =
    let e : (count + z) * n ≡ count * n + z * n = omega arith in
    ap (λ (k : ℕ). take n (drop k sig)) e ∙ ap (take n) (sym (drop-drop (z * n) (count * n) sig))
