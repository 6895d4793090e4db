-- The climbs of FORS trees whose nodes are numbered on from one tree to the next.
use Rattle.std.proofs.Common.{◌≡◌, ℕ, ◌+◌, ◌-◌, ◌*◌, ◌/◌, ◌%◌, ◌^◌, ◌<◌, ◌≤◌, eqb, zero, suc, List, [], length, take, drop, slice_index, ap, ap₂, sym, ◌∙◌, ◌⊎◌, inl, inr, arith}
use Rattle.std.proofs.lemmas.Bool.{cond-true, cond-false, ne_eqb, eq-eqb, cases_lt}
use Rattle.std.proofs.lemmas.List.{drop-drop}
use Rattle.std.proofs.lemmas.Nat.{pow-add, pow_pos}
use Rattle.std.proofs.Math.Nat.{mul-add-div_right}
use Rattle.slh_params.specs.Address.{address, FORS_TREE}
use Rattle.slh_params.specs.Params.{Params}
use Rattle.slh_params.specs.declared.param_set.ParamSet.{ParamSet}
use Rattle.slh_params.specs.ParamSet.{params}
use Rattle.slh_params.proofs.Bounds.{n_high}
use Rattle.slh_hash.specs.Hash.{F, H}
use Rattle.slh_hash.proofs.Lengths.{length-F}
use Rattle.slh_tree.specs.Climb.{climb_to, parent, path_node}
use Rattle.slh_tree.specs.Tree.{MerkleTree, Lawful}
use Rattle.slh_tree.proofs.Authentic.{climb-start}
use Rattle.slh_tree.proofs.Branch.{half_shr}
use Rattle.slh_few.specs.Fors.{fors_tree, fors_leaf, fors_part_len}
use Rattle.slh_few.specs.ForsRoots.{climbed, node_given}
use Rattle.slh_few.specs.Chunks.{chunk}
use Rattle.slh_few.specs.Trees.{fors_tree-lawful}

-- the number of a leaf, and of each node over it, by its index in its tree
pub number_over : (t a z x u : ℕ) → z ≤ a → u ≡ t * 2 ^ a + x → u / 2 ^ z ≡ t * 2 ^ (a - z) + x / 2 ^ z
number_over t a z x u le is =
    let e : a ≡ a - z + z = omega arith in
    let before : t * 2 ^ a ≡ t * 2 ^ (a - z) * 2 ^ z = ap (λ (k : ℕ). t * 2 ^ k) e ∙ ap (λ (k : ℕ). t * k) (pow-add 2 (a - z) z) ∙ omega arith in
    ap (λ (k : ℕ). k / 2 ^ z) (is ∙ ap (λ (k : ℕ). k + x) before) ∙ mul-add-div_right (pow_pos z) (t * 2 ^ (a - z)) x

even_or_odd : (n : ℕ) → (n % 2 ≡ 0) ⊎ (n % 2 ≡ 1)
even_or_odd n = elim (cases_lt (n % 2) 1) [ inl h ↦ inl (omega arith) | inr h ↦ inr (omega arith) ]

-- below the root a node is a left child by its number, as by its index
number_parity : (t a z x u : ℕ) → z < a → u ≡ t * 2 ^ a + x → u / 2 ^ z % 2 ≡ x / 2 ^ z % 2
number_parity t a z x u lt is =
    let e : a - z ≡ 1 + (a - (z + 1)) = omega arith in
    let twice : t * 2 ^ (a - z) ≡ 2 * (t * 2 ^ (a - (z + 1))) = ap (λ (k : ℕ). t * 2 ^ k) e ∙ ap (λ (k : ℕ). t * k) (pow-add 2 1 (a - (z + 1))) ∙ omega arith in
    omega (arith, number_over t a z x u (omega arith) is, twice)

-- H of a node over a leaf and its sibling, in the order that the node's number says, is their parent
pub parent_numbered : (p : Params) (sk pk : List ℕ) (t i j z x u : ℕ) (own other value : List ℕ) → z < p.a → u ≡ j * 2 ^ p.a + x
    → (u / 2 ^ z % 2 ≡ 0 → value ≡ H p pk (address 0 t FORS_TREE i (z + 1) (u / 2 ^ (z + 1))) own other)
    → (u / 2 ^ z % 2 ≡ 1 → value ≡ H p pk (address 0 t FORS_TREE i (z + 1) (u / 2 ^ (z + 1))) other own)
    → value ≡ parent (fors_tree p sk pk t i j) (z + 1) (x / 2 ^ z) own other
parent_numbered p sk pk t i j z x u own other value lt is even odd =
    let up : x / 2 ^ (z + 1) ≡ x / 2 ^ z / 2 = ap (λ (k : ℕ). x / 2 ^ k) (let e : z + 1 ≡ suc z = omega arith in e) ∙ sym (half_shr x z) in
    let number = number_over j p.a (z + 1) x u (omega arith) is ∙ ap (λ (k : ℕ). j * 2 ^ (p.a - (z + 1)) + k) up in
    let same = number_parity j p.a z x u lt is in
    elim (even_or_odd (x / 2 ^ z)) [
      | inl e ↦
          even (same ∙ e) ∙ ap (λ (k : ℕ). H p pk (address 0 t FORS_TREE i (z + 1) k) own other) number
          ∙ sym (cond-true (eqb (x / 2 ^ z % 2) 0) _ _ (eq-eqb _ _ e))
      | inr o ↦
          odd (same ∙ o) ∙ ap (λ (k : ℕ). H p pk (address 0 t FORS_TREE i (z + 1) k) other own) number
          ∙ sym (cond-false (eqb (x / 2 ^ z % 2) 0) _ _ (ne_eqb _ _ (λ e. omega arith)))
    ]

-- the secret is the first node of a tree's part of a signature, and the path's nodes are those after it
pub secret_first : (n : ℕ) (own : List ℕ) → chunk n own 0 ≡ take n own
secret_first n own = let e : 0 * n ≡ 0 = omega arith in ap (λ (k : ℕ). take n (drop k own)) e

pub path_after : (n z : ℕ) (own : List ℕ) → chunk n own (z + 1) ≡ path_node n (drop n own) z
path_after n z own =
    let e : (z + 1) * n ≡ n + z * n = omega arith in
    ap (λ (k : ℕ). take n (drop k own)) e ∙ ap (take n) (sym (drop-drop (z * n) n own))

-- F of the secret is the leaf that a climb begins with
pub leaf_given : (p : Params) (pk indices sig : List ℕ) (t i j u : ℕ) (secret : List ℕ) → u ≡ j * 2 ^ p.a + slice_index indices j
    → secret ≡ chunk p.n (chunk (fors_part_len p) sig j) 0
    → F p pk (address 0 t FORS_TREE i 0 (u / 2 ^ 0)) secret ≡ node_given p [] pk t i indices sig 0 j
leaf_given p pk indices sig t i j u secret is own =
    let x : ℕ = slice_index indices j in
    let part = chunk (fors_part_len p) sig j in
    let whole : u / 2 ^ 0 ≡ j * 2 ^ p.a + x = omega (arith, is) in
    climb-start (fors_tree p [] pk t i j) x (fors_leaf p pk t i (j * 2 ^ p.a + x) (take p.n part)) _ (path_node p.n (drop p.n part))
    (ap₂ (fors_leaf p pk t i) whole (own ∙ secret_first p.n part))

-- a climb ends with a node of the tree's length
length-parent : (t : MerkleTree) → Lawful t → (z i : ℕ) (own other : List ℕ) → length (parent t z i own other) ≡ t.width
length-parent t law z i own other =
    elim (even_or_odd i) [
      | inl e ↦ ap length (cond-true (eqb (i % 2) 0) _ _ (eq-eqb _ _ e)) ∙ law.join_width z (i / 2) own other
      | inr o ↦ ap length (cond-false (eqb (i % 2) 0) _ _ (ne_eqb _ _ (λ e. omega arith))) ∙ law.join_width z (i / 2) other own
    ]

length-climb_to : (t : MerkleTree) → Lawful t → (i : ℕ) (x : List ℕ) (f : ℕ → List ℕ) (k : ℕ) → length x ≡ t.width → length (climb_to t i x f k) ≡ t.width
unfolding climb_to
length-climb_to t law i x f zero is = is
length-climb_to t law i x f (suc k) is = length-parent t law (suc k) (i / 2 ^ k) (climb_to t i x f k) (f k)

-- so has the climb in a FORS tree
pub length-climbed : (s : ParamSet) (sk pk : List ℕ) (t i j x : ℕ) (own : List ℕ) (z : ℕ) → length (climbed (params s) sk pk t i j x own z) ≡ (params s).n
length-climbed s sk pk t i j x own z =
    length-climb_to (fors_tree (params s) sk pk t i j) (fors_tree-lawful s sk pk t i j) x _ (path_node (params s).n (drop (params s).n own)) z
    (length-F (params s) pk _ _ (n_high s))
