-- The pieces of a `flat_map` over numbers, all of one length.
use Rattle.std.proofs.Common.{◌≡◌, ℕ, ◌+◌, ◌*◌, ◌/◌, ◌<◌, ◌≤◌, List, ◌++◌, length, length-append, get_or, ◌∙◌, ap, arith, suc, zero}
use Rattle.std.proofs.Math.Nat.{mul-le-mul_left, div-lt_iff_lt-mul}
use Rattle.std.specs.List.{flat_map, range_with_len}
use Rattle.std.proofs.lemmas.List.{get_or_append_left, get_or-append-add}

pub length-pieces : {A : Type 0} (f : ℕ → List A) (r from n : ℕ) → ((t : ℕ) → length (f t) ≡ r) → length (flat_map f (range_with_len from n)) ≡ n * r
length-pieces f r from zero each = omega arith
length-pieces f r from (suc n) each =
    length-append (f from) (flat_map f (range_with_len (from + 1) n)) ∙ omega (arith, each from, length-pieces f r (from + 1) n each)

-- the element k of piece t
pub at-pieces : {A : Type 0} (f : ℕ → List A) (r from n t k : ℕ) (d : A) → ((u : ℕ) → length (f u) ≡ r) → t < n → k < r
    → get_or (flat_map f (range_with_len from n)) (t * r + k) d ≡ get_or (f (from + t)) k d
at-pieces f r from zero t k d each few here = absurd (omega arith)
at-pieces f r from (suc n) zero k d each few here =
    ap (λ v. get_or (f from ++ flat_map f (range_with_len (from + 1) n)) v d) (let e : 0 * r + k ≡ k = omega arith in e)
    ∙ get_or_append_left (f from) (flat_map f (range_with_len (from + 1) n)) d k (omega (arith, each from)) ∙ ap (λ v. get_or (f v) k d) (let e : from ≡ from + 0 = omega arith in e)
at-pieces f r from (suc n) (suc t) k d each few here =
    ap (λ v. get_or (f from ++ flat_map f (range_with_len (from + 1) n)) v d) (let e : suc t * r + k ≡ length (f from) + (t * r + k) = omega (arith, each from) in e)
    ∙ get_or-append-add (f from) (flat_map f (range_with_len (from + 1) n)) (t * r + k) d ∙ at-pieces f r (from + 1) n t k d each (omega arith) here
    ∙ ap (λ v. get_or (f v) k d) (let e : from + 1 + t ≡ from + suc t = omega arith in e)

-- it is one of the elements of the first n pieces
pub below_pieces : (r n t k : ℕ) → t < n → k < r → t * r + k < n * r
below_pieces r n t k few here =
    let all : r * (t + 1) ≤ r * n = mul-le-mul_left r (omega arith) in
    omega (arith, all)

-- the piece of an element
pub piece_below : (r n k : ℕ) → 0 < r → k < n * r → k / r < n
piece_below r n k some here = (div-lt_iff_lt-mul {k = r} {x = k} {y = n} some).1 here
