-- Rising lists.
use Rattle.std.proofs.Common.{◌≡◌, ◌≢◌, ℕ, zero, suc, ◌<◌, ◌≤◌, ◌==◌, List, [], ◌∷◌, ◌++◌, length, get_or, cond, ap, subst, arith}
use Rattle.std.specs.List.{All}
use Rattle.std.proofs.lemmas.List.Elements.{All-push}
use Rattle.std.proofs.lemmas.Bool.Decides.{nat_tests}
use mathlib.Core.Logic.{dite}
use native.Mathlib.Decide.{ℕ_discrete}
use Rattle.slh_board.specs.Counts.{times}
use Rattle.slh_board.specs.Kept.{IsRising}
use Rattle.slh_board.proofs.Totals.{All-front, times-cons}

-- the first element
All-head : (P : ℕ → Type 0) (x : ℕ) (xs : List ℕ) → All P (x ∷ xs) → P x
All-head P x xs h = h 0 x (omega arith)

-- the elements after the first
All-tail : (P : ℕ → Type 0) (x : ℕ) (xs : List ℕ) → All P (x ∷ xs) → All P xs
All-tail P x xs h = λ k d lt. h (suc k) d (omega arith)

-- another number
not_here : (x y : ℕ) → x ≢ y → cond (x == y) 1 0 ≤ 0
not_here x y ne = grind (arith, nat_tests)

-- a first element more
All-cons : (P : ℕ → Type 0) (x : ℕ) (xs : List ℕ) → P x → All P xs → (k d : ℕ) → k < length (x ∷ xs) → P (get_or (x ∷ xs) k d)
All-cons P x xs p h zero d lt = p
All-cons P x xs p h (suc k) d lt = h k d (omega arith)

-- a rising list of numbers up to n that has n ends with it
pub ends_with : (n : ℕ) (ys : List ℕ) → IsRising ys → All (λ y. y < suc n) ys → 1 ≤ times n ys → (zs : List ℕ) × (ys ≡ zs ++ n ∷ []) × IsRising zs × All (λ y. y < n) zs
ends_with n [] r b h = absurd (omega arith)
ends_with n (y ∷ ys) r b h = dite (ℕ_discrete y n) (λ e. here ys r b e) (λ ne. there ne (λ more. ends_with n ys r.1 (All-tail (λ z. z < suc n) y ys b) more))
  where
    here : (ys : List ℕ) → IsRising (y ∷ ys) → All (λ x. x < suc n) (y ∷ ys) → y ≡ n → (zs : List ℕ) × (y ∷ ys ≡ zs ++ n ∷ []) × IsRising zs × All (λ x. x < n) zs
    here [] r b e = ([], ap (λ x. x ∷ []) e, tt, λ k d lt. absurd (omega arith))
    here (x ∷ xs) r b e =
        let above = All-head (λ z. y < z) x xs r.0 in
        let below = All-head (λ z. z < suc n) x xs (All-tail (λ z. z < suc n) y (x ∷ xs) b) in
        absurd (omega (arith, e, above, below))

    there : y ≢ n → (1 ≤ times n ys → (zs : List ℕ) × (ys ≡ zs ++ n ∷ []) × IsRising zs × All (λ x. x < n) zs) → (zs : List ℕ) × (y ∷ ys ≡ zs ++ n ∷ []) × IsRising zs × All (λ x. x < n) zs
    there ne later =
        let zero_here : cond (y == n) 1 0 ≤ 0 = not_here y n ne in
        let t = later (omega (arith, h, zero_here, times-cons n y ys)) in
        let below = All-head (λ z. z < suc n) y ys b in
        let above : (k d : ℕ) → k < length t.0 → y < get_or t.0 k d = All-front (λ z. y < z) t.0 (n ∷ []) (subst (All (λ z. y < z)) t.1 r.0) in
        (y ∷ t.0, ap (λ l. y ∷ l) t.1, (above, t.2), All-cons (λ z. z < n) y t.0 (omega (arith, below, ne)) t.3)

-- a number above all others
pub rising_push : (ys : List ℕ) (x : ℕ) → IsRising ys → All (λ y. y < x) ys → IsRising (ys ++ x ∷ [])
rising_push [] x r h = (λ k d lt. absurd (omega arith), tt)
rising_push (y ∷ ys) x r h = (All-push (λ z. y < z) ys x r.0 (All-head (λ z. z < x) y ys h), rising_push ys x r.1 (All-tail (λ z. z < x) y ys h))
