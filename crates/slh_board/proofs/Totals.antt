-- Totals over lists, elements of lists, and how often a number stands in a list.
use Rattle.std.proofs.Common.{◌≡◌, ℕ, zero, suc, ◌+◌, ◌<◌, ◌≤◌, ◌==◌, ◌||◌, List, [], ◌∷◌, ◌++◌, map, length, get_or, set, Bool, true, false, cond, refl, sym, ap, ◌∙◌, arith}
use Rattle.std.specs.List.{All, sum_by, list_any}
use Rattle.std.proofs.lemmas.List.Sums.{sum_by-append, sum_by-cons, sum_by_push, get_or-le-sum_by}
use Rattle.std.proofs.lemmas.Bool.Decides.{nat_tests}
use mathlib.Core.Option.{some, some-ne-none, some-injective}
use lib.ListN.{get_elem?}
use Rattle.slh_board.specs.Counts.{times, once_below}

module _ {X : Type 0} where
  -- a place that was set
  pub put_at : (xs : List X) (i : ℕ) (v w : X) → get_elem? xs i ≡ some v → get_elem? (set xs i w) i ≡ some w
  put_at [] i v w e = absurd (some-ne-none v (sym e))
  put_at (u ∷ us) zero v w e = refl
  put_at (u ∷ us) (suc i) v w e = put_at us i v w e

  -- a total after one element changed
  pub sum_set : (f : X → ℕ) (xs : List X) (i : ℕ) (v w : X) → get_elem? xs i ≡ some v → sum_by f (set xs i w) + f v ≡ sum_by f xs + f w
  sum_set f [] i v w e = absurd (some-ne-none v (sym e))
  sum_set f (u ∷ us) zero v w e = let fs : f u ≡ f v = ap f (some-injective u v e) in omega (arith, sum_by-cons f w us, sum_by-cons f u us)
  sum_set f (u ∷ us) (suc i) v w e = omega (arith, sum_by-cons f u us, sum_by-cons f u (set us i w), sum_set f us i v w e)

  -- one element's part of a total
  pub part : (f : X → ℕ) (xs : List X) (i : ℕ) (v : X) → get_elem? xs i ≡ some v → f v ≤ sum_by f xs
  part f [] i v e = absurd (some-ne-none v (sym e))
  part f (u ∷ us) zero v e = let fs : f u ≡ f v = ap f (some-injective u v e) in omega (arith, sum_by-cons f u us)
  part f (u ∷ us) (suc i) v e = omega (arith, sum_by-cons f u us, part f us i v e)

  -- a total that is not 0 has a part that is not
  pub some_part : (f : X → ℕ) (xs : List X) → 1 ≤ sum_by f xs → (i : ℕ) × (v : X) × (get_elem? xs i ≡ some v) × (1 ≤ f v)
  some_part f [] h = absurd (omega arith)
  some_part f (u ∷ us) h = from (f u) refl (λ more. some_part f us more)
    where
      from : (n : ℕ) → f u ≡ n → (1 ≤ sum_by f us → (i : ℕ) × (v : X) × (get_elem? us i ≡ some v) × (1 ≤ f v)) → (i : ℕ) × (v : X) × (get_elem? (u ∷ us) i ≡ some v) × (1 ≤ f v)
      from zero e later = let r = later (omega (arith, h, e, sum_by-cons f u us)) in (suc r.0, r.1, r.2, r.3)
      from (suc n) e later = (0, u, refl, omega (arith, e))

  -- totals compared element by element
  pub sum_le : (f g : X → ℕ) (xs : List X) → ((i : ℕ) (v : X) → get_elem? xs i ≡ some v → f v ≤ g v) → sum_by f xs ≤ sum_by g xs
  sum_le f g [] h = omega arith
  sum_le f g (u ∷ us) h = omega (arith, sum_by-cons f u us, sum_by-cons g u us, h 0 u refl, sum_le f g us (λ i v e. h (suc i) v e))

  -- a total of parts that are all 0
  pub sum_none : (f : X → ℕ) (xs : List X) → ((i : ℕ) (v : X) → get_elem? xs i ≡ some v → f v ≡ 0) → sum_by f xs ≡ 0
  sum_none f [] h = refl
  sum_none f (u ∷ us) h = omega (arith, h 0 u refl, sum_by-cons f u us, sum_none f us (λ i v e. h (suc i) v e))

  -- the elements before the last
  pub All-front : (P : X → Type 0) (xs ys : List X) → All P (xs ++ ys) → (k : ℕ) (d : X) → k < length xs → P (get_or xs k d)
  All-front P [] ys h k d lt = absurd (omega arith)
  All-front P (x ∷ xs) ys h zero d lt = h 0 d (omega arith)
  All-front P (x ∷ xs) ys h (suc k) d lt = All-front P xs ys (λ j e l. h (suc j) e (omega arith)) k d (omega arith)

  -- the last element
  pub All-last : (P : X → Type 0) (xs : List X) (x : X) → All P (xs ++ x ∷ []) → P x
  All-last P [] x h = h 0 x (omega arith)
  All-last P (y ∷ xs) x h = All-last P xs x (λ j e l. h (suc j) e (omega arith))

  -- a test with one more element
  pub any_push : (p : X → Bool) (xs : List X) (x : X) → list_any p (xs ++ x ∷ []) ≡ (p x || list_any p xs)
  any_push p [] x = refl
  any_push p (y ∷ xs) x = ap (λ b. p y || b) (any_push p xs x) ∙ turned (p y) (p x) (list_any p xs)
    where
      turned : (a b c : Bool) → (a || (b || c)) ≡ (b || (a || c))
      turned true true c = refl
      turned true false c = refl
      turned false true c = refl
      turned false false c = refl

  -- a total over the lists that elements have
  pub sum_map : (f : List ℕ → ℕ) (g : X → List ℕ) (xs : List X) → sum_by f (map g xs) ≡ sum_by (λ x. f (g x)) xs
  sum_map f g [] = refl
  sum_map f g (x ∷ xs) = sum_by-cons f (g x) (map g xs) ∙ (ap (λ n. f (g x) + n) (sum_map f g xs) ∙ sym (sum_by-cons (λ y. f (g y)) x xs))

-- one number more
pub once_below_more : (x n : ℕ) → once_below x (n + 1) ≡ once_below x n + cond (n == x) 1 0
once_below_more x n = grind (arith, nat_tests)

-- a number that stands below n
pub below_of : (x n : ℕ) → 1 ≤ once_below x n → x < n
below_of x n h = grind (arith, nat_tests)

-- a number at the end of a list
pub times_push : (x n : ℕ) (ys : List ℕ) → times x (ys ++ n ∷ []) ≡ times x ys + cond (n == x) 1 0
times_push x n ys = sum_by_push (λ y. cond (y == x) 1 0) ys n

-- a number at the front of a list
pub times-cons : (x y : ℕ) (ys : List ℕ) → times x (y ∷ ys) ≡ cond (y == x) 1 0 + times x ys
times-cons x y ys = sum_by-cons (λ z. cond (z == x) 1 0) y ys

-- two lists end to end
pub times-append : (x : ℕ) (xs ys : List ℕ) → times x (xs ++ ys) ≡ times x xs + times x ys
times-append x xs ys = sum_by-append (λ y. cond (y == x) 1 0) xs ys

-- the numbers of a list that has each at most as often as the numbers below n do are below n
pub All-drawn : (n : ℕ) (ys : List ℕ) → ((x : ℕ) → times x ys ≤ once_below x n) → All (λ y. y < n) ys
All-drawn n ys h = λ k d lt.
    let x = get_or ys k d in
    let one : cond (x == x) 1 0 ≤ times x ys = get_or-le-sum_by (λ y. cond (y == x) 1 0) ys k d lt in
    below_of x n (let u = h x in let o : 1 ≤ cond (x == x) 1 0 = grind (arith, nat_tests) in omega (arith, one, u, o))
