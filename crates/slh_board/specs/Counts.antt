-- Counting the numbers in lists.
use Rattle.std.specs.Prelude.{ℕ, ◌==◌, List, if◌then◌else◌, nat_lt}
use Rattle.std.specs.List.{count_by}

-- how often x stands in the list
abbrev pub times : ℕ → List ℕ → ℕ
times x ys = count_by (λ y. y == x) ys

-- how often x stands among the numbers below n: once, or not at all
abbrev pub once_below : ℕ → ℕ → ℕ
once_below x n = if nat_lt x n then 1 else 0
