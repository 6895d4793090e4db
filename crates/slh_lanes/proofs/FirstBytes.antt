-- The first n bytes of a value of 32.
use Rattle.std.proofs.Common.{◌≡◌, ℕ, ◌≤◌, List, length, take, arith, sym, ap, ◌∙◌}
use Rattle.std.proofs.lemmas.List.{take-take}
use Rattle.sha2.specs.Sha256.{digest_bytes}
use Rattle.slh_lanes.specs.Columns.{column}
use Rattle.slh_lanes.specs.Lanes.{value_at}

pub value_cut : (x : List (List ℕ)) (j n : ℕ) (v : List ℕ) → n ≤ 32 → length v ≡ 32 → value_at x j (length v) ≡ v → value_at x j n ≡ take n v
unfolding value_at
value_cut x j n v le long e =
    sym (take-take n (length v) (digest_bytes (column j x) 8) (omega (arith, le, long))) ∙ ap (take n) e

-- the first bytes of a longer value
pub value_front : (x : List (List ℕ)) (j n m : ℕ) → n ≤ m → value_at x j n ≡ take n (value_at x j m)
unfolding value_at
value_front x j n m le = sym (take-take n m (digest_bytes (column j x) 8) le)
