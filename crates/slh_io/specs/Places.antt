-- The position of an open file.
use Rattle.std.specs.Prelude.{◌≡◌, ℕ, List, drop, Option, Some, IfSome}

-- of known bytes, those from a place on are left to read
abbrev pub IsLeftFrom : Option (List ℕ) → ℕ → Option (List ℕ) → Type 0
IsLeftFrom known at left = IfSome known (λ whole. left ≡ Some (drop at whole))

-- a file that was opened stands at its first byte, and has the known bytes
abbrev pub IsOpened : Option (List ℕ) → Option ℕ → Option (List ℕ) → Type 0
IsOpened known position bytes = IfSome known (λ whole. (position ≡ Some 0) × (bytes ≡ Some whole))
