-- Answers to numbered jobs: right for their numbers, and none missing.
use Rattle.std.specs.Prelude.{◌≡◌, ℕ, ◌<◌, List, [], ◌∷◌, ◌++◌, length, map, slice_index_or}
use Rattle.std.specs.List.{All, Contains}

-- the numbers of the answers, in their order
abbrev pub numbers : {T : Type 0} → List (ℕ × T) → List ℕ
numbers answers = map (λ a. a.0) answers

-- each answer is one to a job below n, and right for its number
abbrev pub AllRight : {T : Type 0} → (ℕ → T → Type 0) → ℕ → List (ℕ × T) → Type 0
AllRight {T} right n answers = All (λ (a : ℕ × T). (a.0 < n) × right a.0 a.1) answers

-- the answer in place i is right for the job i
abbrev pub RightByPlace : {T : Type 0} → (ℕ → T → Type 0) → List T → Type 0
RightByPlace {T} right outs = (i : ℕ) (d : T) → i < length outs → right i (slice_index_or outs i d)

-- each number below n has an answer
abbrev pub Covers : {T : Type 0} → ℕ → List (ℕ × T) → Type 0
Covers n answers = (j : ℕ) → j < n → Contains (numbers answers) j

-- As many as there are numbers below n, the one in place i from an answer whose number is i
pub record InPlace {T : Type 0} (n : ℕ) (answers : List (ℕ × T)) (outs : List T) : Type 0 where
  pub len : length outs ≡ n
  pub each : (i : ℕ) (d : T) → i < n → Contains answers (i, slice_index_or outs i d)

-- one right answer more, to the job of that number
abbrev pub AddsAnswer : {T : Type 0} → (ℕ → T → Type 0) → ℕ → List (ℕ × T) → List (ℕ × T) → Type 0
AddsAnswer {T} right number old new = (out : T) × right number out × (new ≡ old ++ (number, out) ∷ [])
