-- Answers about the items of a list, and batches of items.
use Rattle.std.specs.Prelude.{◌≡◌, ℕ, ◌<◌, List, length, slice_index_or}
use Rattle.std.specs.Borrow.{Bor}
use Rattle.std.specs.List.{flat_map}

-- as many as there are items, each about the item in its place
pub record AreAnswers {T A : Type 0} (IsAnswer : T → A → Type 0) (items : List T) (answers : List A) : Type 0 where
  pub len : length answers ≡ length items
  pub each : (i : ℕ) (item : T) (answer : A) → i < length items → IsAnswer (slice_index_or items i item) (slice_index_or answers i answer)

-- batches put end to end
abbrev pub joined : {T : Type 0} → List (Bor (List T)) → List T
joined batches = flat_map (λ b. b.now) batches
