-- The effects of files, sources and sinks, seen from outside.
use Rattle.std.specs.Prelude.{◌≡◌, ◌<◌, ◌≤◌, ◌-◌, ◌^◌, ◌⊎◌, ℕ, List, Option, Some, None, Result, MatchResult, take, drop, length, ⊤}
use Rattle.std.specs.Io.KnownBytes.{Appends, Consumes}

-- a source: the bytes that are left in it, if they are known, and how often it has failed
pub record SourceState : Type 0 where
  pub left : Option (List ℕ)
  pub failures : ℕ

-- a sink: the bytes that were put into it, if they are known, and how often it has failed
pub record SinkState : Type 0 where
  pub contents : Option (List ℕ)
  pub failures : ℕ

-- files: the bytes at a path, if they are known, and how often one has failed
pub record FilesState : Type 0 where
  pub bytes_at : List ℕ → Option (List ℕ)
  pub failures : ℕ

-- A count of failures grew. At the last value of a `u64` it stays, and a failure there counts as growth.
abbrev pub Grew : ℕ → ℕ → Type 0
Grew before after = (before < after) ⊎ ((before ≡ 2 ^ 64 - 1) × (after ≡ before))

-- a call that failed is counted, and no other
abbrev pub CountsFailure : {T E : Type 0} → ℕ → ℕ → Result T E → Type 0
CountsFailure before after r = MatchResult r (λ _. after ≡ before) (λ _. Grew before after)

-- a write failed after a prefix of the bytes was written
abbrev pub LetsThrough : Option (List ℕ) → Option (List ℕ) → List ℕ → Type 0
LetsThrough old new bytes = (k : ℕ) × Appends old new (take k bytes)

-- at most this many bytes were taken
abbrev pub TakesAtMost : Option (List ℕ) → Option (List ℕ) → ℕ → Type 0
TakesAtMost left rest limit = (bytes : List ℕ) × Consumes left rest bytes × (length bytes ≤ limit)

-- known bytes have this part at a place
abbrev pub HasPart : Option (List ℕ) → ℕ → List ℕ → Type 0
HasPart None at part = ⊤
HasPart (Some whole) at part = part ≡ take (length part) (drop at whole)

-- known bytes are no more than this many
abbrev pub EndsBy : Option (List ℕ) → ℕ → Type 0
EndsBy None at = ⊤
EndsBy (Some whole) at = length whole ≤ at

-- a text was put, or a prefix of it if a write failed
abbrev pub Puts : {T E : Type 0} → Option (List ℕ) → Option (List ℕ) → Result T E → List ℕ → Type 0
Puts old new r text = MatchResult r (λ _. Appends old new text) (λ _. LetsThrough old new text)
