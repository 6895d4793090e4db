-- The seeds of a key on the standard input.
use Rattle.std.specs.Prelude.{◌≡◌, ◌⊎◌, ℕ, ◌+◌, ◌-◌, ◌*◌, ◌<◌, ◌≤◌, if◌then◌else◌, List, [], ◌∷◌, length, take, drop, Option, Some, None, Result, MatchResult}
use Rattle.std.specs.Io.KnownBytes.{Consumes, IsAtEnd}
use Rattle.std.specs.Result.{result_ok}
use Rattle.std.specs.Str.{bytes_eq}
use Rattle.hex.specs.Hex.{decode_sized}
use Rattle.slh_io.specs.Devices.{Grew, SourceState}
use Rattle.slh_params.specs.ParamSet.{params}
use Rattle.slh_params.specs.declared.param_set.ParamSet.{ParamSet}
use Rattle.slh_tool.specs.declared.fault.Fault.{Fault}
use Rattle.slh_tool.specs.declared.fault.Fault.TheVariants.{BadSeeds, ReadFailed}

-- a text without the line feed that it may end in
abbrev pub without_line_feed : List ℕ → List ℕ
without_line_feed text = if bytes_eq (drop (length text - 1) text) (10 ∷ []) then take (length text - 1) text else text

-- SK.seed, SK.prf and PK.seed, n bytes each: their hexadecimal digits, and at most one line feed
unfoldable pub seeds_of : ParamSet → List ℕ → Option (List ℕ)
seeds_of set text = result_ok (decode_sized (without_line_feed text) (3 * (params set).n))

-- the most bytes that are read for them: the digits, a line feed and one more byte
abbrev pub seeds_limit : ParamSet → ℕ
seeds_limit set = 6 * (params set).n + 2

-- the bytes that a source handed out: at most this many, and all that it had if they are fewer
pub record IsInput (old new : SourceState) (limit : ℕ) (bytes : List ℕ) : Type 0 where
  pub taken : Consumes old.left new.left bytes
  pub at_most : length bytes ≤ limit
  pub whole : length bytes < limit → IsAtEnd new.left

-- the input spells these seeds
abbrev pub AreSeeds : ParamSet → SourceState → SourceState → List ℕ → Type 0
AreSeeds set old new seeds = (bytes : List ℕ) × IsInput old new (seeds_limit set) bytes × (seeds_of set bytes ≡ Some seeds)

-- why no seeds were read: the input spells none, or a read of it failed
abbrev pub RefusesSeeds : ParamSet → SourceState → SourceState → Fault → Type 0
RefusesSeeds set old new BadSeeds = (bytes : List ℕ) × IsInput old new (seeds_limit set) bytes × (seeds_of set bytes ≡ None)
RefusesSeeds set old new ReadFailed = Grew old.failures new.failures
RefusesSeeds set old new fault = ⊥

-- the input has failed no more often, unless a failed read of it is the refusal
abbrev pub IsUnfailedUnlessRefused : {T : Type 0} → SourceState → SourceState → Result T Fault → Type 0
IsUnfailedUnlessRefused old new r =
    MatchResult r (λ _. new.failures ≡ old.failures) (λ fault. (new.failures ≡ old.failures) ⊎ (fault ≡ ReadFailed))
