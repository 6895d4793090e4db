-- Files that are read.
use Rattle.std.specs.Prelude.{◌≡◌, ⊤, ℕ, ◌+◌, ◌<◌, ◌≤◌, ◌^◌, List, length, take, IfSome, ◌⊎◌, Result, MatchResult}
use Rattle.slh_core.specs.PreHash.{Digest, PH}
use Rattle.slh_core.specs.declared.pre_hash.PreHash.{PreHash}
use Rattle.slh_io.specs.Devices.{FilesState, Grew}
use Rattle.slh_key_files.specs.KeyFile.{IsKeyFront, key_file}
use Rattle.slh_key_files.specs.declared.key_kind.KeyKind.{KeyKind}
use Rattle.slh_tool.specs.declared.fault.Fault.{Fault}
use Rattle.slh_tool.specs.declared.fault.Fault.TheVariants.{FileTooLong, NoMemory, ReadFailed}

-- the most bytes that a file may have
abbrev pub file_limit : ℕ
file_limit = 2 ^ 30

-- the file at this path has these bytes, and not too many
pub record IsFile (files : FilesState) (path bytes : List ℕ) : Type 0 where
  pub known : IfSome (files.bytes_at path) (λ whole. bytes ≡ whole)
  pub at_most : length bytes ≤ file_limit

-- the first bytes of the file at this path: one more than this many, or all if it has fewer
abbrev pub IsFrontOfFile : FilesState → List ℕ → ℕ → List ℕ → Type 0
IsFrontOfFile files path most bytes = (whole : List ℕ) × IsFile files path whole × (bytes ≡ take (most + 1) whole)

-- the stored bytes of the key file at this path: at most 513, which are read as the whole file is
pub record IsFrontOfKeyFile (files : FilesState) (path bytes : List ℕ) : Type 0 where
  pub whole : List ℕ
  pub read : IsFile files path whole
  pub alike : (kind : KeyKind) → key_file kind bytes ≡ key_file kind whole
  pub held : IsKeyFront bytes

-- why a file is not read: memory, or it is too long, or a read of some file failed
abbrev pub RefusesFile : FilesState → FilesState → List ℕ → Fault → Type 0
RefusesFile old new path NoMemory = ⊤
RefusesFile old new path FileTooLong = IfSome (old.bytes_at path) (λ whole. file_limit < length whole)
RefusesFile old new path ReadFailed = Grew old.failures new.failures
RefusesFile old new path fault = ⊥

-- The refusals of runs in which a read of a file may have failed. If a signature can't be read, `verify` still reads the
-- message, and reports one that is too long, or want of memory.
abbrev pub AdmitsFailure : Fault → Type 0
AdmitsFailure ReadFailed = ⊤
AdmitsFailure FileTooLong = ⊤
AdmitsFailure NoMemory = ⊤
AdmitsFailure fault = ⊥

-- the files are as they were, unless a read failed
abbrev pub AreKeptUnlessFailed : {T : Type 0} → FilesState → FilesState → Result T Fault → Type 0
AreKeptUnlessFailed old new r = MatchResult r (λ _. new ≡ old) (λ fault. (new ≡ old) ⊎ AdmitsFailure fault)

-- after a read, also one that failed, the files have the same bytes and no fewer failures
abbrev pub IsLater : FilesState → FilesState → Type 0
IsLater old new = (new.bytes_at ≡ old.bytes_at) × (old.failures ≤ new.failures)

-- the digest is that of the file at this path
abbrev pub IsDigestOfFile : FilesState → List ℕ → PreHash → Digest → Type 0
IsDigestOfFile files path function digest = (bytes : List ℕ) × IsFile files path bytes × (digest ≡ record { function = function; bytes = PH function bytes })
