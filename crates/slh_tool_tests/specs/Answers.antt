-- What commands answer over files of known bytes.
use Rattle.std.specs.Prelude.{◌≡◌, ◌⊎◌, ℕ, List, [], Ok, codes}
use Rattle.clap.specs.Words.{Text}
use Rattle.slh_core.specs.Keys.{IsGeneratedKey, Key}
use Rattle.slh_core.specs.Messages.{pure_message}
use Rattle.slh_core.specs.Signatures.{IsValid}
use Rattle.slh_io.specs.Devices.{FilesState, SourceState}
use Rattle.slh_key_files.specs.KeyFile.{key_file}
use Rattle.slh_key_files.specs.Lines.{line}
use Rattle.slh_key_files.specs.declared.key_kind.KeyKind.TheVariants.{Public, Secret}
use Rattle.slh_tool.specs.Runs.{Replies}
use Rattle.slh_tool_tests.specs.Folder.{NamedFile, bytes_in}

-- files of these names and bytes, none of which has failed
abbrev pub files_of : List NamedFile → FilesState
files_of files = record { bytes_at = bytes_in files; failures = 0 }

-- the status and the output are those that the arguments and the files give, whatever the input
pub record RepliesOver (words : List Text) (files : List NamedFile) (status : ℕ) (text : Text) : Type 0 where
  pub old : SourceState
  pub new : SourceState
  pub reply : Replies words (files_of files) old new status text

-- a status and a line that say whether a fact holds
abbrev pub Tells : Type 0 → Text → Text → ℕ → Text → Type 0
Tells fact affirmed denied status text = (fact × ((status ≡ 0) × (text ≡ line affirmed))) ⊎ ((fact → ⊥) × ((status ≡ 1) × (text ≡ line denied)))

-- the bytes are a secret key file, and the answer says whether PK.root of its key is the root that the seeds give
abbrev pub TellsConsistency : Text → ℕ → Text → Type 0
TellsConsistency file status text = (key : Key) × (key_file Secret file ≡ Ok key) × Tells (IsGeneratedKey key) (codes "consistent") (codes "inconsistent") status text

-- the bytes are a public key file, and the answer says whether the signature is valid under its key (FIPS 205,
-- Algorithm 24): that of the message, in the pure form with an empty context
abbrev pub TellsValidity : Text → Text → Text → ℕ → Text → Type 0
TellsValidity file message signature status text = (key : Key) × (key_file Public file ≡ Ok key)
    × Tells (IsValid key (pure_message [] message) signature) (codes "valid") (codes "invalid") status text
