-- Key files (docs/FORMATS.md, "Key file") as C reads and writes them: ours.
use Rattle.std.specs.Prelude.{ℕ, ◌==◌, ◌-◌, ◌≤◌, nat_le, if◌then◌else◌, List, ◌++◌, length, replicate, Option, Some, None, Result, Ok, Err}
use Rattle.slh_params.specs.ParamSet.{IsStandard, is_standard}
use Rattle.slh_core.specs.Keys.{Key}
use Rattle.slh_key_files.specs.FileFault.{fault_number}
use Rattle.slh_key_files.specs.KeyFile.{IsAnyKeyFile}
use Rattle.slh_key_files.specs.declared.fault.FileFault.{FileFault}
use Rattle.slh_key_files.specs.declared.fault.FileFault.TheVariants.{UnknownSet}
use Rattle.slh_key_files.specs.declared.key_file.AnyKey.{AnyKey}
use Rattle.slh_key_files.specs.declared.key_file.AnyKey.TheVariants as any
use Rattle.slh_key_files.specs.declared.key_kind.KeyKind.{KeyKind}
use Rattle.slh_key_files.specs.declared.key_kind.KeyKind.TheVariants.{Public, Secret}
use Rattle.slh_c.specs.Refusals.{number}
use Rattle.slh_c.specs.declared.refusal.Refusal.TheVariants.{BadOutputLength}

-- the kind of a number
abbrev pub kind_numbered : ℕ → Option KeyKind
kind_numbered number = if number == 1 then Some Public else if number == 2 then Some Secret else None

abbrev pub kind_of : AnyKey → KeyKind
kind_of (any.Public key) = Public
kind_of (any.Secret key) = Secret

abbrev pub key_of : AnyKey → Key
key_of (any.Public key) = key
key_of (any.Secret key) = key

-- bytes, and zeros from there to the end of the room
abbrev pub in_room : List ℕ → ℕ → List ℕ
in_room bytes room = bytes ++ replicate (room - length bytes) 0

-- a key file of one of the standard's sets, whose key fits into so much room
pub record IsReadable (file : List ℕ) (room : ℕ) : Type 0 where
  pub key : AnyKey
  pub is_file : IsAnyKeyFile file key
  pub standard : IsStandard (key_of key).set
  pub fits : length (key_of key).bytes ≤ room

-- the number that reading returns, by the key or the first fault of the file, into so much room
abbrev pub read_answer : Result AnyKey FileFault → ℕ → ℕ
read_answer (Err fault) room = fault_number fault
read_answer (Ok key) room = if is_standard (key_of key).set
    then (if nat_le (length (key_of key).bytes) room then 0 else number BadOutputLength)
    else fault_number UnknownSet
