-- Keys in DER and PEM (bindings/README.md, "Keys for other programs") as C reads them: ours.
use Rattle.std.specs.Prelude.{ℕ, ◌≤◌, List, length}
use Rattle.slh_key_files.specs.declared.key_file.AnyKey.{AnyKey}
use Rattle.slh_c.specs.KeyFiles.{key_of}

-- a file of such a form whose key fits into so much room
pub record IsReadable (IsForm : List ℕ → AnyKey → Type 0) (file : List ℕ) (room : ℕ) : Type 0 where
  pub key : AnyKey
  pub is_file : IsForm file key
  pub fits : length (key_of key).bytes ≤ room
