-- The nodes of a path record as bytes: ours.
use Rattle.std.specs.Prelude.{ℕ, List, [], Option, None, Some}
use Rattle.slh_tree.specs.Record.{KnownPath, known}

-- the bytes, or none
abbrev pub bytes_or_none : Option (List ℕ) → List ℕ
bytes_or_none None = []
bytes_or_none (Some bytes) = bytes

-- the bytes of the path's node of height j; none where the record does not know it
abbrev pub node_bytes : KnownPath → ℕ → List ℕ
node_bytes path j = bytes_or_none (known path j)
