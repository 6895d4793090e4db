-- Files by name.
use Rattle.std.specs.Prelude.{List, Option, option_map}
use Rattle.std.specs.Borrow.{Bor}
use Rattle.std.specs.List.{find}
use Rattle.std.specs.Str.{bytes_eq}
use Rattle.clap.specs.Words.{Text}

-- a name and the bytes of a file
abbrev pub NamedFile : Type 0
NamedFile = Bor Text × Bor Text

-- the bytes of the first file of this name, where there is one
abbrev pub bytes_in : List NamedFile → Text → Option Text
bytes_in files path = option_map (λ f. f.1.now) (find (λ f. bytes_eq f.0.now path) files)
