-- Lines of a text, each ended by a line feed, which is the byte 10.
use Rattle.std.specs.Prelude.{◌==◌, ◌+◌, ℕ, List, [], ◌∷◌, ◌++◌, take, drop, Option, option_map, unwrap_or, position}

abbrev pub Text : Type 0
Text = List ℕ

-- the line with its line feed
abbrev pub line : Text → Text
line bytes = bytes ++ 10 ∷ []

-- the bytes before the first line feed, and those after it
abbrev pub cut_line : Text → Option (Text × Text)
cut_line bytes = option_map (λ i. (take i bytes, drop (i + 1) bytes)) (position (λ byte. byte == 10) bytes)

-- the same for a line that the end of the text may end too
abbrev pub last_line : Text → Text × Text
last_line bytes = unwrap_or (cut_line bytes) (bytes, [])
