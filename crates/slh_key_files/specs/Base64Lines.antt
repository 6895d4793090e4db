-- Base64 (RFC 4648, section 4) in lines of 64 characters.
use Rattle.std.specs.Prelude.{◌+◌, ◌*◌, ◌/◌, ℕ, zero, suc, true, [], ◌++◌, length, take, drop, codes}
use Rattle.base64.specs.Rfc4648.{encode}
use Rattle.slh_key_files.specs.Lines.{Text, line}

-- the characters
abbrev pub characters : Text
characters = codes "ABCDEFGHIJKLMNOPQRSTUVWXYZabcdefghijklmnopqrstuvwxyz0123456789+/"

-- a text in so many lines of 64 characters, the last of what is left
unfoldable pub in_lines : ℕ → Text → Text
in_lines zero text = []
in_lines (suc count) text = line (take 64 text) ++ in_lines count (drop 64 text)

-- how many lines that takes
abbrev pub line_count : ℕ → ℕ
line_count len = (len + 63) / 64

-- the length of the base64 of so many bytes, with its padding
abbrev pub chars_len : ℕ → ℕ
chars_len len = 4 * ((len + 2) / 3)

-- base64 in lines
abbrev pub base64_lines : Text → Text
base64_lines bytes = in_lines (line_count (chars_len (length bytes))) (encode characters 61 true bytes)

-- the length of that
abbrev pub lines_len : ℕ → ℕ
lines_len len = chars_len len + line_count (chars_len len)
