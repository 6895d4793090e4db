-- The key file: the kind of the key and the version of the file, the label of its parameter set, and its bytes as
-- hexadecimal digits, a line each. A file of version 1 has one of the standard's sets. Version 2 is written.
use Rattle.std.specs.Prelude.{◌≡◌, ◌==◌, ◌*◌, ◌<◌, ◌≤◌, ◌⊎◌, ℕ, Bool, true, false, not, IsTrue, if◌then◌else◌, [], ◌∷◌, ◌++◌, length, get_or, Option, Some, None, Result, Ok, Err, codes}
use Rattle.std.specs.List.{list_all}
use Rattle.std.specs.Option.{option_and_then}
use Rattle.std.specs.Str.{bytes_eq}
use Rattle.std.specs.Result.{result_unwrap_or}
use Rattle.hex.specs.Hex.{IsBytes, decode_of, encode_lower, is_hex_digit}
use Rattle.slh_params.specs.Params.{Params, pk_len, sk_len}
use Rattle.slh_params.specs.ParamSet.{IsStandard, is_standard, params}
use Rattle.slh_params.specs.Label.{label, set_of_label}
use Rattle.slh_params.specs.declared.param_set.ParamSet.{ParamSet}
use Rattle.slh_core.specs.Keys.{Key}
use Rattle.slh_key_files.specs.declared.fault.FileFault.{FileFault}
use Rattle.slh_key_files.specs.declared.fault.FileFault.TheVariants.{NotAKeyFile, UnknownSet, BadHex, BadKeyLength, TrailingBytes}
use Rattle.slh_key_files.specs.declared.key_file.AnyKey.{AnyKey}
use Rattle.slh_key_files.specs.declared.key_file.AnyKey.TheVariants as any
use Rattle.slh_key_files.specs.declared.key_kind.KeyKind.{KeyKind}
use Rattle.slh_key_files.specs.declared.key_kind.KeyKind.TheVariants.{Public, Secret}
use Rattle.slh_key_files.specs.declared.key_kind.Version.{Version}
use Rattle.slh_key_files.specs.declared.key_kind.Version.TheVariants.{One, Two}
use Rattle.slh_key_files.specs.Lines.{Text, line, cut_line, last_line}

-- the first line, without its line feed
abbrev pub first_line : KeyKind → Version → Text
first_line Public One = codes "slh-dsa-public 1"
first_line Public Two = codes "slh-dsa-public 2"
first_line Secret One = codes "slh-dsa-secret 1"
first_line Secret Two = codes "slh-dsa-secret 2"

-- whether a file of this version can have a key of this set
abbrev pub allows : Version → ParamSet → Bool
allows One set = is_standard set
allows Two set = true

-- the length of a key in bytes
abbrev pub key_len : KeyKind → Params → ℕ
key_len Public p = pk_len p
key_len Secret p = sk_len p

-- a key of this kind
pub record IsKey (kind : KeyKind) (key : Key) : Type 0 where
  pub sized : length key.bytes ≡ key_len kind (params key.set)
  pub bytes : IsBytes key.bytes

-- the file that is written
abbrev pub key_text : KeyKind → Key → Text
key_text kind key = line (first_line kind Two) ++ line (label key.set) ++ line (encode_lower key.bytes)

-- the files that are read: digits of either case, and the last line feed may be missing
pub record IsKeyFile (kind : KeyKind) (file : Text) (key : Key) : Type 0 where
  pub version : Version
  pub digits : Text
  pub ending : Text
  pub lines : file ≡ line (first_line kind version) ++ line (label key.set) ++ digits ++ ending
  pub ends : (ending ≡ []) ⊎ (ending ≡ 10 ∷ [])
  pub allowed : IsTrue (allows version key.set)
  pub spells : decode_of digits ≡ Ok key.bytes
  pub sized : length key.bytes ≡ key_len kind (params key.set)

-- ---- reading, with the faults in their order

-- the second step, if the first gave a value
infixl 10 ◌>>=◌
abbrev pub ◌>>=◌ : {A B : Type 0} → Result A FileFault → (A → Result B FileFault) → Result B FileFault
Ok x >>= f = f x
Err e >>= f = Err e

-- the version in the first line of a file of this kind
abbrev pub version_of : KeyKind → Text → Option Version
version_of kind text = if bytes_eq text (first_line kind One) then Some One
    else (if bytes_eq text (first_line kind Two) then Some Two
    else None)

-- the meaning of a line, if it has one, and the bytes after the line
abbrev pub with_rest : {A : Type 0} → Option A → Text → FileFault → Result (A × Text) FileFault
with_rest None rest fault = Err fault
with_rest (Some told) rest fault = Ok (told, rest)

-- the version of a file of this kind, and the bytes after its first line
abbrev pub after_kind : KeyKind → Option (Text × Text) → Result (Version × Text) FileFault
after_kind kind None = Err NotAKeyFile
after_kind kind (Some parts) = with_rest (version_of kind parts.0) parts.1 NotAKeyFile

-- the set of this label that a file of this version can have
abbrev pub set_of_line : Version → Text → Option ParamSet
set_of_line version text = option_and_then (λ set. if allows version set then Some set else None) (set_of_label text)

-- the set that the second line names, and the bytes after that line
abbrev pub after_set : Version → Option (Text × Text) → Result (ParamSet × Text) FileFault
after_set version None = Err UnknownSet
after_set version (Some parts) = with_rest (set_of_line version parts.0) parts.1 UnknownSet

-- the digits of a key of this many bytes, where they are the third line and nothing follows it
abbrev pub key_digits : ℕ → Text × Text → Result Text FileFault
key_digits len parts = if not (list_all is_hex_digit parts.0) then Err BadHex
    else (if not (length parts.0 == 2 * len) then Err BadKeyLength
    else (if not (length parts.1 == 0) then Err TrailingBytes
    else Ok parts.0))

-- the set of the key and the digits that spell it
abbrev pub key_line : KeyKind → Text → Result (ParamSet × Text) FileFault
key_line kind file = do
  v ← after_kind kind (cut_line file)
  s ← after_set v.0 (cut_line v.1)
  digits ← key_digits (key_len kind (params s.0)) (last_line s.1)
  Ok (s.0, digits)

-- the key of a file of this kind, or the file's first fault
abbrev pub key_file : KeyKind → Text → Result Key FileFault
key_file kind file = do
  s ← key_line kind file
  Ok (record { set = s.0; bytes = result_unwrap_or (decode_of s.1) [] })

-- ---- keys of either kind

-- a key of its kind
abbrev pub IsAnyKey : AnyKey → Type 0
IsAnyKey (any.Public key) = IsKey Public key
IsAnyKey (any.Secret key) = IsKey Secret key

-- the file of a key that is written
abbrev pub any_key_text : AnyKey → Text
any_key_text (any.Public key) = key_text Public key
any_key_text (any.Secret key) = key_text Secret key

-- the files that are read
abbrev pub IsAnyKeyFile : Text → AnyKey → Type 0
IsAnyKeyFile file (any.Public key) = IsKeyFile Public file key
IsAnyKeyFile file (any.Secret key) = IsKeyFile Secret file key

-- the public key of a file, or where it is not a public key's, the secret key
abbrev pub or_secret : Result Key FileFault → Result Key FileFault → Result AnyKey FileFault
or_secret (Ok key) secret = Ok (any.Public key)
or_secret (Err NotAKeyFile) secret = secret >>= λ key. Ok (any.Secret key)
or_secret (Err fault) secret = Err fault

-- the key of a file of either kind, or the file's first fault
abbrev pub any_key_file : Text → Result AnyKey FileFault
any_key_file file = or_secret (key_file Public file) (key_file Secret file)

-- the file that is written of a file's key, as by `slh upgrade` (`UpgradesKey` of slh_tool)
abbrev pub upgraded : Text → Result Text FileFault
upgraded file = do
  key ← any_key_file file
  Ok (any_key_text key)

-- ---- files that are longer than any key file

-- the stored bytes of a file: at most 512, or 512 and one more, which is not a digit
pub record IsKeyFront (bytes : Text) : Type 0 where
  pub at_most : length bytes ≤ 513
  pub last : 512 < length bytes → is_hex_digit (get_or bytes 512 0) ≡ false

-- two texts that are read alike, with any bytes that follow both
abbrev pub AreReadAlike : Text → Text → Type 0
AreReadAlike a b = (kind : KeyKind) (more : Text) → key_file kind (a ++ more) ≡ key_file kind (b ++ more)

-- the result of the code, seen by view, is that of reading
abbrev pub Gives : {X Y : Type 0} → (X → Y) → Result X FileFault → Result Y FileFault → Type 0
Gives view (Ok x) reading = reading ≡ Ok (view x)
Gives view (Err e) reading = reading ≡ Err e
