-- A key file is read exactly where it is in the grammar, and what is written is in it, so that it is read, too.
use Rattle.std.proofs.Common.{◌≡◌, ℕ, ◌*◌, ◌==◌, Bool, true, false, not, cond, IsTrue, inr, [], ◌∷◌, ◌++◌, length, Option, Some, None, Result, Ok, Err, refl, sym, ap, ap₂, ◌∙◌, arith, append_assoc, eq-eqb, subst}
use Rattle.std.proofs.lemmas.Bool.{eqb-true}
use Rattle.std.proofs.lemmas.Slice.Eq.{bytes_eq-Decides}
use Rattle.std.proofs.lemmas.List.Sums.{AllPass-from_list_all, list_all-from_AllPass}
use Rattle.std.specs.List.{list_all}
use Rattle.std.specs.Prelude.{◌↔◌}
use Rattle.std.specs.Option.{option_and_then}
use Rattle.std.specs.Str.{bytes_eq}
use Rattle.std.specs.Result.{result_unwrap_or}
use Rattle.hex.specs.Hex.{decode_of, encode_lower, is_hex_digit}
use Rattle.hex.proofs.HexLemmas.{decode_of-digits, decode_of-encode_lower, decode_of-ok}
use Rattle.slh_params.specs.ParamSet.{params}
use Rattle.slh_params.specs.Label.{label, set_of_label}
use Rattle.slh_params.proofs.Labelled.{label-line, set_of_label-is, set_of_label-label}
use Rattle.slh_params.specs.declared.param_set.ParamSet.{ParamSet}
use Rattle.slh_core.specs.Keys.{Key}
use Rattle.slh_key_files.specs.declared.fault.FileFault.{FileFault}
use Rattle.slh_key_files.specs.declared.fault.FileFault.TheVariants.{NoMemory, NotAKeyFile, UnknownSet, BadHex, BadKeyLength, TrailingBytes}
use Rattle.slh_key_files.specs.declared.key_kind.KeyKind.{KeyKind}
use Rattle.slh_key_files.specs.declared.key_kind.KeyKind.TheVariants.{Public, Secret}
use Rattle.slh_key_files.specs.declared.key_kind.Version.{Version}
use Rattle.slh_key_files.specs.declared.key_kind.Version.TheVariants.{One, Two}
use Rattle.slh_key_files.specs.declared.key_file.AnyKey.{AnyKey}
use Rattle.slh_key_files.specs.declared.key_file.AnyKey.TheVariants as any
use Rattle.slh_key_files.specs.Lines.{Text, line, cut_line, last_line}
use Rattle.slh_key_files.specs.KeyFile.{IsAnyKey, IsAnyKeyFile, IsKey, IsKeyFile, after_kind, after_set, allows, any_key_file, any_key_text, or_secret, first_line, key_digits, key_file, key_len, key_line, key_text, set_of_line, upgraded, version_of, with_rest, ◌>>=◌}
use Rattle.slh_key_files.proofs.LineFeeds.{cut_line-Some, cut_line-at, last_line-at, last_line-whole, no_feed}
use Rattle.slh_key_files.proofs.Decoding.{digits_no_feed}

-- ---- the steps of reading

bind_ok : {A B : Type 0} (r : Result A FileFault) (f : A → Result B FileFault) (y : B)
    → (r >>= f) ≡ Ok y → (x : A) × (r ≡ Ok x) × (f x ≡ Ok y)
bind_ok (Ok x) f y h = (x, refl, h)
bind_ok (Err e) f y h = cc h

-- a test that refuses
guard_ok : {A : Type 0} (b : Bool) (e : FileFault) (x : Result A FileFault) (y : A) → cond (not b) (Err e) x ≡ Ok y → (b ≡ true) × (x ≡ Ok y)
guard_ok true e x y h = (refl, h)
guard_ok false e x y h = cc h

-- a line that tells something
with_rest-ok : {A : Type 0} (found : Option A) (rest : Text) (fault : FileFault) (s : A × Text) → with_rest found rest fault ≡ Ok s → (found ≡ Some s.0) × (rest ≡ s.1)
with_rest-ok None rest fault s h = cc h
with_rest-ok (Some told) rest fault s h = (cc h, cc h)

pair_is : (parts : Text × Text) (line rest : Text) → parts.0 ≡ line → parts.1 ≡ rest → Some parts ≡ Some (line, rest)
pair_is parts line rest e f = ap Some (ap₂ (λ (x y : Text). let q : Text × Text = (x, y) in q) e f)

-- the version that a first line tells is that of the line
pub version_of-is : (kind : KeyKind) (text : Text) (version : Version) → version_of kind text ≡ Some version → text ≡ first_line kind version
version_of-is kind text version h = chosen (bytes_eq text (first_line kind One)) (bytes_eq text (first_line kind Two)) refl refl h
  where
    at : (told : Version) → bytes_eq text (first_line kind told) ≡ true → Some told ≡ Some version → text ≡ first_line kind version
    at told e k = let same : told ≡ version = cc k in (bytes_eq-Decides text (first_line kind told)).0 e ∙ ap (first_line kind) same

    chosen : (a b : Bool) → bytes_eq text (first_line kind One) ≡ a → bytes_eq text (first_line kind Two) ≡ b
        → cond a (Some One) (cond b (Some Two) None) ≡ Some version → text ≡ first_line kind version
    chosen true b e f k = at One e k
    chosen false true e f k = at Two f k
    chosen false false e f k = absurd cc

version_of-line : (kind : KeyKind) (version : Version) → version_of kind (first_line kind version) ≡ Some version
version_of-line Public One = refl
version_of-line Public Two = refl
version_of-line Secret One = refl
version_of-line Secret Two = refl

-- the first line was taken
after_kind-ok : (kind : KeyKind) (cut : Option (Text × Text)) (v : Version × Text) → after_kind kind cut ≡ Ok v → cut ≡ Some (first_line kind v.0, v.1)
after_kind-ok kind None v h = cc h
after_kind-ok kind (Some parts) v h =
    let t = with_rest-ok (version_of kind parts.0) parts.1 NotAKeyFile v h in
    pair_is parts (first_line kind v.0) v.1 (version_of-is kind parts.0 v.0 t.0) t.1

-- the set that a second line tells has this label, and the version allows it
pub set_of_line-is : (version : Version) (text : Text) (set : ParamSet) → set_of_line version text ≡ Some set → (label set ≡ text) × IsTrue (allows version set)
set_of_line-is version text set h = chosen (set_of_label text) refl h
  where
    tested : (told : ParamSet) (b : Bool) → set_of_label text ≡ Some told → allows version told ≡ b → cond b (Some told) None ≡ Some set
        → (label set ≡ text) × IsTrue (allows version set)
    tested told true e f k =
        let same : told ≡ set = cc k in
        (set_of_label-is text set (e ∙ ap Some same), ap (allows version) (sym same) ∙ f)
    tested told false e f k = absurd cc

    chosen : (r : Option ParamSet) → set_of_label text ≡ r → option_and_then (λ told. cond (allows version told) (Some told) None) r ≡ Some set
        → (label set ≡ text) × IsTrue (allows version set)
    chosen None e k = absurd cc
    chosen (Some told) e k = tested told (allows version told) e refl k

set_of_line-label : (version : Version) (set : ParamSet) → IsTrue (allows version set) → set_of_line version (label set) ≡ Some set
set_of_line-label version set allowed = rw (set_of_label-label set, allowed) refl

-- the second line was taken
after_set-ok : (version : Version) (cut : Option (Text × Text)) (s : ParamSet × Text) → after_set version cut ≡ Ok s
    → (cut ≡ Some (label s.0, s.1)) × IsTrue (allows version s.0)
after_set-ok version None s h = absurd cc
after_set-ok version (Some parts) s h =
    let t = with_rest-ok (set_of_line version parts.0) parts.1 UnknownSet s h in
    let u = set_of_line-is version parts.0 s.0 t.0 in
    (pair_is parts (label s.0) s.1 (sym u.0) t.1, u.1)

length-zero : (xs : Text) → length xs ≡ 0 → xs ≡ []
length-zero [] h = refl
length-zero (x ∷ xs) h = absurd (omega arith)

-- digits that were taken
record AreDigits (len : ℕ) (parts : Text × Text) (digits : Text) : Type 0 where
  same : parts.0 ≡ digits
  hex : list_all is_hex_digit digits ≡ true
  sized : length digits ≡ 2 * len
  last : parts.1 ≡ []

key_digits-ok : (len : ℕ) (parts : Text × Text) (digits : Text) → key_digits len parts ≡ Ok digits → AreDigits len parts digits
key_digits-ok len parts digits h =
    let a = guard_ok (list_all is_hex_digit parts.0) BadHex _ digits h in
    let b = guard_ok (length parts.0 == 2 * len) BadKeyLength _ digits a.1 in
    let c = guard_ok (length parts.1 == 0) TrailingBytes (Ok parts.0) digits b.1 in
    let same : parts.0 ≡ digits = cc c.1 in
    record {
      same = same;
      hex = rw (← same) a.0;
      sized = rw (← same) (eqb-true _ _ b.0);
      last = length-zero parts.1 (eqb-true _ _ c.0);
    }

-- the bytes of digits, and their number
decoded : (digits : Text) (len : ℕ) → list_all is_hex_digit digits ≡ true → length digits ≡ 2 * len
    → (decode_of digits ≡ Ok (result_unwrap_or (decode_of digits) [])) × (length (result_unwrap_or (decode_of digits) []) ≡ len)
decoded digits len hex sized =
    let d = decode_of-digits digits (omega arith) (AllPass-from_list_all is_hex_digit digits hex) in
    let facts = decode_of-ok digits d.0 d.1 in
    rw d.1 (refl, omega (arith, facts.2))

-- the lines of a file, one after the other
flat : (a b c d : Text) → line a ++ line b ++ c ++ d ≡ a ++ 10 ∷ (b ++ 10 ∷ (c ++ d))
flat a b c d = simp append_assoc refl

-- ---- from reading to the grammar

abbrev pub digits_of : KeyKind → ParamSet × Text → Result (ParamSet × Text) FileFault
digits_of kind s = key_digits (key_len kind (params s.0)) (last_line s.1) >>= λ digits. Ok (s.0, digits)

abbrev pub after_first : KeyKind → Version × Text → Result (ParamSet × Text) FileFault
after_first kind v = after_set v.0 (cut_line v.1) >>= digits_of kind

abbrev key_of : ParamSet × Text → Key
key_of s = record { set = s.0; bytes = result_unwrap_or (decode_of s.1) [] }

-- the lines that were taken, one by one
line_read : (kind : KeyKind) (file : Text) (s : ParamSet × Text) → key_line kind file ≡ Ok s → IsKeyFile kind file (key_of s)
line_read kind file s h =
    let a = bind_ok (after_kind kind (cut_line file)) (after_first kind) s h in
    let first : file ≡ first_line kind a.0.0 ++ 10 ∷ a.0.1 =
    cut_line-Some file (first_line kind a.0.0) a.0.1 (after_kind-ok kind (cut_line file) a.0 a.1) in
    let b = bind_ok (after_set a.0.0 (cut_line a.0.1)) (digits_of kind) s a.2 in
    let second : a.0.1 ≡ label b.0.0 ++ 10 ∷ b.0.1 = cut_line-Some a.0.1 (label b.0.0) b.0.1 (after_set-ok a.0.0 (cut_line a.0.1) b.0 b.1).0 in
    let len = key_len kind (params b.0.0) in
    let k = bind_ok (key_digits len (last_line b.0.1)) (λ (digits : Text). Ok (b.0.0, digits)) s b.2 in
    let d = key_digits-ok len (last_line b.0.1) k.0 k.1 in
    let w = last_line-whole b.0.1 (cut_line b.0.1) refl d.last in
    let third : b.0.1 ≡ k.0 ++ w.0 = w.2 ∙ ap (λ (t : Text). t ++ w.0) d.same in
    let bytes = decoded k.0 len d.hex d.sized in
    let whole : IsKeyFile kind file (key_of (b.0.0, k.0)) = record {
      version = a.0.0;
      digits = k.0;
      ending = w.0;
      lines = first ∙ ap (λ (r : Text). first_line kind a.0.0 ++ 10 ∷ r) (second ∙ ap (λ (r : Text). label b.0.0 ++ 10 ∷ r) third)
          ∙ sym (flat (first_line kind a.0.0) (label b.0.0) k.0 w.0);
      ends = w.1;
      allowed = (after_set-ok a.0.0 (cut_line a.0.1) b.0 b.1).1;
      spells = bytes.0;
      sized = bytes.1;
    } in
    let same : (b.0.0, k.0) ≡ s = cc k.2 in
    subst (λ (q : ParamSet × Text). IsKeyFile kind file (key_of q)) same whole

-- the file of a key that was read
file_read : (kind : KeyKind) (file : Text) (key : Key) → key_file kind file ≡ Ok key → IsKeyFile kind file key
file_read kind file key h =
    let a = bind_ok (key_line kind file) (λ (s : ParamSet × Text). Ok (key_of s)) key h in
    let same : key_of a.0 ≡ key = cc a.2 in
    subst (IsKeyFile kind file) same (line_read kind file a.0 a.1)

-- ---- from the grammar to reading

kind_no_feed : (kind : KeyKind) (version : Version) → list_all no_feed (first_line kind version) ≡ true
kind_no_feed Public One = refl
kind_no_feed Public Two = refl
kind_no_feed Secret One = refl
kind_no_feed Secret Two = refl

-- good digits are taken
key_digits-at : (len : ℕ) (digits : Text) → list_all is_hex_digit digits ≡ true → length digits ≡ 2 * len → key_digits len (digits, []) ≡ Ok digits
key_digits-at len digits hex sized = rw (hex, eq-eqb _ _ sized) refl

-- a file in the grammar is read as its key
file_again : (kind : KeyKind) (file : Text) (key : Key) → IsKeyFile kind file key → key_file kind file ≡ Ok key
file_again kind file key f =
    let facts = decode_of-ok f.digits key.bytes f.spells in
    let hex : list_all is_hex_digit f.digits ≡ true = list_all-from_AllPass is_hex_digit f.digits facts.1 in
    let sized : length f.digits ≡ 2 * key_len kind (params key.set) = omega (arith, facts.2, f.sized) in
    let first : Text = first_line kind f.version in
    let rest : Text = label key.set ++ 10 ∷ (f.digits ++ f.ending) in
    let whole : file ≡ first ++ 10 ∷ rest = f.lines ∙ flat first (label key.set) f.digits f.ending in
    rw (
      whole,
      cut_line-at first rest (kind_no_feed kind f.version),
      version_of-line kind f.version,
      cut_line-at (label key.set) (f.digits ++ f.ending) (label-line key.set),
      set_of_line-label f.version key.set f.allowed,
      last_line-at f.digits f.ending (digits_no_feed f.digits hex) f.ends,
      key_digits-at (key_len kind (params key.set)) f.digits hex sized,
      f.spells,
    ) refl

-- a reader that gives the key or the first fault accepts exactly the files in the grammar
pub accepts : (kind : KeyKind) (file : Text) (r : Result Key FileFault) → r ≡ key_file kind file → (key : Key) → (r ≡ Ok key) ↔ IsKeyFile kind file key
accepts kind file r e key = (λ h. file_read kind file key (sym e ∙ h), λ f. e ∙ file_again kind file key f)

-- ---- the written form

-- what is written is in the grammar
written : (kind : KeyKind) (key : Key) → IsKey kind key → IsKeyFile kind (key_text kind key) key
written kind key k = record {
  version = Two;
  digits = encode_lower key.bytes;
  ending = 10 ∷ [];
  lines = sym (append_assoc (line (first_line kind Two) ++ line (label key.set)) (encode_lower key.bytes) (10 ∷ []));
  ends = inr refl;
  allowed = refl;
  spells = decode_of-encode_lower key.bytes k.bytes;
  sized = k.sized;
}

pub written_again : (kind : KeyKind) (key : Key) → IsKey kind key → key_file kind (key_text kind key) ≡ Ok key
written_again kind key k = file_again kind (key_text kind key) key (written kind key k)

-- ---- keys of either kind

-- a secret key's file is not a public key's
not_public : (file : Text) (key : Key) → IsKeyFile Secret file key → key_file Public file ≡ Err NotAKeyFile
not_public file key f =
    let rest : Text = label key.set ++ 10 ∷ (f.digits ++ f.ending) in
    let first : Text = first_line Secret f.version in
    rw (f.lines ∙ flat first (label key.set) f.digits f.ending, cut_line-at first rest (kind_no_feed Secret f.version), other f.version) refl
  where
    other : (version : Version) → version_of Public (first_line Secret version) ≡ None
    other One = refl
    other Two = refl

-- from reading a key of either kind to the grammar
any_read : (file : Text) (r : Result Key FileFault) (key : AnyKey) → key_file Public file ≡ r → or_secret r (key_file Secret file) ≡ Ok key → IsAnyKeyFile file key
any_read file (Ok k) key e h = let same : any.Public k ≡ key = cc h in subst (IsAnyKeyFile file) same (file_read Public file k e)
any_read file (Err NotAKeyFile) key e h =
    let a = bind_ok (key_file Secret file) (λ (k : Key). Ok (any.Secret k)) key h in
    let same : any.Secret a.0 ≡ key = cc a.2 in
    subst (IsAnyKeyFile file) same (file_read Secret file a.0 a.1)
any_read file (Err NoMemory) key e h = absurd cc
any_read file (Err UnknownSet) key e h = absurd cc
any_read file (Err BadHex) key e h = absurd cc
any_read file (Err BadKeyLength) key e h = absurd cc
any_read file (Err TrailingBytes) key e h = absurd cc

-- and back
any_again : (file : Text) (key : AnyKey) → IsAnyKeyFile file key → any_key_file file ≡ Ok key
any_again file (any.Public key) f = rw (file_again Public file key f) refl
any_again file (any.Secret key) f = rw (not_public file key f, file_again Secret file key f) refl

-- a reader of either kind that gives the key or the first fault accepts exactly the files in the grammar
pub accepts_any : (file : Text) (r : Result AnyKey FileFault) → r ≡ any_key_file file → (key : AnyKey) → (r ≡ Ok key) ↔ IsAnyKeyFile file key
accepts_any file r e key = (λ h. any_read file (key_file Public file) key refl (sym e ∙ h), λ f. e ∙ any_again file key f)

-- what is written is read as the key of its kind
pub either_again : (key : AnyKey) → IsAnyKey key → any_key_file (any_key_text key) ≡ Ok key
either_again (any.Public key) k = any_again (key_text Public key) (any.Public key) (written Public key k)
either_again (any.Secret key) k = any_again (key_text Secret key) (any.Secret key) (written Secret key k)

-- a file has a key of its kind
key_held : (kind : KeyKind) (file : Text) (key : Key) → IsKeyFile kind file key → IsKey kind key
key_held kind file key f = let facts = decode_of-ok f.digits key.bytes f.spells in record { sized = f.sized; bytes = facts.3 }

any_held : (file : Text) (key : AnyKey) → IsAnyKeyFile file key → IsAnyKey key
any_held file (any.Public key) f = key_held Public file key f
any_held file (any.Secret key) f = key_held Secret file key f

-- the file that is written of a file's key is written again
pub upgraded_again : (file text : Text) → upgraded file ≡ Ok text → upgraded text ≡ Ok text
upgraded_again file text h =
    let a = bind_ok (any_key_file file) (λ (key : AnyKey). Ok (any_key_text key)) text h in
    let held : IsAnyKey a.0 = any_held file a.0 (any_read file (key_file Public file) a.0 refl a.1) in
    let same : any_key_text a.0 ≡ text = cc a.2 in
    rw (← same, either_again a.0 held) refl
