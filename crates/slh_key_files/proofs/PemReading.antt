-- A file in PEM is what is written of its key, but for the last line feed.
use Rattle.std.proofs.Common.{◌≡◌, ◌↔◌, ℕ, zero, suc, ◌+◌, ◌-◌, ◌*◌, ◌<◌, ◌≤◌, ◌⊎◌, inl, inr, IsTrue, Bool, true, [], ◌∷◌, ◌++◌, length, take, drop, nat_lt, Option, Some, None, refl, sym, ap, subst, ◌∙◌, arith, append_assoc, length-append, codes}
use Rattle.std.proofs.lemmas.Bool.{and_parts, ltb-true}
use Rattle.std.specs.List.{list_all}
use Rattle.std.proofs.lemmas.List.{drop_at, length-drop, length-take, take_all, take_at}
use Rattle.hex.specs.Hex.{IsBytes}
use Rattle.base64.specs.Rfc4648.{encode}
use Rattle.slh_params.specs.ParamSet.{IsStandard, is, params}
use Rattle.slh_params.specs.declared.param_set.ParamSet.{ParamSet}
use Rattle.slh_params.proofs.Names.{standard_cases}
use Rattle.slh_core.specs.Keys.{Key}
use Rattle.slh_key_files.specs.Base64Lines.{base64_lines, characters, chars_len, in_lines, line_count, lines_len}
use Rattle.slh_key_files.specs.KeyFile.{IsKey, key_len}
use Rattle.slh_key_files.specs.Lines.{Text, line}
use Rattle.slh_key_files.specs.Pkix.{IsDer, IsPem, IsWritten, any_pem, der_len, first_line, key_der, key_front, key_pem, last_line, pem_form, pem_len, set_of}
use Rattle.slh_key_files.specs.declared.key_file.AnyKey.{AnyKey}
use Rattle.slh_key_files.specs.declared.key_file.AnyKey.TheVariants as any
use Rattle.slh_key_files.specs.declared.key_kind.KeyKind.{KeyKind}
use Rattle.slh_key_files.specs.declared.key_kind.KeyKind.TheVariants.{Public, Secret}
use Rattle.slh_key_files.proofs.Forms.{der_front, front_fits}
use Rattle.slh_key_files.proofs.Padding.{length-encode}

-- the last line without its line feed
abbrev end_text : KeyKind → Text
end_text Public = codes "-----END PUBLIC KEY-----"
end_text Secret = codes "-----END PRIVATE KEY-----"

-- a key in PEM without its last line feed
abbrev body : KeyKind → Key → Text
body kind key = first_line kind ++ (base64_lines (key_der kind key) ++ end_text kind)

pub pem_line : (kind : KeyKind) (key : Key) → key_pem kind key ≡ line (body kind key)
pem_line Public key = sym (append_assoc (first_line Public) (base64_lines (key_der Public key) ++ end_text Public) (10 ∷ [])
    ∙ ap (λ (t : Text). first_line Public ++ t) (append_assoc (base64_lines (key_der Public key)) (end_text Public) (10 ∷ [])))
pem_line Secret key = sym (append_assoc (first_line Secret) (base64_lines (key_der Secret key) ++ end_text Secret) (10 ∷ [])
    ∙ ap (λ (t : Text). first_line Secret ++ t) (append_assoc (base64_lines (key_der Secret key)) (end_text Secret) (10 ∷ [])))

-- a line is known by its bytes
same_line : (a b : Text) → line a ≡ line b → a ≡ b
same_line a b e =
    let len : length b ≡ length a = omega (arith, ap (λ (t : Text). length t) e, length-append a (10 ∷ []), length-append b (10 ∷ [])) in
    sym (take_at a (10 ∷ []) (length a) refl) ∙ ap (take (length a)) e ∙ take_at b (10 ∷ []) (length a) len

-- a file shorter than a key in PEM is that without its line feed
pub shorter_is : (kind : KeyKind) (key : Key) (file pem : Text) (R : Type 0) → pem ≡ key_pem kind key → length file < length pem
    → R ↔ (file ≡ take (length pem - 1) pem) → R ↔ ((file ≡ key_pem kind key) ⊎ (line file ≡ key_pem kind key))
shorter_is kind key file pem R e short same =
    let is_line : pem ≡ line (body kind key) = e ∙ pem_line kind key in
    let n : length (body kind key) ≡ length pem - 1 = omega (arith, ap (λ (t : Text). length t) is_line, length-append (body kind key) (10 ∷ [])) in
    let front : take (length pem - 1) pem ≡ body kind key = ap (take (length pem - 1)) is_line ∙ take_at (body kind key) (10 ∷ []) (length pem - 1) n in
    (λ r. inr (ap line (same.0 r ∙ front) ∙ sym (pem_line kind key)), λ is. same.1 (from front is))
  where
    from : take (length pem - 1) pem ≡ body kind key → (file ≡ key_pem kind key) ⊎ (line file ≡ key_pem kind key) → file ≡ take (length pem - 1) pem
    from front (inl whole) = absurd (omega (arith, ap (λ (t : Text). length t) (whole ∙ sym e)))
    from front (inr cut) = same_line file (body kind key) (cut ∙ pem_line kind key) ∙ sym front

length-in_lines : (count : ℕ) (text : Text) → length text ≤ 64 * count → length (in_lines count text) ≡ length text + count
unfolding in_lines
length-in_lines zero text enough = omega (arith, enough)
length-in_lines (suc count) text enough =
    let left = length-drop 64 text in
    let rest = length-in_lines count (drop 64 text) (omega (arith, left, enough)) in
    omega (arith, left, rest, length-take 64 text, length-append (line (take 64 text)) (in_lines count (drop 64 text)), length-append (take 64 text) (10 ∷ []))

length-base64_lines : (m : Text) → length (base64_lines m) ≡ lines_len (length m)
length-base64_lines m =
    let n = length-encode m in
    length-in_lines (line_count (chars_len (length m))) (encode characters 61 true m) (omega (arith, n)) ∙ rw n refl

pub length-key_der : (kind : KeyKind) (key : Key) → IsStandard key.set → length key.bytes ≡ key_len kind (params key.set) → length (key_der kind key) ≡ der_len kind (params key.set)
length-key_der kind key standard sized =
    ap (λ (t : Text). length t) (der_front kind key.set standard key.bytes sized) ∙ length-append (key_front kind key.set) key.bytes
    ∙ ap (λ (n : ℕ). length (key_front kind key.set) + n) sized ∙ front_fits kind key.set standard

pub length-key_pem : (kind : KeyKind) (key : Key) → IsStandard key.set → length key.bytes ≡ key_len kind (params key.set) → length (key_pem kind key) ≡ pem_len kind (params key.set)
length-key_pem Public key standard sized =
    let m : Text = key_der Public key in
    let n : length (base64_lines m) ≡ lines_len (der_len Public (params key.set)) = length-base64_lines m ∙ ap lines_len (length-key_der Public key standard sized) in
    let a = length-append (first_line Public) (base64_lines m ++ last_line Public) in
    let b = length-append (base64_lines m) (last_line Public) in
    a ∙ rw (b, n) (omega arith)
length-key_pem Secret key standard sized =
    let m : Text = key_der Secret key in
    let n : length (base64_lines m) ≡ lines_len (der_len Secret (params key.set)) = length-base64_lines m ∙ ap lines_len (length-key_der Secret key standard sized) in
    let a = length-append (first_line Secret) (base64_lines m ++ last_line Secret) in
    let b = length-append (base64_lines m) (last_line Secret) in
    a ∙ rw (b, n) (omega arith)

abbrev PemForm : KeyKind → ParamSet → Type 0
PemForm kind set = (pem_form (pem_len kind (params set)) ≡ Some (length (first_line kind), der_len kind (params set)))
    × (pem_form (pem_len kind (params set) - 1) ≡ Some (length (first_line kind), der_len kind (params set)))
    × (1 ≤ pem_len kind (params set))

pem_form_is : (kind : KeyKind) (set : ParamSet) → IsStandard set → PemForm kind set
unfolding is params
pem_form_is Public = standard_cases (PemForm Public) (refl, refl, omega arith) (refl, refl, omega arith) (refl, refl, omega arith) (refl, refl, omega arith) (refl, refl, omega arith) (refl, refl, omega arith)
pem_form_is Secret = standard_cases (PemForm Secret) (refl, refl, omega arith) (refl, refl, omega arith) (refl, refl, omega arith) (refl, refl, omega arith) (refl, refl, omega arith) (refl, refl, omega arith)

-- what its length and its lines say of a file in PEM
abbrev Parts : KeyKind → Text → Key → Type 0
Parts kind file key = (pem_form (length file) ≡ Some (length (first_line kind), der_len kind (params key.set)))
    × ((more : Text) × (drop (length (first_line kind)) file ≡ base64_lines (key_der kind key) ++ more))

parts_whole : (kind : KeyKind) (file : Text) (key : Key) → IsWritten key_pem kind file key → Parts kind file key
parts_whole kind file key w =
    let len : length file ≡ pem_len kind (params key.set) = ap (λ (t : Text). length t) w.is_file ∙ length-key_pem kind key w.standard w.is_key.sized in
    let is : file ≡ first_line kind ++ (base64_lines (key_der kind key) ++ last_line kind) =
    w.is_file ∙ append_assoc (first_line kind) (base64_lines (key_der kind key)) (last_line kind) in (
      ap pem_form len ∙ (pem_form_is kind key.set w.standard).0,
      (
        last_line kind,
        ap (drop (length (first_line kind))) is ∙ drop_at (first_line kind) (base64_lines (key_der kind key) ++ last_line kind) (length (first_line kind)) refl,
      ),
    )

parts_cut : (kind : KeyKind) (file : Text) (key : Key) → IsWritten key_pem kind (line file) key → Parts kind file key
parts_cut kind file key w =
    let f = pem_form_is kind key.set w.standard in
    let len : length (line file) ≡ pem_len kind (params key.set) = ap (λ (t : Text). length t) w.is_file ∙ length-key_pem kind key w.standard w.is_key.sized in
    let len' : length file ≡ pem_len kind (params key.set) - 1 = omega (arith, len, length-append file (10 ∷ [])) in
    let is : file ≡ body kind key = same_line file (body kind key) (w.is_file ∙ pem_line kind key) in (
      ap pem_form len' ∙ f.1,
      (
        end_text kind,
        ap (drop (length (first_line kind))) is ∙ drop_at (first_line kind) (base64_lines (key_der kind key) ++ end_text kind) (length (first_line kind)) refl,
      ),
    )

-- bytes before bytes
bytes_append : (front rest : Text) → list_all (λ b. nat_lt b 256) front ≡ true → IsBytes rest → IsBytes (front ++ rest)
bytes_append [] rest all h i = h i
bytes_append (b ∷ front) rest all h zero = ltb-true b 256 (and_parts (nat_lt b 256) (list_all (λ b. nat_lt b 256) front) all).0
bytes_append (b ∷ front) rest all h (suc i) = bytes_append front rest (and_parts (nat_lt b 256) (list_all (λ b. nat_lt b 256) front) all).1 h i

abbrev FrontBytes : KeyKind → ParamSet → Type 0
FrontBytes kind set = list_all (λ b. nat_lt b 256) (key_front kind set) ≡ true

front_bytes : (kind : KeyKind) (set : ParamSet) → IsStandard set → FrontBytes kind set
unfolding is params
front_bytes Public = standard_cases (FrontBytes Public) refl refl refl refl refl refl
front_bytes Secret = standard_cases (FrontBytes Secret) refl refl refl refl refl refl

der_bytes : (kind : KeyKind) (key : Key) → IsStandard key.set → IsKey kind key → IsBytes (key_der kind key)
der_bytes kind key standard it =
    subst IsBytes (sym (der_front kind key.set standard key.bytes it.sized)) (bytes_append (key_front kind key.set) key.bytes (front_bytes kind key.set standard) it.bytes)

some_pair : (x y : ℕ × ℕ) → Some x ≡ Some y → (x.0 ≡ y.0) × (x.1 ≡ y.1)
some_pair x y h =
    let e : x ≡ y = cc h in
    (ap (λ (q : ℕ × ℕ). q.0) e, ap (λ (q : ℕ × ℕ). q.1) e)

-- bytes that are what the lines of a file spell, if these are the base64 of so many bytes
abbrev pub Spells : Text → ℕ → ℕ → Text → Type 0
Spells file first len der = (m more : Text) → IsBytes m → length m ≡ len → take (length file - first) (drop first file) ≡ base64_lines m ++ more → der ≡ m

spelled : (kind : KeyKind) (file der : Text) (key : Key) (first len : ℕ) → pem_form (length file) ≡ Some (first, len) → Spells file first len der
    → IsStandard key.set → IsKey kind key → Parts kind file key → IsWritten key_der kind der key
spelled kind file der key first len form spells standard it parts =
    let e = some_pair (first, len) (length (first_line kind), der_len kind (params key.set)) (sym form ∙ parts.0) in
    record {
      standard = standard;
      is_key = it;
      is_file = spells (key_der kind key) parts.1.0 (der_bytes kind key standard it) (length-key_der kind key standard it.sized ∙ sym e.1)
          (take_all (length file - first) (drop first file) (omega (arith, length-drop first file)) ∙ ap (λ (n : ℕ). drop n file) e.0 ∙ parts.1.1);
    }

-- what is spelled is the key in DER
pub pem_der : (file der : Text) (first len : ℕ) → pem_form (length file) ≡ Some (first, len) → Spells file first len der → (key : AnyKey) → IsPem file key → IsDer der key
pem_der file der first len form spells (any.Public key) (inl w) = spelled Public file der key first len form spells w.standard w.is_key (parts_whole Public file key w)
pem_der file der first len form spells (any.Public key) (inr w) = spelled Public file der key first len form spells w.standard w.is_key (parts_cut Public file key w)
pem_der file der first len form spells (any.Secret key) (inl w) = spelled Secret file der key first len form spells w.standard w.is_key (parts_whole Secret file key w)
pem_der file der first len form spells (any.Secret key) (inr w) = spelled Secret file der key first len form spells w.standard w.is_key (parts_cut Secret file key w)

has_form : (file : Text) (key : AnyKey) → IsPem file key → (form : ℕ × ℕ) × (pem_form (length file) ≡ Some form)
has_form file (any.Public key) (inl w) = (_, (parts_whole Public file key w).0)
has_form file (any.Public key) (inr w) = (_, (parts_cut Public file key w).0)
has_form file (any.Secret key) (inl w) = (_, (parts_whole Secret file key w).0)
has_form file (any.Secret key) (inr w) = (_, (parts_cut Secret file key w).0)

-- a file of another length has no key
pub other_length : (file : Text) (result : Option AnyKey) → result ≡ None → pem_form (length file) ≡ None → (key : AnyKey) → (result ≡ Some key) ↔ IsPem file key
other_length file result refused none key = (λ h. absurd cc, λ w. let f = has_form file key w in let e : None ≡ Some f.0 = sym none ∙ f.1 in absurd cc)

-- nor has one whose lines spell no key
pub other_bytes : (file der : Text) (r result : Option AnyKey) → r ≡ None → result ≡ None → ((key : AnyKey) → (r ≡ Some key) ↔ IsDer der key) → ((key : AnyKey) → IsPem file key → IsDer der key)
    → (key : AnyKey) → (result ≡ Some key) ↔ IsPem file key
other_bytes file der r result none refused accepted of key = (λ h. absurd cc, λ w. let e : None ≡ Some key = sym none ∙ (accepted key).1 (of key w) in absurd cc)

-- the text of a key, of a file that has the key in DER
pub of_text : (file der : Text) (key : AnyKey) → IsDer der key → ((file ≡ any_pem key) ⊎ (line file ≡ any_pem key)) → IsPem file key
of_text file der (any.Public key) w (inl e) = inl (record { standard = w.standard; is_key = w.is_key; is_file = e })
of_text file der (any.Public key) w (inr e) = inr (record { standard = w.standard; is_key = w.is_key; is_file = e })
of_text file der (any.Secret key) w (inl e) = inl (record { standard = w.standard; is_key = w.is_key; is_file = e })
of_text file der (any.Secret key) w (inr e) = inr (record { standard = w.standard; is_key = w.is_key; is_file = e })

has_text : (file : Text) (key : AnyKey) → IsPem file key → (file ≡ any_pem key) ⊎ (line file ≡ any_pem key)
has_text file (any.Public key) (inl w) = inl w.is_file
has_text file (any.Public key) (inr w) = inr w.is_file
has_text file (any.Secret key) (inl w) = inl w.is_file
has_text file (any.Secret key) (inr w) = inr w.is_file

some_key : (a b : AnyKey) → Some a ≡ Some b → a ≡ b
some_key a b e = cc e

-- the key that the lines spell is the file's, if the file is its text
pub is_text : (file der : Text) (found : AnyKey) (same : Bool) → IsTrue same → ((key : AnyKey) → (Some found ≡ Some key) ↔ IsDer der key)
    → (IsTrue same ↔ ((file ≡ any_pem found) ⊎ (line file ≡ any_pem found))) → ((key : AnyKey) → IsPem file key → IsDer der key)
    → (key : AnyKey) → (Some found ≡ Some key) ↔ IsPem file key
is_text file der found same holds accepted text of key =
    (λ h. subst (IsPem file) (some_key found key h) (of_text file der found ((accepted found).0 refl) (text.0 holds)), λ w. (accepted key).1 (of key w))

pub is_no_text : (file der : Text) (found : AnyKey) (same : Bool) → (IsTrue same → ⊥) → ((key : AnyKey) → (Some found ≡ Some key) ↔ IsDer der key)
    → (IsTrue same ↔ ((file ≡ any_pem found) ⊎ (line file ≡ any_pem found))) → ((key : AnyKey) → IsPem file key → IsDer der key)
    → (key : AnyKey) → (None ≡ Some key) ↔ IsPem file key
is_no_text file der found same not_so accepted text of key =
    (λ h. absurd cc, λ w. absurd (not_so (text.1 (subst (λ (k : AnyKey). (file ≡ any_pem k) ⊎ (line file ≡ any_pem k)) (sym (some_key found key ((accepted key).1 (of key w)))) (has_text file key w)))))

pub der_standard : (der : Text) (key : AnyKey) → IsDer der key → IsStandard (set_of key)
der_standard der (any.Public key) w = w.standard
der_standard der (any.Secret key) w = w.standard
