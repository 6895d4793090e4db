-- Files that are read by pieces.
use Rattle.std.proofs.Common.{◌≡◌, ◌↔◌, ◌==◌, Bool, true, false, ℕ, ◌+◌, ◌-◌, ◌<◌, ◌≤◌, List, [], ◌++◌, length, inl, inr, take, Option, Some, None, IfSome, IsTrue, Result, Ok, Err, IfOk, refl, subst, sym, ap, ap₂, ◌∙◌, append_assoc, arith, length-append}
use Rattle.std.proofs.Math.Seq.{take-add, take-append-add}
use Rattle.std.proofs.lemmas.Bool.{cases_lt}
use Rattle.std.proofs.lemmas.List.{append-nil, length-take, length-take-le, take-append-le, take_all}
use Rattle.slh_core.specs.Keys.{Key}
use Rattle.slh_core.specs.Signatures.{IsValid}
use Rattle.slh_params.specs.Params.{sig_len}
use Rattle.slh_params.specs.ParamSet.{params}
use Rattle.slh_io.specs.Devices.{EndsBy, FilesState, Grew, HasPart}
use Rattle.std.proofs.lemmas.Bool.Decides.{Decides-eqb, not_from_Decides}
use Rattle.slh_key_files.specs.KeyFile.{AreReadAlike, any_key_file, key_file, or_secret}
use Rattle.slh_key_files.specs.declared.fault.FileFault.{FileFault}
use Rattle.slh_key_files.specs.declared.key_file.AnyKey.{AnyKey}
use Rattle.slh_key_files.specs.declared.key_kind.KeyKind.{KeyKind}
use Rattle.slh_key_files.specs.declared.key_kind.KeyKind.TheVariants.{Public, Secret}
use Rattle.slh_tool.specs.Faults.{of_file}
use Rattle.slh_tool.specs.Keys.{HoldsAnyKey, HoldsKey, RefusesAnyKey, RefusesKey}
use Rattle.slh_tool.specs.Reading.{IsFile, IsFrontOfFile, IsFrontOfKeyFile, IsLater, file_limit}
use Rattle.slh_tool.specs.declared.fault.Fault.{Fault}

-- a prefix of a file, and then the part that follows it
pub more_read : (known : Option (List ℕ)) (front part : List ℕ) → HasPart known 0 front → HasPart known (length front) part → HasPart known 0 (front ++ part)
more_read None front part f p = tt
more_read (Some whole) front part f p =
    ap₂ (λ (a b : List ℕ). a ++ b) f p ∙ sym (take-add (length front) (length part) whole)
    ∙ ap (λ (n : ℕ). take n whole) (sym (length-append front part))

-- a prefix of a file that ends there
pub all_read : (known : Option (List ℕ)) (front : List ℕ) → HasPart known 0 front → EndsBy known (length front) → IfSome known (λ whole. front ≡ whole)
all_read None front f e = tt
all_read (Some whole) front f e = f ∙ take_all (length front) whole e

-- a prefix of a file is no longer than the file
pub too_long : (known : Option (List ℕ)) (front : List ℕ) → HasPart known 0 front → file_limit < length front → IfSome known (λ whole. file_limit < length whole)
too_long None front f e = tt
too_long (Some whole) front f e = omega (arith, ap (λ (xs : List ℕ). length xs) f, length-take (length front) whole)

-- states of files that have the same bytes and as many failures are the same
pub same_state : (old new : FilesState) → new.bytes_at ≡ old.bytes_at → new.failures ≡ old.failures → new ≡ old
same_state old new b f = ap₂ (λ (x : List ℕ → Option (List ℕ)) (y : ℕ). record { bytes_at = x; failures = y }) b f

-- nothing was read yet
pub none_read : (known : Option (List ℕ)) (front : List ℕ) → front ≡ [] → HasPart known 0 front
none_read None front e = tt
none_read (Some whole) front e = rw e refl

-- a failure after files were kept is one since before
pub grew_since : (old mid new : FilesState) → mid ≡ old → Grew mid.failures new.failures → Grew old.failures new.failures
grew_since old mid new kept grew = subst (λ (s : FilesState). Grew s.failures new.failures) kept grew

-- files that were kept, and files of which a read failed
pub later_kept : (old new : FilesState) → new ≡ old → IsLater old new
later_kept old new kept = rw kept (refl, omega arith)

pub later_failed : (old mid new : FilesState) → mid ≡ old → new.bytes_at ≡ mid.bytes_at → Grew mid.failures new.failures → IsLater old new
later_failed old mid new kept same grew =
    let more : mid.failures ≤ new.failures = elim grew [ inl less ↦ omega (arith, less) | inr last ↦ omega (arith, last.1) ] in
    subst (λ (s : FilesState). IsLater s new) kept (same, more)

-- the file ends where it ended before
pub ends_since : (old mid : FilesState) (path : List ℕ) (at : ℕ) → mid ≡ old → EndsBy (mid.bytes_at path) at → EndsBy (old.bytes_at path) at
ends_since old mid path at kept end = subst (λ (s : FilesState). EndsBy (s.bytes_at path) at) kept end

-- the file has the part that it had before
pub part_since : (old mid : FilesState) (path : List ℕ) (at : ℕ) (part : List ℕ) → mid ≡ old → HasPart (mid.bytes_at path) at part → HasPart (old.bytes_at path) at part
part_since old mid path at part kept p = subst (λ (s : FilesState). HasPart (s.bytes_at path) at part) kept p

-- the file was read to its end
pub read_whole : (old mid : FilesState) (path front part : List ℕ) (at : ℕ) → mid ≡ old → at ≡ length front → HasPart (old.bytes_at path) 0 front
    → (length part ≡ 0 → EndsBy (mid.bytes_at path) at) → length part ≡ 0 → length front ≤ file_limit → IsFile old path front
read_whole old mid path front part at kept e f end empty few = record {
  known = all_read (old.bytes_at path) front f (subst (λ (n : ℕ). EndsBy (old.bytes_at path) n) e (ends_since old mid path at kept (end empty)));
  at_most = few;
}

-- the file was read for one part more
pub read_more : (old mid : FilesState) (path front part : List ℕ) (at : ℕ) → mid ≡ old → at ≡ length front → HasPart (old.bytes_at path) 0 front
    → HasPart (mid.bytes_at path) at part → HasPart (old.bytes_at path) 0 (front ++ part)
read_more old mid path front part at kept e f p =
    more_read (old.bytes_at path) front part f (subst (λ (n : ℕ). HasPart (old.bytes_at path) n part) e (part_since old mid path at part kept p))

-- a length that was tested for 0
pub is_zero : (n : ℕ) (b : Bool) → b ≡ (n == 0) → b ≡ true → n ≡ 0
is_zero n b e t = (Decides-eqb n 0).0 (sym e ∙ t)

pub not_zero : (n : ℕ) (b : Bool) → b ≡ (n == 0) → b ≡ false → 0 < n
not_zero n b e t = let other : (n ≡ 0 → ⊥) = not_from_Decides (n == 0) (Decides-eqb n 0) (sym e ∙ t) in omega arith

-- of the file so many bytes were read, of which P is true
pub record HasRead (P : List ℕ → Type 0) (files : FilesState) (path : List ℕ) (at : ℕ) : Type 0 where
  pub bytes : List ℕ
  pub received : P bytes
  pub sized : length bytes ≡ at
  pub begins : HasPart (files.bytes_at path) 0 bytes

-- a prefix of some bytes, and then of the part that follows them
pub front_more : (most : ℕ) (bytes part : List ℕ) → take most bytes ++ take (most - length (take most bytes)) part ≡ take most (bytes ++ part)
front_more most bytes part = elim (cases_lt most (length bytes)) [
  | inl lt ↦
      let size : length (take most bytes) ≡ most = length-take-le most bytes (omega arith) in
      let none : most - length (take most bytes) ≡ 0 = omega (arith, size) in
      ap (λ (n : ℕ). take most bytes ++ take n part) none ∙ append-nil (take most bytes) ∙ sym (take-append-le most bytes part (omega arith))
  | inr ge ↦
      let whole : take most bytes ≡ bytes = take_all most bytes ge in
      let split : length bytes + (most - length bytes) ≡ most = omega arith in
      ap (λ (xs : List ℕ). xs ++ take (most - length xs) part) whole ∙ sym (take-append-add bytes part (most - length bytes))
      ∙ ap (λ (n : ℕ). take n (bytes ++ part)) split
]

-- what holds only of bytes of length n holds of the first n + 1 bytes exactly where it holds of the whole
pub front_decides : (P : List ℕ → Type 0) (n : ℕ) (whole : List ℕ) → ((bytes : List ℕ) → P bytes → length bytes ≡ n) → P (take (n + 1) whole) ↔ P whole
front_decides P n whole sized = (
  λ p. subst P (take_all (n + 1) whole (omega (arith, length-take (n + 1) whole, sized (take (n + 1) whole) p))) p,
  λ p. subst P (sym (take_all (n + 1) whole (omega (arith, sized whole p)))) p,
)

-- so a signature is valid where its prefix is
pub judged_by_front : (answer : Bool) (context : List ℕ) (key : Key) (msg whole front : List ℕ) → front ≡ take (sig_len (params key.set) + 1) whole
    → (IsTrue answer ↔ ((length context ≤ 255) × IsValid key msg front)) → IsTrue answer ↔ ((length context ≤ 255) × IsValid key msg whole)
judged_by_front answer context key msg whole front e h =
    let same = front_decides (IsValid key msg) (sig_len (params key.set)) whole (λ bytes valid. valid.len) in (
      λ t. ((h.0 t).0, same.0 (subst (IsValid key msg) e (h.0 t).1)),
      λ v. h.1 (v.0, subst (IsValid key msg) (sym e) (same.1 v.1)),
    )

-- a file that was read up to the most bytes that it may have was read whole
pub front_whole : (files : FilesState) (path bytes : List ℕ) → IsFrontOfFile files path file_limit bytes → IsFile files path bytes
front_whole files path bytes read =
    subst (λ (xs : List ℕ). IsFile files path xs) (sym (read.2 ∙ take_all (file_limit + 1) read.0 (omega (arith, read.1.at_most)))) read.1

pub file_whole : {T E : Type 0} (files : FilesState) (path : List ℕ) (items : T → List ℕ) (r : Result T E)
    → IfOk r (λ bytes. IsFrontOfFile files path file_limit (items bytes)) → IfOk r (λ bytes. IsFile files path (items bytes))
file_whole files path items (Ok bytes) read = front_whole files path (items bytes) read
file_whole files path items (Err e) read = tt

-- texts that are read alike, with one part more
pub alike_more : (held front bytes part : List ℕ) → AreReadAlike front bytes → AreReadAlike held (front ++ part) → AreReadAlike held (bytes ++ part)
alike_more held front bytes part old new kind more =
    new kind more
    ∙ ap (λ (t : List ℕ). key_file kind t) (append_assoc front part more)
    ∙ old kind (part ++ more)
    ∙ ap (λ (t : List ℕ). key_file kind t) (sym (append_assoc bytes part more))

-- and with no part more
pub alike_whole : (front bytes : List ℕ) → AreReadAlike front bytes → (kind : KeyKind) → key_file kind front ≡ key_file kind bytes
alike_whole front bytes alike kind =
    ap (λ (t : List ℕ). key_file kind t) (sym (append-nil front)) ∙ alike kind [] ∙ ap (λ (t : List ℕ). key_file kind t) (append-nil bytes)

-- what is read of a prefix of a key file is read of the file
pub key_held : (kind : KeyKind) (files : FilesState) (path front : List ℕ) (key : Key) → IsFrontOfKeyFile files path front → key_file kind front ≡ Ok key → HoldsKey kind files path key
key_held kind files path front key read e = (read.whole, read.read, sym (read.alike kind) ∙ e)

pub key_refused : (kind : KeyKind) (old new : FilesState) (path front : List ℕ) (e : FileFault) (fault : Fault) → IsFrontOfKeyFile old path front
    → key_file kind front ≡ Err e → fault ≡ of_file e → RefusesKey kind old new path fault
key_refused kind old new path front e fault read refused same = inr (read.whole, read.read, (e, sym (read.alike kind) ∙ refused, same))

-- and so for a key of either kind
any_alike : (front whole : List ℕ) → ((kind : KeyKind) → key_file kind front ≡ key_file kind whole) → any_key_file front ≡ any_key_file whole
any_alike front whole alike = ap₂ (λ (public secret : Result Key FileFault). or_secret public secret) (alike Public) (alike Secret)

pub any_held : (files : FilesState) (path front : List ℕ) (key : AnyKey) → IsFrontOfKeyFile files path front → any_key_file front ≡ Ok key → HoldsAnyKey files path key
any_held files path front key read e = (read.whole, read.read, sym (any_alike front read.whole read.alike) ∙ e)

pub any_refused : (old new : FilesState) (path front : List ℕ) (e : FileFault) (fault : Fault) → IsFrontOfKeyFile old path front
    → any_key_file front ≡ Err e → fault ≡ of_file e → RefusesAnyKey old new path fault
any_refused old new path front e fault read refused same = inr (read.whole, read.read, (e, sym (any_alike front read.whole read.alike) ∙ refused, same))
