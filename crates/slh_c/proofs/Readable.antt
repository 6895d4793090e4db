-- A file is read exactly if it is a key file of one of the standard's sets whose key fits.
use Rattle.std.proofs.Common.{◌≡◌, ℕ, Bool, true, false, if◌then◌else◌, length, Result, Ok, Err, refl, sym, subst, arith}
use Rattle.std.specs.Prelude.{◌↔◌, nat_le, List}
use Rattle.std.proofs.lemmas.Bool.{le-leb, leb-true}
use Rattle.slh_params.specs.ParamSet.{is_standard}
use Rattle.slh_key_files.specs.FileFault.{fault_number}
use Rattle.slh_key_files.specs.KeyFile.{any_key_file}
use Rattle.slh_key_files.specs.declared.fault.FileFault.{FileFault}
use Rattle.slh_key_files.specs.declared.fault.FileFault.TheVariants.{NoMemory, NotAKeyFile, UnknownSet, BadHex, BadKeyLength, TrailingBytes}
use Rattle.slh_key_files.specs.declared.key_file.AnyKey.{AnyKey}
use Rattle.slh_key_files.proofs.Reading.{accepts_any}
use Rattle.slh_c.specs.KeyFiles.{IsReadable, key_of, read_answer}

-- no fault has the number 0
some_fault : (fault : FileFault) → fault_number fault ≡ 0 → ⊥
some_fault NoMemory e = omega (arith, e)
some_fault NotAKeyFile e = omega (arith, e)
some_fault UnknownSet e = omega (arith, e)
some_fault BadHex e = omega (arith, e)
some_fault BadKeyLength e = omega (arith, e)
some_fault TrailingBytes e = omega (arith, e)

-- the number by the tests of the set and of the room
abbrev by_tests : Bool → Bool → ℕ
by_tests a b = if a then (if b then 0 else 18) else 12

both : (a b : Bool) → by_tests a b ≡ 0 → (a ≡ true) × (b ≡ true)
both true true e = (refl, refl)
both true false e = absurd (omega (arith, e))
both false b e = absurd (omega (arith, e))

given_both : (a b : Bool) → a ≡ true → b ≡ true → by_tests a b ≡ 0
given_both true true e f = refl
given_both true false e f = absurd cc
given_both false b e f = absurd cc

to : (file : List ℕ) (room : ℕ) (reading : Result AnyKey FileFault) → reading ≡ any_key_file file → read_answer reading room ≡ 0 → IsReadable file room
to file room (Err fault) e h = absurd (some_fault fault h)
to file room (Ok key) e h =
    let t = both (is_standard (key_of key).set) (nat_le (length (key_of key).bytes) room) h in
    record {
      key = key;
      is_file = (accepts_any file (Ok key) e key).0 refl;
      standard = t.0;
      fits = leb-true (length (key_of key).bytes) room t.1;
    }

from : (file : List ℕ) (room : ℕ) (reading : Result AnyKey FileFault) → reading ≡ any_key_file file → IsReadable file room → read_answer reading room ≡ 0
from file room reading e it =
    let is : reading ≡ Ok it.key = (accepts_any file reading e it.key).1 it.is_file in
    let answer : read_answer (Ok it.key) room ≡ 0 =
    given_both (is_standard (key_of it.key).set) (nat_le (length (key_of it.key).bytes) room) it.standard (le-leb (length (key_of it.key).bytes) room it.fits) in
    subst (λ (r : Result AnyKey FileFault). read_answer r room ≡ 0) (sym is) answer

pub readable : (file : List ℕ) (room : ℕ) (reading : Result AnyKey FileFault) (answer : ℕ) → reading ≡ any_key_file file → answer ≡ read_answer reading room
    → (answer ≡ 0) ↔ IsReadable file room
readable file room reading answer e f =
    subst (λ n. (n ≡ 0) ↔ IsReadable file room) (sym f) (to file room reading e, from file room reading e)
