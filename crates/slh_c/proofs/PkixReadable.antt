-- A file in DER or PEM is read exactly if it is one of a key that fits.
use Rattle.std.proofs.Common.{◌≡◌, ◌↔◌, ℕ, ◌≤◌, inl, inr, Bool, true, false, if◌then◌else◌, List, length, Some, Ok, refl, sym, subst, ◌∙◌, arith}
use Rattle.std.specs.Prelude.{nat_le}
use Rattle.std.proofs.lemmas.Bool.{le-leb, leb-true}
use Rattle.slh_params.specs.ParamSet.{IsStandard, is_standard}
use Rattle.slh_key_files.specs.Pkix.{IsDer, IsPem}
use Rattle.slh_key_files.specs.declared.key_file.AnyKey.{AnyKey}
use Rattle.slh_key_files.specs.declared.key_file.AnyKey.TheVariants as any
use Rattle.slh_c.specs.KeyFiles.{key_of, read_answer}
use Rattle.slh_c.specs.Pkix.{IsReadable}

pub der_standard : (file : List ℕ) (key : AnyKey) → IsDer file key → IsStandard (key_of key).set
der_standard file (any.Public key) w = w.standard
der_standard file (any.Secret key) w = w.standard

pub pem_standard : (file : List ℕ) (key : AnyKey) → IsPem file key → IsStandard (key_of key).set
pem_standard file (any.Public key) (inl w) = w.standard
pem_standard file (any.Public key) (inr w) = w.standard
pem_standard file (any.Secret key) (inl w) = w.standard
pem_standard file (any.Secret key) (inr w) = w.standard

some_key : (a b : AnyKey) → Some a ≡ Some b → a ≡ b
some_key a b e = cc e

-- the number by the tests of the set and of the room
abbrev by_tests : Bool → Bool → ℕ
by_tests a b = if a then (if b then 0 else 18) else 12

has_room : (a b : Bool) → by_tests a b ≡ 0 → b ≡ true
has_room true true e = refl
has_room true false e = absurd (omega (arith, e))
has_room false b e = absurd (omega (arith, e))

both : (a b : Bool) → a ≡ true → b ≡ true → by_tests a b ≡ 0
both true true e f = refl
both true false e f = absurd cc
both false b e f = absurd cc

module _ (IsForm : List ℕ → AnyKey → Type 0) (standard : (file : List ℕ) (key : AnyKey) → IsForm file key → IsStandard (key_of key).set)
    (file : List ℕ) (room : ℕ) (it : AnyKey) (accepted : (key : AnyKey) → (Some it ≡ Some key) ↔ IsForm file key) where
  same : (key : AnyKey) → IsForm file key → it ≡ key
  same key w = some_key it key ((accepted key).1 w)

  pub readable : (answer : ℕ) → answer ≡ read_answer (Ok it) room → (answer ≡ 0) ↔ IsReadable IsForm file room
  readable answer e = (
    λ h. record {
      key = it;
      is_file = (accepted it).0 refl;
      fits = leb-true (length (key_of it).bytes) room (has_room (is_standard (key_of it).set) (nat_le (length (key_of it).bytes) room) (sym e ∙ h));
    },
    λ r. e ∙ both (is_standard (key_of it).set) (nat_le (length (key_of it).bytes) room) (standard file it ((accepted it).0 refl))
        (le-leb (length (key_of it).bytes) room (subst (λ (k : AnyKey). length (key_of k).bytes ≤ room) (sym (same r.key r.is_file)) r.fits)),
  )

  pub not_none : ((key : AnyKey) → IsForm file key → ⊥) → ⊥
  not_none none = none it ((accepted it).0 refl)
