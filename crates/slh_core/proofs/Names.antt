-- The pre-hash functions by their names.
use Rattle.std.proofs.Common.{◌≡◌, ℕ, List, Some, None, refl}
use Rattle.slh_params.proofs.Names.{found_named, none_found}
use Rattle.slh_core.specs.PreHash.{function_named, functions, name}
use Rattle.slh_core.specs.declared.pre_hash.PreHash.{PreHash}
use Rattle.slh_core.specs.declared.pre_hash.PreHash.TheVariants.{Sha224, Sha256, Sha384, Sha512, Sha512_224, Sha512_256}

-- each function is found by its name
pub function_named-name : (function : PreHash) → function_named (name function) ≡ Some function
unfolding function_named
function_named-name Sha224 = refl
function_named-name Sha256 = refl
function_named-name Sha384 = refl
function_named-name Sha512 = refl
function_named-name Sha512_224 = refl
function_named-name Sha512_256 = refl

-- a function that is found has the name
pub function_named_is : (text : List ℕ) (function : PreHash) → function_named text ≡ Some function → name function ≡ text
unfolding function_named
function_named_is text function e = found_named name text function functions e

-- no function is found by another text
pub function_named-none : (text : List ℕ) → ((function : PreHash) → name function ≡ text → ⊥) → function_named text ≡ None
unfolding function_named
function_named-none text other = none_found name text other functions
