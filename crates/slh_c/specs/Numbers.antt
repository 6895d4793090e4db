-- The numbers of C for the standard's parameter sets and pre-hash functions (ours): their places, counted from 1.
use Rattle.std.specs.Prelude.{ℕ, ◌-◌, ◌==◌, if◌then◌else◌, List, Option, None, IsSomeAnd}
use Rattle.std.specs.List.{slice_get}
use Rattle.slh_params.specs.ParamSet.{sets}
use Rattle.slh_params.specs.declared.param_set.ParamSet.{ParamSet}
use Rattle.slh_core.specs.PreHash.{functions}
use Rattle.slh_core.specs.declared.pre_hash.PreHash.{PreHash}

-- the item at a place of a list, counted from 1
abbrev pub at_place : {A : Type 0} → List A → ℕ → Option A
at_place items place = if place == 0 then None else slice_get items (place - 1)

-- the parameter set of a number, in the order of the standard's table
unfoldable pub set_numbered : ℕ → Option ParamSet
set_numbered number = at_place sets number

-- the pre-hash function of a number, in the order of `PreHash`
unfoldable pub function_numbered : ℕ → Option PreHash
function_numbered number = at_place functions number

-- a number is a set's, of which P holds
abbrev pub InSet : ℕ → (ParamSet → Type 0) → Type 0
InSet number P = IsSomeAnd (set_numbered number) P

-- a number is a function's, of which P holds
abbrev pub WithFunction : ℕ → (PreHash → Type 0) → Type 0
WithFunction number P = IsSomeAnd (function_numbered number) P
