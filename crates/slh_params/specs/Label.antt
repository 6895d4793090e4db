-- One line of text for each parameter set: ours.
use Rattle.std.specs.Prelude.{ℕ, ◌+◌, ◌-◌, ◌*◌, ◌<◌, ◌≡◌, ◌==◌, List, [], ◌∷◌, ◌++◌, Bool, true, false, if◌then◌else◌, Option, Some, None, drop, take, slice_index, codes, refl}
use Rattle.std.specs.Fmt.{decimal}
use Rattle.std.specs.Option.{option_and_then}
use Rattle.std.specs.Str.{bytes_eq}
use Rattle.slh_params.specs.declared.param_set.ParamSet.{ParamSet}
use Rattle.slh_params.specs.Params.{Params}
use Rattle.slh_params.specs.ParamSet.{is_standard, name, params, set_named}
use Rattle.slh_params.specs.Valid.{is_valid}

-- the six numbers in decimal, with commas
abbrev pub listed : Params → List ℕ
listed p =
    decimal p.n ++ codes "," ++ decimal p.lg_w ++ codes "," ++ decimal p.hp ++ codes "," ++ decimal p.d ++ codes ","
    ++ decimal p.a ++ codes "," ++ decimal p.k

-- the name of a set of the standard; of any other set, `custom:` and its numbers
unfoldable pub label : ParamSet → List ℕ
label set = if is_standard set then name set else codes "custom:" ++ listed (params set)

-- ---- the set of a label

-- the numbers of a text that has them in decimal, with commas between them
abbrev pub numbers_after : ℕ → List ℕ → List ℕ
numbers_after n [] = n ∷ []
numbers_after n (b ∷ bs) = if b == 44 then n ∷ numbers_after 0 bs else numbers_after (n * 10 + (b - 48)) bs

-- the set of this record, if the record is valid
abbrev pub set_if : (p : Params) (b : Bool) → is_valid p ≡ b → Option ParamSet
set_if p true valid = Some (record { n = p.n; lg_w = p.lg_w; hp = p.hp; d = p.d; a = p.a; k = p.k; valid = valid })
set_if p false other = None

abbrev pub set_of : Params → Option ParamSet
set_of p = set_if p (is_valid p) refl

-- the set of these numbers, if they are six and a valid record
abbrev pub set_of_numbers : List ℕ → Option ParamSet
set_of_numbers (n ∷ lg_w ∷ hp ∷ d ∷ a ∷ k ∷ []) = set_of (record { n = n; lg_w = lg_w; hp = hp; d = d; a = a; k = k })
set_of_numbers numbers = None

-- the set whose name the text is, or whose numbers it lists
abbrev pub set_told : List ℕ → Option ParamSet
set_told text = if bytes_eq (take 7 text) (codes "custom:") then set_of_numbers (numbers_after 0 (drop 7 text)) else set_named text

-- the set whose label the text is
unfoldable pub set_of_label : List ℕ → Option ParamSet
set_of_label text = option_and_then (λ set. if bytes_eq (label set) text then Some set else None) (set_told text)

-- ---- reading

-- the text is a separator, the number m of at most two digits, and the rest, which begins with no digit
abbrev pub IsAtFront : List ℕ → ℕ → List ℕ → Type 0
IsAtFront text m rest = (m < 100) × (slice_index rest 0 < 48) × ((separator : ℕ) × (text ≡ separator ∷ decimal m ++ rest))
