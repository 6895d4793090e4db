-- The options on how trees are cut for the workers.
use Rattle.std.specs.Prelude.{◌≡◌, ◌⊎◌, ◌==◌, ◌&&◌, ℕ, nat_lt, nat_le, Bool, if◌then◌else◌, List, [], ◌∷◌, length, Option, Some, None, option_map}
use Rattle.std.specs.Char.{is_ascii_digit}
use Rattle.std.specs.List.{list_all, slice_split}
use Rattle.std.specs.Option.{option_and_then}
use Rattle.std.specs.Str.Parse.{digits_value}
use Rattle.clap.specs.Words.{Text}
use Rattle.slh_subtrees.specs.CutFaults.{cut_fault, cut_points}
use Rattle.slh_subtrees.specs.CutTrees.{CutTrees}
use Rattle.slh_subtrees.specs.declared.cuts.Cuts.{Cuts}
use Rattle.slh_subtrees.specs.declared.cuts.Cuts.TheVariants.{Levels, Points}
use Rattle.slh_subtrees.specs.declared.fault.CutFault.{CutFault}
use Rattle.slh_params.specs.ParamSet.{params}
use Rattle.slh_params.specs.declared.param_set.ParamSet.{ParamSet}
use Rattle.slh_tool.specs.Requests.{CutOptions, WorkOptions}
use Rattle.slh_tool.specs.declared.fault.Fault.{Fault}
use Rattle.slh_tool.specs.declared.fault.Fault.TheVariants.{BadCutting, BadOption}

-- 1 to 9 decimal digits
abbrev pub is_number : Text → Bool
is_number text = nat_lt 0 (length text) && (nat_le (length text) 9 && list_all is_ascii_digit text)

-- the number that they write
unfoldable pub number_in : Text → Option ℕ
number_in text = (if is_number text then Some (digits_value 10 text) else None)

abbrev pub numbers_in : List Text → Option (List ℕ)
numbers_in [] = Some []
numbers_in (text ∷ rest) = option_and_then (λ n. option_map (λ ns. n ∷ ns) (numbers_in rest)) (number_in text)

-- the parts of a list, which has commas between them
abbrev pub parts_of : Text → List Text
parts_of text = slice_split (λ b. b == 44) text

-- the cut points that a list gives: at most 256 numbers, and no list is without a part
unfoldable pub points_in : Text → Option (List ℕ)
points_in text = (if nat_le (length (parts_of text)) 256 then numbers_in (parts_of text) else None)

-- the cut points that an option gives, if it is given
unfoldable pub points_of : Option Text → Option (Option (List ℕ))
points_of None = Some None
points_of (Some text) = option_map (λ points. Some points) (points_in text)

-- the options on one kind of tree ask for these cuts: the cut points if there is a list, and else the levels
abbrev pub AreCuts : CutOptions → Cuts → Type 0
AreCuts options (Levels level) = (points_of options.points ≡ Some None) × (level ≡ options.levels)
AreCuts options (Points points) = points_of options.points ≡ Some (Some points.now)

-- the options ask for this cutting of the set's trees, which is valid
pub record IsCutting (options : WorkOptions) (set : ParamSet) (cutting : CutTrees) : Type 0 where
  pub xmss : Cuts
  pub fors : Cuts
  pub xmss_asked : AreCuts options.xmss xmss
  pub fors_asked : AreCuts options.fors fors
  pub in_rule : cut_fault (params set) xmss fors ≡ None
  pub points : cutting ≡ record { set = set; xmss = cut_points (params set).hp xmss; fors = cut_points (params set).a fors }

abbrev pub HasCutting : WorkOptions → ParamSet → Type 0
HasCutting options set = (cutting : CutTrees) × IsCutting options set cutting

-- the options ask for a cutting of the set's trees that is invalid
abbrev pub IsOutOfRule : WorkOptions → ParamSet → Type 0
IsOutOfRule options set = (xmss : Cuts) × ((fors : Cuts) × AreCuts options.xmss xmss × AreCuts options.fors fors
    × ((fault : CutFault) × (cut_fault (params set) xmss fors ≡ Some fault)))

-- why they give no cutting: a list is not a list of cut points, or the cutting is invalid
abbrev pub RefusesCutting : WorkOptions → ParamSet → Fault → Type 0
RefusesCutting options set BadOption = (points_of options.xmss.points ≡ None) ⊎ (points_of options.fors.points ≡ None)
RefusesCutting options set BadCutting = IsOutOfRule options set
RefusesCutting options set fault = ⊥
