-- The levels by which C has the trees of a set cut (ours).
use Rattle.std.specs.Prelude.{◌≡◌, ℕ, ◌&&◌, nat_le, Bool, true, false, Option, None, Some, IsSomeAnd}
use Rattle.std.proofs.Common.{refl}
use Rattle.std.proofs.lemmas.Bool.{leb-true, and_parts}
use Rattle.slh_params.specs.ParamSet.{params}
use Rattle.slh_params.specs.declared.param_set.ParamSet.{ParamSet}
use Rattle.slh_jobs.specs.declared.levels.Levels.{Levels}
use Rattle.slh_c.specs.Numbers.{InSet}

-- levels are at most 8, and at most the heights of the trees
abbrev pub are_valid : ParamSet → ℕ → ℕ → Bool
are_valid set xmss fors = nat_le xmss (params set).hp && (nat_le xmss 8 && (nat_le fors (params set).a && nat_le fors 8))

-- the trees of the set cut by these levels, if they are valid
unfoldable pub levels_where : (set : ParamSet) (xmss fors : ℕ) (valid : Bool) → are_valid set xmss fors ≡ valid → Option Levels
levels_where set xmss fors true valid =
    let first = and_parts (nat_le xmss (params set).hp) _ valid in
    let second = and_parts (nat_le xmss 8) _ first.1 in
    let third = and_parts (nat_le fors (params set).a) (nat_le fors 8) second.1 in
    Some (record {
      set = set;
      xmss = xmss;
      fors = fors;
      xmss_high = leb-true xmss (params set).hp first.0;
      xmss_few = leb-true xmss 8 second.0;
      fors_high = leb-true fors (params set).a third.0;
      fors_few = leb-true fors 8 third.1;
    })
levels_where set xmss fors false valid = None

unfoldable pub levels_of : ParamSet → ℕ → ℕ → Option Levels
levels_of set xmss fors = levels_where set xmss fors (are_valid set xmss fors) refl

-- a number is a set's, and the levels are valid, of which this is so
abbrev pub WithLevels : ℕ → ℕ → ℕ → (Levels → Type 0) → Type 0
WithLevels set xmss fors P = InSet set (λ s. IsSomeAnd (levels_of s xmss fors) P)
