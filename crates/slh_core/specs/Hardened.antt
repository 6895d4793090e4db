-- What the two comparisons of a hardened verdict look at: ours, over FIPS 205, Algorithm 20, lines 1 and 18, and
-- Algorithms 24 and 25, line 1.
use Rattle.std.specs.Prelude.{◌≡◌, ℕ, ◌≤◌, List, length}
use Rattle.slh_params.specs.Params.{sig_len}
use Rattle.slh_params.specs.ParamSet.{params}
use Rattle.slh_core.specs.Keys.{Key, pk_root}

-- a signature that gave this root is valid under a context
abbrev pub Passes : Key → List ℕ → List ℕ → List ℕ → Type 0
Passes pk ctx sig root =
    (length ctx ≤ 255) × ((length sig ≡ sig_len (params pk.set)) × (root ≡ pk_root pk))
