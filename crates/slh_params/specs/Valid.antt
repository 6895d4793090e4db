-- Which parameter records are valid: ours. The bounds have the standard's six sets, and hold the index of a tree within
-- 64 bits. They say nothing of security.
use Rattle.std.specs.Prelude.{ℕ, ◌-◌, ◌*◌, ◌==◌, ◌&&◌, ◌||◌, nat_le, Bool, cond, IsTrue, List, Option, Some, None, codes}
use Rattle.slh_params.specs.Params.{Params}

-- the bounds of each member
abbrev pub n_fits : Params → Bool
n_fits p = p.n == 16 || p.n == 24 || p.n == 32

abbrev pub lg_w_fits : Params → Bool
lg_w_fits p = p.lg_w == 2 || p.lg_w == 4 || p.lg_w == 8

abbrev pub hp_fits : Params → Bool
hp_fits p = nat_le 1 p.hp && nat_le p.hp 12

abbrev pub d_fits : Params → Bool
d_fits p = nat_le 1 p.d && nat_le (p.hp * (p.d - 1)) 64

abbrev pub a_fits : Params → Bool
a_fits p = nat_le 1 p.a && nat_le p.a 14

abbrev pub k_fits : Params → Bool
k_fits p = nat_le 1 p.k && nat_le p.k 64

-- the record is valid
abbrev pub is_valid : Params → Bool
is_valid p = n_fits p && lg_w_fits p && hp_fits p && d_fits p && a_fits p && k_fits p

abbrev pub IsValidRecord : Params → Type 0
IsValidRecord p = IsTrue (is_valid p)

-- the name of the first member that is invalid
unfoldable pub first_bad : Params → Option (List ℕ)
first_bad p =
    cond (n_fits p) (cond (lg_w_fits p) (cond (hp_fits p) (cond (d_fits p) (cond (a_fits p) (cond (k_fits p) None
    (Some (codes "k"))) (Some (codes "a"))) (Some (codes "d"))) (Some (codes "hp"))) (Some (codes "lg_w"))) (Some (codes "n"))
