-- A record is valid exactly where no member of it is invalid.
use Rattle.std.proofs.Common.{◌≡◌, ℕ, Bool, true, false, ◌&&◌, cond, IsTrue, List, Option, Some, None, codes, refl, arith}
use Rattle.slh_params.specs.Params.{Params}
use Rattle.slh_params.specs.Valid.{IsValidRecord, first_bad, n_fits, lg_w_fits, hp_fits, d_fits, a_fits, k_fits}

-- the text that stands with the first of six tests that fails
abbrev first_false : Bool → Bool → Bool → Bool → Bool → Bool → Option (List ℕ)
first_false n lg_w hp d a k =
    cond n (cond lg_w (cond hp (cond d (cond a (cond k None
    (Some (codes "k"))) (Some (codes "a"))) (Some (codes "d"))) (Some (codes "hp"))) (Some (codes "lg_w"))) (Some (codes "n"))

all_true : (n lg_w hp d a k : Bool) → first_false n lg_w hp d a k ≡ None → IsTrue (n && lg_w && hp && d && a && k)
all_true false lg_w hp d a k e = absurd cc
all_true true false hp d a k e = absurd cc
all_true true true false d a k e = absurd cc
all_true true true true false a k e = absurd cc
all_true true true true true false k e = absurd cc
all_true true true true true true false e = absurd cc
all_true true true true true true true e = refl

some_false : (n lg_w hp d a k : Bool) (text : List ℕ) → first_false n lg_w hp d a k ≡ Some text → IsTrue (n && lg_w && hp && d && a && k) → ⊥
some_false true true true true true true text e h = cc
some_false true true true true true false text e h = cc
some_false true true true true false k text e h = grind arith
some_false true true true false a k text e h = grind arith
some_false true true false d a k text e h = grind arith
some_false true false hp d a k text e h = grind arith
some_false false lg_w hp d a k text e h = grind arith

pub valid_of_none : (p : Params) → first_bad p ≡ None → IsValidRecord p
unfolding first_bad
valid_of_none p = all_true (n_fits p) (lg_w_fits p) (hp_fits p) (d_fits p) (a_fits p) (k_fits p)

pub refused_of_some : (p : Params) (text : List ℕ) → first_bad p ≡ Some text → IsValidRecord p → ⊥
unfolding first_bad
refused_of_some p = some_false (n_fits p) (lg_w_fits p) (hp_fits p) (d_fits p) (a_fits p) (k_fits p)
