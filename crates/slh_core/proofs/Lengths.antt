-- How the parts of a signature lie in it.
use Rattle.std.proofs.Common.{◌≡◌, ℕ, ◌+◌, ◌*◌, ◌≤◌, arith}
use Rattle.slh_params.specs.Params.{Params, sig_len}
use Rattle.slh_few.specs.Xmss.{xmss_sig_len}
use Rattle.slh_core.specs.Signatures.{fors_sig_len}

-- a signature is R, the FORS signature and the hypertree signature
pub parts_of_sig : (p : Params) → p.n + (fors_sig_len p + p.d * xmss_sig_len p) ≡ sig_len p
unfolding sig_len
parts_of_sig p = omega arith

-- R lies in a signature of l bytes
pub r_fits : (p : Params) (n l : ℕ) → n ≡ p.n → l ≡ sig_len p → n ≤ l
r_fits p n l e f = omega (arith, parts_of_sig p)

-- the FORS signature lies in the l bytes that follow R
pub fors_fits : (p : Params) (k l : ℕ) → k ≡ fors_sig_len p → l + p.n ≡ sig_len p → k ≤ l
fors_fits p k l e f = omega (arith, parts_of_sig p)

-- what is left is the hypertree signature
pub tree_fits : (p : Params) (k l t : ℕ) → k ≡ fors_sig_len p → l + p.n ≡ sig_len p → t + k ≡ l → t ≡ p.d * xmss_sig_len p
tree_fits p k l t e f g = omega (arith, parts_of_sig p)
