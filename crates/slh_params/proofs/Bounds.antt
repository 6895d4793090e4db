-- What holds of the numbers of every valid record: the bounds that lengths, counts and indices keep.
use Rattle.std.proofs.Common.{◌≡◌, ℕ, zero, suc, ◌+◌, ◌-◌, ◌*◌, ◌^◌, ◌<◌, ◌≤◌, ◌⊎◌, inl, inr, Bool, true, false, ◌&&◌, ◌||◌, ◌==◌, nat_le, IsTrue, refl, lit≤, arith, ap, sym}
use Rattle.std.proofs.Math.Nat.{mul-le-mul, mul-le-mul_right, add_assoc, pow-le-pow_right}
use Rattle.std.proofs.lemmas.Nat.{pow_pos}
use native.Mathlib.Numerals.{unary_clauses}
use Rattle.slh_params.specs.declared.param_set.ParamSet.{ParamSet}
use Rattle.slh_params.specs.ParamSet.{params}
use Rattle.slh_params.specs.Params.{Params, h, m, w, md_len, tree_len, leaf_len, len, len1, len2, sig_len}
use Rattle.slh_params.specs.Valid.{IsValidRecord, n_fits, lg_w_fits, hp_fits, d_fits, a_fits}

-- what the parts of a test say
and_left : (b c : Bool) → IsTrue (b && c) → IsTrue b
and_left true c h = refl
and_left false c h = h

and_right : (b c : Bool) → IsTrue (b && c) → IsTrue c
and_right true c h = h
and_right false c h = absurd cc

le_of_test : {x y : ℕ} → IsTrue (nat_le x y) → x ≤ y
le_of_test h = grind (arith, h)

one_of : (x a b c : ℕ) → IsTrue (x == a || x == b || x == c) → (x ≡ a) ⊎ (x ≡ b) ⊎ (x ≡ c)
one_of x a b c h = grind (arith, h)

-- the record of a set is valid
pub valid : (s : ParamSet) → IsValidRecord (params s)
unfolding params
valid s = s.valid

to_a : (s : ParamSet) → IsTrue (n_fits (params s) && lg_w_fits (params s) && hp_fits (params s) && d_fits (params s) && a_fits (params s))
to_a s = and_left _ _ (valid s)

to_d : (s : ParamSet) → IsTrue (n_fits (params s) && lg_w_fits (params s) && hp_fits (params s) && d_fits (params s))
to_d s = and_left _ _ (to_a s)

to_hp : (s : ParamSet) → IsTrue (n_fits (params s) && lg_w_fits (params s) && hp_fits (params s))
to_hp s = and_left _ _ (to_d s)

to_lg_w : (s : ParamSet) → IsTrue (n_fits (params s) && lg_w_fits (params s))
to_lg_w s = and_left _ _ (to_hp s)

pub n_cases : (s : ParamSet) → ((params s).n ≡ 16) ⊎ ((params s).n ≡ 24) ⊎ ((params s).n ≡ 32)
n_cases s = one_of (params s).n 16 24 32 (and_left _ _ (to_lg_w s))

pub lg_w_cases : (s : ParamSet) → ((params s).lg_w ≡ 2) ⊎ ((params s).lg_w ≡ 4) ⊎ ((params s).lg_w ≡ 8)
lg_w_cases s = one_of (params s).lg_w 2 4 8 (and_right _ _ (to_lg_w s))

pub n_low : (s : ParamSet) → 16 ≤ (params s).n
n_low s = elim (n_cases s) [ inl e ↦ omega (arith, e) | inr (inl e) ↦ omega (arith, e) | inr (inr e) ↦ omega (arith, e) ]

pub n_high : (s : ParamSet) → (params s).n ≤ 32
n_high s = elim (n_cases s) [ inl e ↦ omega (arith, e) | inr (inl e) ↦ omega (arith, e) | inr (inr e) ↦ omega (arith, e) ]

pub hp_low : (s : ParamSet) → 1 ≤ (params s).hp
hp_low s = le_of_test (and_left _ _ (and_right _ _ (to_hp s)))

pub hp_high : (s : ParamSet) → (params s).hp ≤ 12
hp_high s = le_of_test (and_right _ _ (and_right _ _ (to_hp s)))

pub d_low : (s : ParamSet) → 1 ≤ (params s).d
d_low s = le_of_test (and_left _ _ (and_right _ _ (to_d s)))

pub below_top_high : (s : ParamSet) → (params s).hp * ((params s).d - 1) ≤ 64
below_top_high s = le_of_test (and_right _ _ (and_right _ _ (to_d s)))

-- fewer layers than 66, since each is at least one level high
pub d_high : (s : ParamSet) → (params s).d ≤ 65
d_high s =
    let up : 1 * ((params s).d - 1) ≤ (params s).hp * ((params s).d - 1) = mul-le-mul_right ((params s).d - 1) (hp_low s) in
    omega (arith, up, below_top_high s)

pub a_low : (s : ParamSet) → 1 ≤ (params s).a
a_low s = le_of_test (and_left _ _ (and_right _ _ (to_a s)))

pub a_high : (s : ParamSet) → (params s).a ≤ 14
a_high s = le_of_test (and_right _ _ (and_right _ _ (to_a s)))

pub k_low : (s : ParamSet) → 1 ≤ (params s).k
k_low s = le_of_test (and_left _ _ (and_right _ _ (valid s)))

pub k_high : (s : ParamSet) → (params s).k ≤ 64
k_high s = le_of_test (and_right _ _ (and_right _ _ (valid s)))

-- a product by d is one by d - 1 and one more
below_top : (x d : ℕ) → 1 ≤ d → x * d ≡ x * (d - 1) + x
below_top x zero some = absurd (omega (arith, some))
below_top x (suc d) some = simp unary_clauses refl

-- the levels below the top tree
pub h_below_top : (s : ParamSet) → h (params s) - (params s).hp ≡ (params s).hp * ((params s).d - 1)
h_below_top s = omega (arith, below_top (params s).hp (params s).d (d_low s))

pub h_below_top_high : (s : ParamSet) → h (params s) - (params s).hp ≤ 64
h_below_top_high s = omega (arith, h_below_top s, below_top_high s)

pub h_high : (s : ParamSet) → h (params s) ≤ 76
h_high s = omega (arith, below_top (params s).hp (params s).d (d_low s), below_top_high s, hp_high s)

pub hp_at_most_h : (s : ParamSet) → (params s).hp ≤ h (params s)
hp_at_most_h s = omega (arith, below_top (params s).hp (params s).d (d_low s))

-- the leaves of an XMSS tree
pub leaves_low : (s : ParamSet) → 1 ≤ 2 ^ (params s).hp
leaves_low s = pow_pos (params s).hp

pub leaves_high : (s : ParamSet) → 2 ^ (params s).hp ≤ 4096
leaves_high s = pow-le-pow_right {n = 2} (lit≤ tt) (hp_high s)

pub fors_bits_high : (s : ParamSet) → (params s).k * (params s).a ≤ 896
fors_bits_high s = mul-le-mul (k_high s) (a_high s)

pub md_len_high : (s : ParamSet) → md_len (params s) ≤ 112
md_len_high s = omega (arith, fors_bits_high s)

pub tree_len_high : (s : ParamSet) → tree_len (params s) ≤ 8
tree_len_high s = omega (arith, h_below_top_high s)

pub leaf_len_high : (s : ParamSet) → leaf_len (params s) ≤ 2
leaf_len_high s = omega (arith, hp_high s)

pub m_high : (s : ParamSet) → m (params s) ≤ 122
m_high s = omega (arith, md_len_high s, tree_len_high s, leaf_len_high s)

pub lg_w_low : (s : ParamSet) → 2 ≤ (params s).lg_w
lg_w_low s = elim (lg_w_cases s) [ inl e ↦ omega (arith, e) | inr (inl e) ↦ omega (arith, e) | inr (inr e) ↦ omega (arith, e) ]

pub lg_w_high : (s : ParamSet) → (params s).lg_w ≤ 8
lg_w_high s = elim (lg_w_cases s) [ inl e ↦ omega (arith, e) | inr (inl e) ↦ omega (arith, e) | inr (inr e) ↦ omega (arith, e) ]

pub w_low : (s : ParamSet) → 4 ≤ w (params s)
w_low s = elim (lg_w_cases s) [ inl e ↦ rw e (lit≤ tt) | inr (inl e) ↦ rw e (lit≤ tt) | inr (inr e) ↦ rw e (lit≤ tt) ]

pub w_high : (s : ParamSet) → w (params s) ≤ 256
w_high s = elim (lg_w_cases s) [ inl e ↦ rw e (lit≤ tt) | inr (inl e) ↦ rw e (lit≤ tt) | inr (inr e) ↦ rw e (lit≤ tt) ]

-- the digits fill the message's bits exactly
pub len1_exact : (s : ParamSet) → len1 (params s) * (params s).lg_w ≡ 8 * (params s).n
len1_exact s = elim (lg_w_cases s) [ inl e ↦ rw e (omega arith) | inr (inl e) ↦ rw e (omega arith) | inr (inr e) ↦ rw e (omega arith) ]

pub len1_high : (s : ParamSet) → len1 (params s) ≤ 128
len1_high s = elim (lg_w_cases s) [ inl e ↦ rw e (omega (arith, n_high s)) | inr (inl e) ↦ rw e (omega (arith, n_high s)) | inr (inr e) ↦ rw e (omega (arith, n_high s)) ]

pub len1_low : (s : ParamSet) → 16 ≤ len1 (params s)
len1_low s = elim (lg_w_cases s) [ inl e ↦ rw e (omega (arith, n_low s)) | inr (inl e) ↦ rw e (omega (arith, n_low s)) | inr (inr e) ↦ rw e (omega (arith, n_low s)) ]

-- the chains follow from n and lg_w alone
len_of : ℕ → ℕ → ℕ
len_of n lg_w = len (record { n = n; lg_w = lg_w; hp = 1; d = 1; a = 1; k = 1 })

len_is : (p : Params) → len p ≡ len_of p.n p.lg_w
unfolding len len_of
len_is p = refl

-- each length of a key that the bounds allow
len_of_high : (n lg_w : ℕ) → (n ≡ 16) ⊎ (n ≡ 24) ⊎ (n ≡ 32) → (lg_w ≡ 2) ⊎ (lg_w ≡ 4) ⊎ (lg_w ≡ 8) → len_of n lg_w ≤ 133
unfolding len len_of
len_of_high n lg_w (inl e) (inl f) = rw (e, f) (lit≤ tt)
len_of_high n lg_w (inl e) (inr (inl f)) = rw (e, f) (lit≤ tt)
len_of_high n lg_w (inl e) (inr (inr f)) = rw (e, f) (lit≤ tt)
len_of_high n lg_w (inr (inl e)) (inl f) = rw (e, f) (lit≤ tt)
len_of_high n lg_w (inr (inl e)) (inr (inl f)) = rw (e, f) (lit≤ tt)
len_of_high n lg_w (inr (inl e)) (inr (inr f)) = rw (e, f) (lit≤ tt)
len_of_high n lg_w (inr (inr e)) (inl f) = rw (e, f) (lit≤ tt)
len_of_high n lg_w (inr (inr e)) (inr (inl f)) = rw (e, f) (lit≤ tt)
len_of_high n lg_w (inr (inr e)) (inr (inr f)) = rw (e, f) (lit≤ tt)

pub len_high : (s : ParamSet) → len (params s) ≤ 133
len_high s = rw (len_is (params s)) (len_of_high (params s).n (params s).lg_w (n_cases s) (lg_w_cases s))

pub len_sum_high : (s : ParamSet) → len1 (params s) + len2 (params s) ≤ 133
unfolding len
len_sum_high s = len_high s

pub d_len_high : (s : ParamSet) → (params s).d * len (params s) ≤ 8645
d_len_high s = mul-le-mul (d_high s) (len_high s)

pub fors_parts_high : (s : ParamSet) → (params s).k * (1 + (params s).a) ≤ 960
fors_parts_high s = mul-le-mul {m₂ = 15} (k_high s) (omega (arith, a_high s))

-- the nodes of a signature
pub nodes_high : (s : ParamSet) → 1 + (params s).k * (1 + (params s).a) + h (params s) + (params s).d * len (params s) ≤ 9682
nodes_high s = omega (arith, fors_parts_high s, h_high s, d_len_high s)

pub sig_len_high : (s : ParamSet) → sig_len (params s) < 320000
unfolding sig_len
sig_len_high s =
    let up : (1 + (params s).k * (1 + (params s).a) + h (params s) + (params s).d * len (params s)) * (params s).n ≤ 9682 * 32 = mul-le-mul (nodes_high s) (n_high s) in
    omega (arith, up)

-- the length as the code adds it up
pub sig_len_is : (s : ParamSet) → (1 + (params s).k * (1 + (params s).a) + (h (params s) + (params s).d * len (params s))) * (params s).n ≡ sig_len (params s)
unfolding sig_len
sig_len_is s = ap (λ x. x * (params s).n) (sym (add_assoc (1 + (params s).k * (1 + (params s).a)) (h (params s)) ((params s).d * len (params s))))

-- the bounds of all
pub ruleset bounds = (n_low, n_high, hp_low, hp_high, d_low, d_high, a_low, a_high, k_low, k_high, h_high, hp_at_most_h, md_len_high, tree_len_high, leaf_len_high, m_high, lg_w_low, lg_w_high, w_low, w_high, len1_low, len1_high, len_high, sig_len_high)

-- those of a message digest and what it is cut into
pub ruleset digest_bounds = (m_high, tree_len_high, leaf_len_high, hp_at_most_h, h_below_top_high, hp_high)

-- those of the layers
pub ruleset layer_bounds = (d_low, d_high)
