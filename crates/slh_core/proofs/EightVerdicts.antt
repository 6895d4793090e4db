-- Verdicts on eight signatures, for callers of `verify_eight`.
use Rattle.std.proofs.Common.{◌↔◌, ℕ, zero, suc, ◌+◌, ◌*◌, ◌<◌, ◌≤◌, List, [], length, get_or, arith}
use Rattle.std.proofs.lemmas.List.{get_or_default}
use Rattle.std.proofs.lemmas.Nat.{mul-le}
use Rattle.slh_params.specs.Params.{h, len, sig_len}
use Rattle.slh_params.specs.ParamSet.{params}
use Rattle.slh_params.specs.declared.param_set.ParamSet.{ParamSet}
use Rattle.slh_params.proofs.Bounds.{n_low}
use Rattle.slh_core.specs.Keys.{Key}
use Rattle.slh_core.specs.Signatures.{IsValid}

-- what holds at each of eight places
pub at_each_of_eight : (P : ℕ → Type 0) → P 0 → P 1 → P 2 → P 3 → P 4 → P 5 → P 6 → P 7 → (j : ℕ) → j < 8 → P j
at_each_of_eight P a b c d e f g h zero l = a
at_each_of_eight P a b c d e f g h (suc zero) l = b
at_each_of_eight P a b c d e f g h (suc (suc zero)) l = c
at_each_of_eight P a b c d e f g h (suc (suc (suc zero))) l = d
at_each_of_eight P a b c d e f g h (suc (suc (suc (suc zero)))) l = e
at_each_of_eight P a b c d e f g h (suc (suc (suc (suc (suc zero))))) l = f
at_each_of_eight P a b c d e f g h (suc (suc (suc (suc (suc (suc zero)))))) l = g
at_each_of_eight P a b c d e f g h (suc (suc (suc (suc (suc (suc (suc zero))))))) l = h
at_each_of_eight P a b c d e f g h (suc (suc (suc (suc (suc (suc (suc (suc j)))))))) l = absurd (omega (arith, l))

-- a verdict on what was made of the item at a place is one on that item
pub verdict_at : {Y : Type 0} {A B : Type 0} (Q : Y → Type 0) (ys : List Y) (i : ℕ) (d y : Y) → i < length ys
    → (A ↔ B) → (B ↔ Q (get_or ys i d)) → A ↔ Q (get_or ys i y)
verdict_at Q ys i d y l verdict made = rw (get_or_default ys i y d l) (λ a. made.0 (verdict.0 a), λ q. verdict.1 (made.1 q))

sig_len_low : (s : ParamSet) → 1 ≤ sig_len (params s)
unfolding sig_len
sig_len_low s =
    let p = params s in
    let nodes : ℕ = 1 + p.k * (1 + p.a) + h p + p.d * len p in
    let some : 1 * 1 ≤ nodes * p.n = mul-le 1 1 nodes p.n (omega arith) (omega (arith, n_low s)) in
    omega (arith, some)

-- no bytes are no signature
pub no_signature : (pk : Key) (msg : List ℕ) → IsValid pk msg [] → ⊥
no_signature pk msg v = omega (arith, v.len, sig_len_low pk.set)
