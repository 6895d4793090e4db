-- Chains: one step, their length, and a chain run in two parts.
use Rattle.std.proofs.Common.{◌≡◌, ℕ, zero, suc, ◌+◌, ◌-◌, ◌≤◌, List, length, refl, ap, ◌∙◌, arith, add-one}
use Rattle.slh_hash.proofs.Lengths.{length-F}
use Rattle.slh_params.specs.Address.{Address, WOTS_HASH}
use Rattle.slh_params.specs.Params.{Params}
use Rattle.slh_hash.specs.Hash.{F}
use Rattle.slh_lanes.specs.Steps.{steps}
use Rattle.slh_few.specs.Wots.{chain, wots_address}
use Rattle.slh_few.specs.declared.place.Place.{Place}

-- a chain's values have n bytes
pub length-chain : (p : Params) (pk : List ℕ) (at : Place) (c : ℕ) (x : List ℕ) (f s : ℕ) → p.n ≤ 32 → length x ≡ p.n → length (chain p pk at c x f s) ≡ p.n
unfolding chain steps
length-chain p pk at c x f zero h e = e
length-chain p pk at c x f (suc s) h e = length-F p pk _ _ h

-- no step
pub chain-start : (p : Params) (pk : List ℕ) (at : Place) (c : ℕ) (x : List ℕ) (f : ℕ) → x ≡ chain p pk at c x f 0
unfolding chain steps
chain-start p pk at c x f = refl

-- one step more, as a program takes it
pub chain-more : (p : Params) (pk : List ℕ) (at : Place) (c : ℕ) (x : List ℕ) (f s : ℕ) (a : Address) (y r : List ℕ)
    → a ≡ wots_address at WOTS_HASH c (f + s) → y ≡ chain p pk at c x f s → r ≡ F p pk a y → r ≡ chain p pk at c x f (s + 1)
unfolding chain steps
chain-more p pk at c x f s a y r ea ey er = er ∙ rw (ea, ey, add-one s) refl

-- a chain run in two parts is the chain
pub chain-split : (p : Params) (pk : List ℕ) (at : Place) (c : ℕ) (x : List ℕ) (f s u : ℕ)
    → chain p pk at c (chain p pk at c x f s) (f + s) u ≡ chain p pk at c x f (s + u)
unfolding chain steps
chain-split p pk at c x f s zero = let e : s + 0 ≡ s = omega arith in rw e refl
chain-split p pk at c x f s (suc u) =
    let e : (f + s) + u ≡ f + (s + u) = omega arith in
    let n : s + suc u ≡ suc (s + u) = omega arith in
    rw n (ap (λ k. F p pk (wots_address at WOTS_HASH c k) (chain p pk at c (chain p pk at c x f s) (f + s) u)) e
    ∙ ap (λ y. F p pk (wots_address at WOTS_HASH c (f + (s + u))) y) (chain-split p pk at c x f s u))

-- a chain run on from its start is the chain, and so it is to its last step
pub chain-on : (p : Params) (pk : List ℕ) (at : Place) (c : ℕ) (x : List ℕ) (f s : ℕ)
    → chain p pk at c (chain p pk at c x 0 f) f s ≡ chain p pk at c x 0 (f + s)
chain-on p pk at c x f s =
    let from : f ≡ 0 + f = omega arith in
    ap (λ k. chain p pk at c (chain p pk at c x 0 f) k s) from ∙ chain-split p pk at c x 0 f s

pub chain-rest : (p : Params) (pk : List ℕ) (at : Place) (c : ℕ) (x : List ℕ) (d last : ℕ) → d ≤ last
    → chain p pk at c (chain p pk at c x 0 d) d (last - d) ≡ chain p pk at c x 0 last
chain-rest p pk at c x d last le =
    let total : d + (last - d) ≡ last = omega (arith, le) in
    chain-on p pk at c x d (last - d) ∙ ap (λ s. chain p pk at c x 0 s) total
