-- Chains in lanes, and groups of eight of them.
use Rattle.std.proofs.Common.{◌≡◌, ℕ, zero, suc, ◌+◌, ◌-◌, ◌*◌, ◌<◌, ◌≤◌, min, List, refl, ap, arith}
use Rattle.std.specs.Int.{div_ceil}
use Rattle.slh_params.specs.Params.{Params}
use Rattle.slh_params.specs.Address.{WOTS_HASH}
use Rattle.slh_hash.specs.Hash.{F}
use Rattle.slh_lanes.specs.Steps.{steps}
use Rattle.slh_few.specs.Wots.{chain, wots_address}
use Rattle.slh_few.specs.declared.place.Place.{Place}

-- steps at the addresses of a chain are the chain's
pub chain-steps : (p : Params) (pk : List ℕ) (at : Place) (c : ℕ) (x : List ℕ) (f s : ℕ)
    → steps p pk (wots_address at WOTS_HASH c 0) x f s ≡ chain p pk at c x f s
unfolding steps chain
chain-steps p pk at c x f zero = refl
chain-steps p pk at c x f (suc s) = ap (F p pk (wots_address at WOTS_HASH c (f + s))) (chain-steps p pk at c x f s)

-- ---- groups of eight among so many chains

-- a group's first chain is one of them
pub group_below : (g k e : ℕ) → e ≡ div_ceil k 8 → g < e → 8 * g < k
group_below g k e is lt = omega arith

-- and the chains up to the group's end are those of the next turn
pub group_next : (g k m : ℕ) → 8 * g < k → m ≡ min (k - 8 * g) 8 → 8 * g + m ≡ min (8 * (g + 1)) k
group_next g k m lt is = omega arith

-- after the last group they are all
pub group_all : (g k e : ℕ) → e ≡ div_ceil k 8 → e ≤ g → min (8 * g) k ≡ k
group_all g k e is le = omega arith
