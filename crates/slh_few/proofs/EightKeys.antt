-- Eight keys beside one another: the one among them, their chains run on, and that T over the ends of these is what
-- the keys are.
use Rattle.std.proofs.Common.{◌≡◌, ℕ, ◌+◌, ◌-◌, ◌%◌, ◌^◌, ◌<◌, List, [], ◌++◌, length, ap, subst, sym, ◌∙◌, arith}
use Rattle.arrayvec.specs.ArrayVec.{ArrayVec}
use Rattle.slh_params.specs.Address.{Address, WOTS_HASH, WOTS_PK}
use Rattle.slh_params.specs.Params.{Params, len}
use Rattle.slh_params.specs.ParamSet.{params}
use Rattle.slh_params.specs.declared.param_set.ParamSet.{ParamSet}
use Rattle.slh_hash.specs.Hash.{T}
use Rattle.slh_lanes.specs.Lanes.{HasAddress, value_at}
use Rattle.slh_lanes.specs.LaneStreams.{HasAbsorbedAt}
use Rattle.slh_lanes.specs.Steps.{steps}
use Rattle.slh_lanes.specs.declared.lane_stream.LaneStream.{LaneStream}
use Rattle.slh_few.specs.KeyStreams.{AreAfter, AreEnds, HaveAbsorbedEnds, key_at}
use Rattle.slh_few.specs.LaneValues.{HasValues}
use Rattle.slh_few.specs.Chunks.{end_to_end}
use Rattle.slh_few.specs.Wots.{wots_address, chain, secret, whole_chain, wots_pk}
use Rattle.slh_few.specs.Xmss.{AreKeysFrom, place}
use Rattle.slh_few.specs.declared.place.Place.{Place}
use Rattle.slh_few.proofs.ChainLanes.{chain-steps}
use Rattle.slh_few.proofs.Chains.{chain-on}
use Rattle.slh_few.proofs.Ends.{end_to_end-more, end_to_end-none}
use Rattle.slh_few.proofs.WotsLaw.{ends_few}

-- a place, counted from the first of its eight
pub among_eight : (at first : Place) → first ≡ place at.layer at.tree (at.pair - at.pair % 8)
    → place first.layer first.tree (first.pair + at.pair % 8) ≡ at
among_eight at first is =
    let same : at.pair - at.pair % 8 + at.pair % 8 ≡ at.pair = omega arith in
    ap (λ (a : Place). place a.layer a.tree (a.pair + at.pair % 8)) is ∙ ap (place at.layer at.tree) same

-- chains that are run on have taken so many steps more
pub run_on : (p : Params) (sk pk : List ℕ) (at : Place) (c start from count next : ℕ) (adrs old new : List (List ℕ))
    → from ≡ start → start + count ≡ next
    → ((j : ℕ) → j < 8 → HasAddress adrs j (wots_address (key_at at j) WOTS_HASH c 0))
    → ((j : ℕ) → j < 8 → (a : Address) → HasAddress adrs j a → value_at new j p.n ≡ steps p pk a (value_at old j p.n) from count)
    → AreAfter p sk pk at c start old → AreAfter p sk pk at c next new
run_on p sk pk at c start from count next adrs old new is all held run before = λ j lane.
    let key = key_at at j in
    let x = secret p sk pk key c in
    run j lane _ (held j lane) ∙ chain-steps p pk key c (value_at old j p.n) from count
    ∙ (λ i. chain p pk key c (before j lane i) (is i) count) ∙ chain-on p pk key c x start count ∙ ap (λ k. chain p pk key c x 0 k) all

-- where each key's stream has absorbed the ends of all chains, T gives the keys
pub finished_keys : (s : ParamSet) (sk pk : List ℕ) (at : Place) (stream : LaneStream) (ends : List (List ℕ)) (keys : List (ArrayVec ℕ)) (k : ℕ)
    → k ≡ len (params s) → length keys ≡ 8 → HasValues keys ends (params s).n
    → ((p : Params) (pk : List ℕ) (j : ℕ) (a : Address) (x : List ℕ) → j < 8
    → HasAbsorbedAt stream j p pk a x → length x < 2 ^ 28 → value_at ends j p.n ≡ T p pk a x)
    → HaveAbsorbedEnds (params s) sk pk at k stream → AreKeysFrom (params s) sk pk at keys
unfolding wots_pk
finished_keys s sk pk at stream ends keys k all eight taken values absorbed = λ j d below.
    let p = params s in
    let lane : j < 8 = omega (arith, below, eight) in
    let key = place at.layer at.tree (at.pair + j) in
    let few = subst (λ (k : ℕ). length (end_to_end (whole_chain p sk pk key) k) < 2 ^ 28) (sym all) (ends_few s sk pk key) in
    taken j d below ∙ values p pk j _ _ lane (absorbed j lane) few
    ∙ ap (λ (k : ℕ). T p pk (wots_address key WOTS_PK 0 0) (end_to_end (whole_chain p sk pk key) k)) all

-- before any end
pub absorbed_none : (p : Params) (sk pk : List ℕ) (at : Place) (stream : LaneStream) (k : ℕ) → k ≡ 0
    → ((j : ℕ) → j < 8 → HasAbsorbedAt stream j p pk (wots_address (place at.layer at.tree (at.pair + j)) WOTS_PK 0 0) [])
    → HaveAbsorbedEnds p sk pk at k stream
absorbed_none p sk pk at stream k is held = λ j lane.
    let key = place at.layer at.tree (at.pair + j) in
    let f = whole_chain p sk pk key in
    let a : Address = wots_address key WOTS_PK 0 0 in
    subst (λ m. HasAbsorbedAt stream j p pk a m) (sym (ap (end_to_end f) is ∙ end_to_end-none f)) (held j lane)

-- the ends of one chain more
pub absorbed_more : (p : Params) (sk pk : List ℕ) (at : Place) (old new : LaneStream) (x : List (List ℕ)) (k next : ℕ) → next ≡ k + 1
    → ((p : Params) (pk : List ℕ) (j : ℕ) (a : Address) (m : List ℕ) → j < 8
    → HasAbsorbedAt old j p pk a m → HasAbsorbedAt new j p pk a (m ++ value_at x j p.n))
    → AreEnds p sk pk at k x → HaveAbsorbedEnds p sk pk at k old → HaveAbsorbedEnds p sk pk at next new
absorbed_more p sk pk at old new x k next is absorb ends held = λ j lane.
    let key = place at.layer at.tree (at.pair + j) in
    let f = whole_chain p sk pk key in
    let a : Address = wots_address key WOTS_PK 0 0 in
    let more : end_to_end f next ≡ end_to_end f k ++ value_at x j p.n =
    ap (end_to_end f) is ∙ end_to_end-more f k ∙ ap (λ e. end_to_end f k ++ e) (sym (ends j lane)) in
    subst (λ m. HasAbsorbedAt new j p pk a m) (sym more) (absorb p pk j a (end_to_end f k) lane (held j lane))
