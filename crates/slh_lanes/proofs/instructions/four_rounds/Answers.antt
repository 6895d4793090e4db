use Rattle.std.proofs.Common.{◌≡◌, ℕ, List, slice_index, ap, ◌∙◌}
use Rattle.slh_lanes.specs.Quads.{sum_round}
use Rattle.slh_lanes.proofs.instructions.four_rounds.Goals as goal

-- the next round, after equal ones
then : (v u next : List ℕ) (x : ℕ) → next ≡ sum_round v x → v ≡ u → next ≡ sum_round u x
then v u next x e held = e ∙ ap (λ (w : List ℕ). sum_round w x) held

pub returns : goal.returns
returns c =
    let x = c.args.x in
    let v1 = then _ _ _ (slice_index x 0) c.sum_round-v1.ensures c.words_of.ensures in
    let v2 = then _ _ _ (slice_index x 1) c.sum_round-v2.ensures v1 in
    let v3 = then _ _ _ (slice_index x 2) c.sum_round-v3.ensures v2 in
    c.state_of.ensures ∙ then _ _ _ (slice_index x 3) c.sum_round.ensures v3
