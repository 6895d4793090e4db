use Rattle.std.proofs.Common.{ℕ, List, take, arith, ap, ◌∙◌}
use Rattle.sha2.specs.Sha256.{digest_bytes}
use Rattle.slh_lanes.specs.Lanes.{HasAddress}
use Rattle.slh_lanes.proofs.lane_adrs.set_adrs.Goals as goal

pub returns-clause-set : goal.returns-clause-set
unfolding HasAddress
returns-clause-set c = ap (λ (ws : List ℕ). take 22 (digest_bytes ws 6)) (c.put_words.ensures.set ∙ c.first_lane.ensures) ∙ c.adrs_lanes.ensures 0 (omega arith)

pub returns-clause-others : goal.returns-clause-others
unfolding HasAddress
returns-clause-others c = λ i a other held. ap (λ (ws : List ℕ). take 22 (digest_bytes ws 6)) (c.put_words.ensures.others i other) ∙ held
