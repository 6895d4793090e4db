use Rattle.std.proofs.Common.{ℕ, List, take, ap, ◌∙◌}
use Rattle.sha2.specs.Sha256.{digest_bytes}
use Rattle.slh_lanes.specs.Lanes.{HasAddress, value_at}
use Rattle.slh_lanes.specs.Steps.{steps}
use Rattle.slh_lanes.proofs.chains.run_part.Goals as goal

pub returns-clause-run : goal.returns-clause-run
unfolding HasAddress value_at
returns-clause-run g c = λ p pk j a n whole lane short held.
    let bytes = λ (l : List ℕ). take p.n (digest_bytes l 8) in
    ap bytes (c.with_eight.ensures.part j lane)
    ∙ c.run-ends.ensures p pk j a n whole lane short (ap (λ (l : List ℕ). take 22 (digest_bytes l 6)) (c.part_of_six-own_adrs.ensures j lane) ∙ held)
    ∙ (λ i. steps p pk a (bytes (c.part_of_eight-own.ensures j lane i)) (c.part-from.ensures j lane i) (c.part-counts.ensures j lane i))
