use Rattle.std.proofs.Common.{◌≡◌, ℕ, ◌+◌, ◌%◌, slice_index, refl, sym, ap, ◌∙◌, arith}
use Rattle.sha2.specs.Sha512.{rounds, round_constants, schedule}
use Rattle.slh_lanes.specs.Columns.{column}
use Rattle.slh_lanes.specs.Laws512 as laws
use Rattle.slh_lanes.specs.Pairs.{eight}
use Rattle.slh_lanes.proofs.single_long_block.first_pair.Goals as goal

pub returns : goal.returns
returns c = λ b h e0 e1 held.
    let t : ℕ = c.args.t in
    let v = c.args.v in
    let word = slice_index (column 0 c.args.block.now) in
    let low : t % 16 ≡ t = omega arith in
    let high : (t + 1) % 16 ≡ t + 1 = omega arith in
    let x0 = e0 ∙ sym (c.pair.ensures.first ∙ ap word low) in
    let x1 = e1 ∙ sym (c.pair.ensures.second ∙ ap word high) in
    let r1 = laws.first_rounds b h (eight v.ab v.cd v.ef v.gh) t (slice_index round_constants t) _ _ (omega arith) held refl x0 refl in
    let r2 = laws.first_rounds b h _ (t + 1) (slice_index round_constants (t + 1)) _ _ (omega arith) r1 refl x1 c.pair_rounds.ensures in
    let same : t + 1 + 1 ≡ t + 2 = omega arith in
    r2 ∙ ap (λ (k : ℕ). rounds h (schedule b 64) k) same
