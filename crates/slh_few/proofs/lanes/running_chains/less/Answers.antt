use Rattle.std.proofs.Common.{◌≡◌, ℕ, ◌+◌, ◌-◌, ◌%◌, ◌^◌, slice_index, Fits, w32, ◌∙◌, arith}
use Rattle.std.proofs.lemmas.Simd.{Each1-get_or}
use Rattle.slh_few.proofs.RunningChains.{with_number}
use Rattle.slh_few.proofs.lanes.running_chains.less.Goals as goal

pub returns : goal.returns
returns c = λ j lane.
    let sub : ℕ → ℕ → ℕ = λ a b. (a + (2 ^ 32 - b)) % 2 ^ 32 in
    let small = Each1-get_or (Fits w32) c.args.words j 0 (omega (arith, lane, c.fits-words.0)) c.fits-words.1 in
    let fits : sub (slice_index c.args.words j) c.args.number ≡ slice_index c.args.words j - c.args.number = omega (arith, small.fits, c.requires j lane) in
    with_number sub c.args.words c.args.number c.fits-words.0 j lane ∙ fits
