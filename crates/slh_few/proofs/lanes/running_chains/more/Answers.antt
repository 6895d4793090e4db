use Rattle.std.proofs.Common.{◌≡◌, ℕ, ◌+◌, ◌%◌, ◌^◌, slice_index, ◌∙◌, arith}
use Rattle.slh_few.proofs.RunningChains.{with_number}
use Rattle.slh_few.proofs.lanes.running_chains.more.Goals as goal

pub returns : goal.returns
returns c = λ j lane.
    let add : ℕ → ℕ → ℕ = λ a b. (a + b) % 2 ^ 32 in
    let fits : add (slice_index c.args.words j) c.args.number ≡ slice_index c.args.words j + c.args.number = omega (arith, c.requires j lane) in
    with_number add c.args.words c.args.number c.fits-words.0 j lane ∙ fits
