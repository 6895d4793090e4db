-- What the loop keeps: the tags so far are those in the lanes.
use Rattle.std.proofs.Common.{◌≡◌, ℕ, ◌+◌, ◌<◌}
use Rattle.slh_lanes.specs.Lanes.{value_at}
use Rattle.slh_jobs.specs.Ranges.{tag_given}
use Rattle.slh_jobs.proofs.answer_bytes.have_tags.Given as goal

abbrev pub invariant-loop-j : goal.invariant-loop-j
invariant-loop-j l = (i : ℕ) → i < l.j → value_at l.values i 16 ≡ tag_given l.given.shape l.given.bytes.now (l.first + (l.r + i))
