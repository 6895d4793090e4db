-- What the loop keeps: the nodes so far are in lanes and copied.
use Rattle.std.proofs.Common.{◌≡◌, ℕ, ◌+◌, ◌*◌, ◌<◌, List, length, take}
use Rattle.slh_lanes.specs.Lanes.{value_at}
use Rattle.slh_few.specs.Chunks.{end_to_end}
use Rattle.slh_jobs.specs.Ranges.{node_given}
use Rattle.slh_jobs.proofs.answer_bytes.copied_group.Given as goal

abbrev pub invariant-loop-j : goal.invariant-loop-j
invariant-loop-j l =
    let node : ℕ → List ℕ = λ i. node_given l.given.shape l.given.bytes.now (l.first + i) in record {
      len : length l.copies ≡ length l.initial.copies;
      lanes : (i : ℕ) → i < l.j → value_at l.nodes i 16 ≡ node (l.r + i);
      copied : take (l.r * 16) l.initial.copies ≡ end_to_end node l.r → take ((l.r + l.j) * 16) l.copies ≡ end_to_end node (l.r + l.j);
    }
