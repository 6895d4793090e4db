-- What the loop keeps: the nodes so far are copied, and have their tags.
use Rattle.std.proofs.Common.{◌≡◌, ℕ, ◌+◌, ◌*◌, ◌<◌, List, take}
use Rattle.slh_params.specs.Params.{Params}
use Rattle.slh_hash.specs.Stream.{IsKeyed}
use Rattle.slh_few.specs.Chunks.{end_to_end}
use Rattle.slh_jobs.specs.Ranges.{node_given, tag_given}
use Rattle.slh_jobs.specs.Tags.{node_tag}
use Rattle.slh_jobs.proofs.answer_bytes.judged_alone.Given as goal

abbrev pub invariant-loop-r : goal.invariant-loop-r
invariant-loop-r v =
    let node : ℕ → List ℕ = λ i. node_given v.given.shape v.given.bytes.now (v.first + i) in
    (take (v.r * v.given.shape.n) v.copies ≡ end_to_end node v.r)
    × ((p : Params) (key front : List ℕ) → IsKeyed v.keyed p key front
    → (i : ℕ) → i < v.r → node_tag p key front (v.job + i) (node i) ≡ tag_given v.given.shape v.given.bytes.now (v.first + i))
