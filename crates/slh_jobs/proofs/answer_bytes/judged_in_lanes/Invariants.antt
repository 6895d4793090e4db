-- What the loop keeps: the nodes of the groups so far are copied, and have their tags.
use Rattle.std.proofs.Common.{◌≡◌, ℕ, ◌+◌, ◌*◌, min, List, length, take}
use Rattle.slh_params.specs.Params.{Params}
use Rattle.slh_lanes.specs.HmacLanes.{IsBegun}
use Rattle.slh_few.specs.Chunks.{end_to_end}
use Rattle.slh_jobs.specs.Ranges.{node_given}
use Rattle.slh_jobs.specs.AnswerTags.{HaveTags}
use Rattle.slh_jobs.proofs.answer_bytes.judged_in_lanes.Given as goal

abbrev pub invariant-loop-group : goal.invariant-loop-group
invariant-loop-group l =
    let done : ℕ = min (8 * l.group) l.count in
    let node : ℕ → List ℕ = λ i. node_given l.given.shape l.given.bytes.now (l.first + i) in record {
      len : length l.copies ≡ length l.initial.copies;
      copied : take (done * 16) l.copies ≡ end_to_end node done;
      tags : (p : Params) (key front : List ℕ) → p.n ≡ 16 → IsBegun l.lanes key front
          → HaveTags p key front l.given.shape l.given.bytes.now l.job l.first done;
    }
