use Rattle.std.proofs.Common.{◌≡◌, ℕ, List, ◌++◌, slice_index, arith, sym, add-one, append_assoc, w32}
use Rattle.std.specs.Int.{to_be_bytes}
use Rattle.std.proofs.lemmas.List.{append-nil}
use Rattle.sha2.specs.Sha256.{digest_bytes}
use Rattle.slh_lanes.specs.Columns.{column}
use Rattle.slh_lanes.proofs.Columns.{column_at}
use Rattle.slh_lanes.proofs.short_stream.ShortStream.absorb.Goals as goal

pub words-init : goal.words-init
unfolding digest_bytes
words-init c j lane = λ m held. rw (append-nil m) held

pub words-preserved : goal.words-preserved
unfolding digest_bytes
words-preserved c j lane = λ m held.
    let ws : List ℕ = column j c.args.nodes.now in
    let k : ℕ = c.words.k in
    let b : List ℕ = digest_bytes ws k in
    rw (add-one k, sym (append_assoc m b (to_be_bytes w32 (slice_index ws k))), column_at j c.args.nodes.now k) (c.push.ensures j lane (m ++ b) (c.words.invariant j lane m held))

pub returns : goal.returns
returns c j lane = λ m held.
    let done : c.words.k ≡ c.args.count = omega arith in
    rw done at (c.words.invariant j lane m held)
