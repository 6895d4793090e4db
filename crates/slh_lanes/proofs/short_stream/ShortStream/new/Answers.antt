use Rattle.std.proofs.Common.{◌≡◌, ℕ, List, ◌++◌, length, take, drop, arith, sym, ap, ◌∙◌, length-append}
use Rattle.std.proofs.Math.Seq.{take-append_seam, drop-append_seam}
use Rattle.sha2.specs.Sha256.{compress, hash_after, initial_hash_256}
use Rattle.slh_params.specs.Address.{compressed}
use Rattle.slh_lanes.specs.Columns.{column}
use Rattle.slh_lanes.specs.Streams.{HoldsAt, half_on, vectors}
use Rattle.slh_lanes.proofs.Streams.{half_front}
use Rattle.slh_lanes.proofs.short_stream.ShortStream.new.Goals as goal

pub returns : goal.returns
unfolding HoldsAt hash_after
returns c j lane = λ a held s long state.
    let x : List ℕ = compressed a in
    let ws : List ℕ = column j (vectors c.address_words.result) in
    let all : length (s ++ x) ≡ 86 = omega (arith, length-append s x, long) in
    let first : take 64 (s ++ x) ≡ s = rw long at (take-append_seam s x) in
    let second : drop 64 (s ++ x) ≡ x = rw long at (drop-append_seam s x) in
    let hash : column j (vectors c.wrapped.result) ≡ compress initial_hash_256 (take 64 (s ++ x)) =
    ap (column j) c.wrapped.ensures ∙ state ∙ ap (compress initial_hash_256) (sym first) in
    let bytes : take 22 (half_on ws 17) ≡ drop 64 (s ++ x) =
    half_front ws 6 17 (omega arith) (omega arith) ∙ c.address_words.ensures j lane a held ∙ sym second in
    (omega (arith, all), omega (arith, all), rw all (hash, bytes))
