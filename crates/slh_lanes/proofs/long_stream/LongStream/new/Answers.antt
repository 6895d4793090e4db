use Rattle.std.proofs.Common.{◌≡◌, ℕ, List, ◌++◌, length, take, drop, arith, sym, ap, ◌∙◌, length-append}
use Rattle.std.proofs.Math.Seq.{take-append_seam, drop-append_seam}
use Rattle.sha2.specs.Sha512.{compress, hash_after, initial_hash_512}
use Rattle.slh_params.specs.Address.{compressed}
use Rattle.slh_lanes.specs.Columns.{column}
use Rattle.slh_lanes.specs.Streams.{HoldsLongAt, half_on, long_vectors, vectors}
use Rattle.slh_lanes.proofs.Streams.{half_front}
use Rattle.slh_lanes.proofs.long_stream.LongStream.new.Goals as goal

pub returns : goal.returns
unfolding HoldsLongAt hash_after
returns c j lane = λ a held s long state.
    let x : List ℕ = compressed a in
    let ws : List ℕ = column j (vectors c.long_address_words.result) in
    let all : length (s ++ x) ≡ 150 = omega (arith, length-append s x, long) in
    let first : take 128 (s ++ x) ≡ s = rw long at (take-append_seam s x) in
    let second : drop 128 (s ++ x) ≡ x = rw long at (drop-append_seam s x) in
    let hash : column j (long_vectors c.wrapped.result) ≡ compress initial_hash_512 (take 128 (s ++ x)) =
    ap (column j) c.wrapped.ensures ∙ state ∙ ap (compress initial_hash_512) (sym first) in
    let bytes : take 22 (half_on ws 33) ≡ drop 128 (s ++ x) =
    half_front ws 6 33 (omega arith) (omega arith) ∙ c.long_address_words.ensures j lane a held ∙ sym second in
    (omega (arith, all), omega (arith, all), rw all (hash, bytes))
