use Rattle.std.proofs.Common.{◌≡◌, ℕ, ◌+◌, ◌*◌, ◌/◌, ◌%◌, ◌<◌, List, ◌++◌, length, slice_index, set, take, arith, refl, ap, ◌∙◌, length-append, w32}
use Rattle.std.specs.Int.{to_be_bytes}
use Rattle.std.proofs.lemmas.List.{length-map}
use Rattle.sha2.proofs.Absorbing512.{IsAbsorbed_fill, IsAbsorbed_short}
use Rattle.sha2.specs.Sha512.{IsAbsorbed, compress, initial_hash_512}
use Rattle.slh_lanes.specs.Columns.{column}
use Rattle.slh_lanes.specs.Streams.{HoldsLongAt, half_on, long_vectors, vectors}
use Rattle.slh_lanes.specs.declared.words.Vector.{Vector}
use Rattle.slh_lanes.proofs.Columns.{vector_set}
use Rattle.slh_lanes.proofs.Streams.{pushed_full, pushed_short}
use Rattle.slh_lanes.proofs.long_stream.LongStream.push.Goals as goal

pub returns-then-used-eq32 : goal.returns-then-used-eq32
unfolding HoldsLongAt
returns-then-used-eq32 c = λ j lane m held.
    let v : Vector = record { words = c.args.word } in
    let old : List Vector = c.args.self.now.words in
    let ws : List ℕ = column j (vectors old) in
    let w : ℕ = slice_index c.args.word j in
    let d : List ℕ = to_be_bytes w32 w in
    let all : length (m ++ d) ≡ length m + 4 = length-append m d in
    let used = c.if-used-eq32.true in
    let at : length m % 128 + 2 ≡ 128 = omega (arith, used, held.0, held.1) in
    let count : length old ≡ 33 = omega arith in
    let long : length ws ≡ 33 = length-map _ _ ∙ length-map _ _ ∙ count in
    let first : column j (vectors (set old ((c.args.self.now.len % 128 + 2) / 4) v)) ≡ set ws 32 w =
    vector_set j old _ v ∙ ap (λ (k : ℕ). set ws k w) used in
    let words : column j (vectors (set c.take_block.new.self.words 0 v)) ≡ set (set ws 32 w) 0 w =
    vector_set j c.take_block.new.self.words 0 v
    ∙ ap (λ (l : List ℕ). set l 0 w) (ap (λ (l : List Vector). column j (vectors l)) c.take_block.ensures.words ∙ first) in
    let state = c.take_block.ensures.state j lane
    ∙ ap (λ (l : List ℕ). compress (column j (long_vectors c.args.self.now.state)) (take 128 (half_on l 33))) first in
    let taken = pushed_full 32 128 IsAbsorbed compress refl (omega arith) IsAbsorbed_short IsAbsorbed_fill (λ k end. omega (arith, end)) initial_hash_512 (column j (long_vectors c.args.self.now.state)) ws w m held.2 at long in (
      omega (arith, c.take_block.ensures.len, held.0, all),
      omega (arith, held.1, all),
      (state ∙ taken.0, ap (λ (l : List ℕ). take (length (m ++ d) % 128) (half_on l 33)) words ∙ taken.1),
    )

pub returns-else-used-eq32 : goal.returns-else-used-eq32
unfolding HoldsLongAt
returns-else-used-eq32 c = λ j lane m held.
    let v : Vector = record { words = c.args.word } in
    let old : List Vector = c.args.self.now.words in
    let ws : List ℕ = column j (vectors old) in
    let w : ℕ = slice_index c.args.word j in
    let d : List ℕ = to_be_bytes w32 w in
    let u : ℕ = (c.args.self.now.len % 128 + 2) / 4 in
    let all : length (m ++ d) ≡ length m + 4 = length-append m d in
    let at : length m % 128 + 2 ≡ 4 * u = omega (arith, held.0, held.1) in
    let short : u < 32 = omega (arith, at, c.if-used-eq32.false) in
    let count : length old ≡ 33 = omega arith in
    let long : length ws ≡ 33 = length-map _ _ ∙ length-map _ _ ∙ count in
    let words : column j (vectors (set old u v)) ≡ set ws u w = vector_set j old u v in
    let taken = pushed_short 32 128 IsAbsorbed compress refl (omega arith) IsAbsorbed_short IsAbsorbed_fill (λ k end. omega (arith, end)) initial_hash_512 (column j (long_vectors c.args.self.now.state)) ws w u m held.2 at short long in (
      omega (arith, held.0, all),
      omega (arith, held.1, all),
      (taken.0, ap (λ (l : List ℕ). take (length (m ++ d) % 128) (half_on l 33)) words ∙ taken.1),
    )
