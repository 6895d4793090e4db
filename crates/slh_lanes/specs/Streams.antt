-- The states of eight streams of SHA-256 or SHA-512, one in each lane: ours.
use Rattle.std.specs.Prelude.{◌≡◌, ℕ, ◌%◌, ◌^◌, List, drop, length, map}
use Rattle.sha2.specs.Sha256.{IsAbsorbed, digest_bytes, initial_hash_256}
use Rattle.sha2.specs.Sha512.{IsAbsorbed as IsLongAbsorbed, initial_hash_512}
use Rattle.slh_lanes.specs.Columns.{column}
use Rattle.slh_lanes.specs.declared.words.Vector.{Vector}
use Rattle.slh_lanes.specs.declared.short_stream.ShortStream.{ShortStream}
use Rattle.slh_lanes.specs.declared.long_stream.LongStream.{LongStream}
use Rattle.slh_lanes.specs.declared.long_words.LongVector.{LongVector}

-- the vectors of a list
abbrev pub vectors : List Vector → List (List ℕ)
vectors vs = map (λ (v : Vector). v.words) vs

abbrev pub long_vectors : List LongVector → List (List ℕ)
long_vectors vs = map (λ (v : LongVector). v.words) vs

-- the bytes of n words but the first two
abbrev pub half_on : List ℕ → ℕ → List ℕ
half_on ws n = drop 2 (digest_bytes ws n)

-- lane j of the stream has absorbed the message m, which ends in the middle of a word
unfoldable pub HoldsAt : ShortStream → ℕ → List ℕ → Type 0
HoldsAt s j m =
    (s.len ≡ length m % 2 ^ 32) × (length m % 4 ≡ 2)
    × IsAbsorbed initial_hash_256 (column j (vectors s.state)) (half_on (column j (vectors s.words)) 17) m

-- the same of a stream of SHA-512
unfoldable pub HoldsLongAt : LongStream → ℕ → List ℕ → Type 0
HoldsLongAt s j m =
    (s.len ≡ length m % 2 ^ 32) × (length m % 4 ≡ 2)
    × IsLongAbsorbed initial_hash_512 (column j (long_vectors s.state)) (half_on (column j (vectors s.words)) 33) m
