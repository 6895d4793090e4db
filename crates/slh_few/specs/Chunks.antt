-- Byte strings made of chunks: ours.
use Rattle.std.specs.Prelude.{◌≡◌, ℕ, zero, suc, ◌*◌, ◌<◌, List, [], ◌++◌, take, drop}

-- chunk 0 ‖ chunk 1 ‖ .. ‖ chunk (count - 1)
unfoldable pub end_to_end : (ℕ → List ℕ) → ℕ → List ℕ
end_to_end chunk zero = []
end_to_end chunk (suc count) = end_to_end chunk count ++ chunk count

-- chunk c of the bytes, which are chunks of one size
abbrev pub chunk : ℕ → List ℕ → ℕ → List ℕ
chunk size bytes c = take size (drop (c * size) bytes)

-- the first chunks of the bytes
abbrev pub HasChunks : ℕ → List ℕ → (ℕ → List ℕ) → ℕ → Type 0
HasChunks size bytes chunks count = (c : ℕ) → c < count → chunk size bytes c ≡ chunks c
