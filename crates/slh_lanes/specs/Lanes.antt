-- The values of eight lanes: ours, over FIPS 205, sections 4.2 and 11.2.
use Rattle.std.specs.Prelude.{◌≡◌, ℕ, List, [], get_or, take}
use Rattle.sha2.specs.Sha256.{digest_bytes}
use Rattle.slh_params.specs.Address.{Address, compressed}
use Rattle.slh_lanes.specs.Columns.{column}

-- lane j of six vectors has this address: its 22 bytes, and two more that are not read
unfoldable pub HasAddress : List (List ℕ) → ℕ → Address → Type 0
HasAddress adrs j a = take 22 (digest_bytes (column j adrs) 6) ≡ compressed a

-- the first n bytes of the value in lane j of eight vectors
unfoldable pub value_at : List (List ℕ) → ℕ → ℕ → List ℕ
value_at x j n = take n (digest_bytes (column j x) 8)

-- group g of a batch
abbrev pub group : {A : Type 0} → List (List A) → ℕ → List A
group batch g = get_or batch g []
