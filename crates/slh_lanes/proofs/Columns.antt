-- The columns of lists of vectors.
use Rattle.std.proofs.Common.{◌≡◌, ℕ, ◌<◌, List, [], ◌∷◌, length, slice_index, slice_index_or, slice_set, set, refl, ap, ◌∙◌}
use Rattle.std.proofs.Math.ListN.{get_or-map}
use Rattle.std.proofs.lemmas.List.{get_or-map as get_or-map-below, map-set}
use Rattle.slh_lanes.proofs.Lanes8.{below_eight}
use Rattle.slh_lanes.specs.Columns.{column, lane_column}
use Rattle.slh_lanes.specs.Streams.{vectors}
use Rattle.slh_lanes.specs.declared.words.Vector.{Vector}

-- word k of column j
pub column_at : (j : ℕ) (x : List (List ℕ)) (k : ℕ) → slice_index (column j x) k ≡ slice_index (slice_index_or x k []) j
column_at j x k = get_or-map (λ (v : List ℕ). slice_index v j) x k []

-- one vector written
pub column_set : (j : ℕ) (x : List (List ℕ)) (k : ℕ) (v : List ℕ) → column j (set x k v) ≡ slice_set (column j x) k (slice_index v j)
column_set j x k v = map-set (λ (v : List ℕ). slice_index v j) x k v

pub splat_lane : (k j : ℕ) → j < 8 → slice_index (k ∷ k ∷ k ∷ k ∷ k ∷ k ∷ k ∷ k ∷ []) j ≡ k
splat_lane k = below_eight (λ j. slice_index (k ∷ k ∷ k ∷ k ∷ k ∷ k ∷ k ∷ k ∷ []) j ≡ k) refl refl refl refl refl refl refl refl

-- word k of column j of vectors in structs
pub vector_at : (j : ℕ) (vs : List Vector) (k : ℕ) → slice_index (column j (vectors vs)) k ≡ slice_index ((slice_index_or vs k (record { words = [] })).words) j
vector_at j vs k =
    column_at j (vectors vs) k ∙ ap (λ (v : List ℕ). slice_index v j) (get_or-map (λ (v : Vector). v.words) vs k (record { words = [] }))

-- one of them written
pub vector_set : (j : ℕ) (vs : List Vector) (k : ℕ) (v : Vector) → column j (vectors (set vs k v)) ≡ slice_set (column j (vectors vs)) k (slice_index v.words j)
vector_set j vs k v = ap (column j) (map-set (λ (v : Vector). v.words) vs k v) ∙ column_set j (vectors vs) k v.words

-- word k of column j of vectors of another kind
pub lane_column_at : {V : Type 0} (lane : V → ℕ → ℕ) (j : ℕ) (x : List V) (k : ℕ) (d : V) → k < length x
    → slice_index (lane_column lane j x) k ≡ lane (slice_index_or x k d) j
lane_column_at {V} lane j x k d lt = get_or-map-below (λ (v : V). lane v j) x k d 0 lt

-- one of them written
pub lane_column_set : {V : Type 0} (lane : V → ℕ → ℕ) (j : ℕ) (x : List V) (k : ℕ) (v : V)
    → lane_column lane j (set x k v) ≡ slice_set (lane_column lane j x) k (lane v j)
lane_column_set {V} lane j x k v = map-set (λ (v : V). lane v j) x k v
