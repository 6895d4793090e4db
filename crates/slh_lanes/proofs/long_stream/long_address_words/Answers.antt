use Rattle.std.proofs.Common.{◌≡◌, ℕ, List, length, slice_index, arith, ap, ◌∙◌}
use Rattle.std.proofs.lemmas.List.{get_or_append_left, length-map, map-append}
use Rattle.slh_lanes.specs.Columns.{column}
use Rattle.slh_lanes.specs.Streams.{half_on, vectors}
use Rattle.slh_lanes.specs.declared.words.Vector.{Vector}
use Rattle.slh_lanes.proofs.Streams.{half_same}
use Rattle.slh_lanes.proofs.long_stream.long_address_words.Goals as goal

pub returns : goal.returns
returns c j lane = λ a held.
    let v : List Vector = c.copy_from_slice.new.self in
    let count : length v ≡ 17 = omega (arith, c.copy_from_slice.ensures.len) in
    let long : length (column j (vectors v)) ≡ 17 = length-map _ _ ∙ length-map _ _ ∙ count in
    half_same _ (column j (vectors v)) 6 (λ k lt.
    ap (λ (l : List (List ℕ)). slice_index (column j l) k) (map-append (λ (w : Vector). w.words) v _)
    ∙ ap (λ (l : List ℕ). slice_index l k) (map-append (λ (w : List ℕ). slice_index w j) (vectors v) _)
    ∙ get_or_append_left (column j (vectors v)) _ 0 k (omega (arith, long)))
    ∙ ap (λ (l : List Vector). half_on (column j (vectors l)) 6) c.copy_from_slice.ensures.after
    ∙ c.address_words.ensures j lane a held
