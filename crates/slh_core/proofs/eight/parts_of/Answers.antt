-- Each part gives the root of its item.
use Rattle.std.proofs.Common.{◌≡◌, ℕ, ◌<◌, List, [], ◌∷◌, length, slice_index_or, subst, arith}
use Rattle.std.proofs.lemmas.List.{get_or_default}
use Rattle.slh_params.specs.declared.param_set.ParamSet.{ParamSet}
use Rattle.slh_lanes.proofs.Lanes8.{below_eight}
use Rattle.slh_core.specs.EightSignatures.{Gives, root_of}
use Rattle.slh_core.specs.declared.eight.HtPart.{HtPart}
use Rattle.slh_core.specs.declared.eight.SignedParts.{SignedParts}
use Rattle.slh_core.proofs.eight.parts_of.Goals as goal

-- what each part gives, where it was made of an item of the set
given : (set : ParamSet) (items : List SignedParts) (first : SignedParts) (k : ℕ) (y : SignedParts) (r : HtPart) → k < length items
    → (slice_index_or items k y).pk.now.set ≡ set → Gives (slice_index_or items k y).pk.now.set (root_of (slice_index_or items k y)) r
    → Gives set (root_of (slice_index_or items k first)) r
given set items first k y r below same made =
    let own = get_or_default items k y first below in
    subst (λ (z : SignedParts). Gives set (root_of z) r) own (subst (λ (s : ParamSet). Gives s (root_of (slice_index_or items k y)) r) same made)

pub returns : goal.returns
returns c = λ set first are j r lane.
    let items = c.args.items.now in
    let all : List HtPart = c.of.result ∷ c.of-2.result ∷ c.of-3.result ∷ c.of-4.result ∷ c.of-5.result ∷ c.of-6.result ∷ c.of-7.result ∷ c.of-8.result ∷ [] in
    let own = λ (k : ℕ) (y : SignedParts) (below : k < 8) (p : HtPart) (made : Gives (slice_index_or items k y).pk.now.set (root_of (slice_index_or items k y)) p).
    given set items first k y p (omega (arith, below, c.told-items)) (are k y below).0 made in
    below_eight (λ k. Gives set (root_of (slice_index_or items k first)) (slice_index_or all k r))
    (own 0 c.index-items-0.result (omega arith) c.of.result c.of.ensures)
    (own 1 c.index-items-1.result (omega arith) c.of-2.result c.of-2.ensures)
    (own 2 c.index-items-2.result (omega arith) c.of-3.result c.of-3.ensures)
    (own 3 c.index-items-3.result (omega arith) c.of-4.result c.of-4.ensures)
    (own 4 c.index-items-4.result (omega arith) c.of-5.result c.of-5.ensures)
    (own 5 c.index-items-5.result (omega arith) c.of-6.result c.of-6.ensures)
    (own 6 c.index-items-6.result (omega arith) c.of-7.result c.of-7.ensures)
    (own 7 c.index-items-7.result (omega arith) c.of-8.result c.of-8.ensures) j lane
