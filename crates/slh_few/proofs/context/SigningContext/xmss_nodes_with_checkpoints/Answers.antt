-- Where eight leaves are made at once, the key at the place is in its lane.
use Rattle.std.proofs.Common.{◌≡◌, ℕ, ◌+◌, List, [], ◌∷◌, ◌++◌, length, slice_index_or, ap, subst, ◌∙◌, arith}
use Rattle.arrayvec.specs.ArrayVec.{ArrayVec}
use Rattle.slh_params.specs.Params.{len}
use Rattle.slh_params.specs.ParamSet.{params}
use Rattle.slh_few.specs.KeyCheckpoints.{chain_checkpoints, key_checkpoints}
use Rattle.slh_few.specs.KeyStreams.{key_at}
use Rattle.slh_few.specs.Chunks.{end_to_end}
use Rattle.slh_few.specs.Wots.{wots_pk}
use Rattle.slh_few.specs.Xmss.{place, xmss_tree}
use Rattle.slh_few.specs.declared.place.Place.{Place}
use Rattle.slh_few.proofs.EightKeys.{among_eight}
use Rattle.slh_few.proofs.context.SigningContext.xmss_nodes_with_checkpoints.Goals as goal

pub xmss_nodes_knowing-requires : goal.xmss_nodes_knowing-requires
xmss_nodes_knowing-requires c = rw (c.lanes.ensures.set, c.lanes.ensures.pk_seed) at c.eight_keys-group.ensures.keys

-- the only leaf that is known is that of the key
pub xmss_nodes_knowing-requires-else-has_eight_in_range : goal.xmss_nodes_knowing-requires-else-has_eight_in_range
xmss_nodes_knowing-requires-else-has_eight_in_range c = λ j d lt.
    let p = params c.args.self.now.public.set in
    let sk = c.args.self.now.sk_seed.now in
    let pk = c.args.self.now.public.pk_seed.now in
    let at = c.args.at in
    let key = c.wots_pk_with_checkpoints.result in
    let known = c.push.new.self.items in
    let one : known ≡ key ∷ [] = c.push.ensures.items ∙ ap (λ (xs : List (ArrayVec ℕ)). xs ++ (key ∷ [])) c.new-known.ensures in
    let size : length known ≡ 1 = ap length one in
    let first : 0 ≡ j = omega (arith, lt, size) in
    let here : at.pair ≡ at.pair + 0 = omega arith in
    subst (λ (k : ℕ). (slice_index_or known k d).items ≡ wots_pk p sk pk (place at.layer at.tree (at.pair + k))) first
    (ap (λ (xs : List (ArrayVec ℕ)). (slice_index_or xs 0 d).items) one ∙ c.wots_pk_with_checkpoints.ensures.value
    ∙ ap (λ (k : ℕ). wots_pk p sk pk (place at.layer at.tree k)) here)

pub returns-then-has_eight_in_range-clause-tree : goal.returns-then-has_eight_in_range-clause-tree
returns-then-has_eight_in_range-clause-tree c =
    c.xmss_nodes_knowing.ensures
    ∙ ap (λ (a : Place). xmss_tree (params c.args.self.now.public.set) c.args.self.now.sk_seed.now c.args.self.now.public.pk_seed.now a.layer a.tree) c.first_of_eight-first.ensures

pub returns-then-has_eight_in_range-clause-checkpoints : goal.returns-then-has_eight_in_range-clause-checkpoints
unfolding key_checkpoints
returns-then-has_eight_in_range-clause-checkpoints c =
    let p = params c.args.self.now.public.set in
    let first = c.first_of_eight-first.result in
    let key = ap (key_at first) c.lane_among_eight-lane.ensures ∙ among_eight c.args.at first c.first_of_eight-first.ensures in
    (rw (c.lanes.ensures.set, c.lanes.ensures.pk_seed) at c.eight_keys-group.ensures.stored)
    ∙ ap (λ (a : Place). end_to_end (chain_checkpoints p c.args.self.now.sk_seed.now c.args.self.now.public.pk_seed.now a) (len p)) key
