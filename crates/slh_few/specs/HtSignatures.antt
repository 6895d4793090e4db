-- Eight hypertree signatures under one set: ours, over FIPS 205, section 7.2.
use Rattle.std.specs.Prelude.{◌≡◌, ℕ, ◌*◌, ◌^◌, ◌<◌, List, length, slice_index_or}
use Rattle.slh_params.specs.ParamSet.{params}
use Rattle.slh_params.specs.declared.param_set.ParamSet.{ParamSet}
use Rattle.slh_lanes.specs.LaneSeeds.{HasSeedAt}
use Rattle.slh_lanes.specs.Lanes.{value_at}
use Rattle.slh_lanes.specs.declared.lane_seeds.LaneSeeds.{LaneSeeds}
use Rattle.slh_few.specs.Hypertree.{ht_root_from_sig, layer_place, root_below}
use Rattle.slh_few.specs.Xmss.{xmss_sig_len}
use Rattle.slh_few.specs.declared.hypertree.HtSignature.{HtSignature}
use Rattle.slh_few.specs.declared.place.Place.{Place}

-- the signature is under this set: its leaf is one of a tree, and its message and bytes have the set's lengths
abbrev pub IsUnder : ParamSet → HtSignature → Type 0
IsUnder set x =
    let p = params set in
    (x.context.now.set ≡ set) × (x.idx_leaf < 2 ^ p.hp) × (length x.msg.now.items ≡ p.n) × (length x.sig.now ≡ p.d * xmss_sig_len p)

-- its PK.seed
abbrev pub pk_seed_of : HtSignature → List ℕ
pk_seed_of x = x.context.now.pk_seed.now

-- the place whose key signs on layer l
abbrev pub place_at : ParamSet → HtSignature → ℕ → Place
place_at set x l = layer_place (params set) x.idx_tree x.idx_leaf l

-- the root below layer l that it gives
abbrev pub root_under : ParamSet → HtSignature → ℕ → List ℕ
root_under set x l = root_below (params set) (pk_seed_of x) x.msg.now.items x.idx_tree x.idx_leaf x.sig.now l

-- the root of the top tree that it gives
abbrev pub top_root : ParamSet → HtSignature → List ℕ
top_root set x = ht_root_from_sig (params set) (pk_seed_of x) x.msg.now.items x.idx_tree x.idx_leaf x.sig.now

-- all eight are under this set
abbrev pub AreUnder : ParamSet → List HtSignature → Type 0
AreUnder set signed = (j : ℕ) (x : HtSignature) → j < 8 → IsUnder set (slice_index_or signed j x)

-- the midstates in each lane are those of the PK.seed
abbrev pub AreSeedsOf : ParamSet → List HtSignature → LaneSeeds → Type 0
AreSeedsOf set signed seeds = (params seeds.set ≡ params set)
    × ((j : ℕ) (x : HtSignature) → j < 8 → HasSeedAt seeds j (pk_seed_of (slice_index_or signed j x)))

-- the places are those of layer l
abbrev pub ArePlacesAt : ParamSet → List HtSignature → ℕ → List Place → Type 0
ArePlacesAt set signed l places = (j : ℕ) (x : HtSignature) (at : Place) → j < 8
    → slice_index_or places j at ≡ place_at set (slice_index_or signed j x) l

-- the lanes have the roots below layer l
abbrev pub AreRootsUnder : ParamSet → List HtSignature → ℕ → List (List ℕ) → Type 0
AreRootsUnder set signed l nodes = (j : ℕ) (x : HtSignature) → j < 8
    → value_at nodes j (params set).n ≡ root_under set (slice_index_or signed j x) l
