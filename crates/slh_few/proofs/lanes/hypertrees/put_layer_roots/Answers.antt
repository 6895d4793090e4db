-- T of the ends is the leaf from which the path climbs.
use Rattle.std.proofs.Common.{[], List, drop, slice_index_or, ap, ◌∙◌}
use Rattle.slh_params.specs.Address.{WOTS_PK}
use Rattle.slh_params.specs.ParamSet.{params}
use Rattle.slh_hash.specs.Hash.{T}
use Rattle.slh_tree.specs.Climb.{climb}
use Rattle.slh_few.specs.Chunks.{chunk}
use Rattle.slh_few.specs.HtSignatures.{pk_seed_of}
use Rattle.slh_few.specs.Wots.{wots_address, wots_pk_from_sig}
use Rattle.slh_few.specs.Xmss.{wots_sig_len, xmss_pk_from_sig, xmss_sig_len, xmss_tree}
use Rattle.slh_few.proofs.lanes.hypertrees.put_layer_roots.Goals as goal

pub returns : goal.returns
unfolding xmss_pk_from_sig wots_pk_from_sig
returns c = λ done j x at lane.
    let p = params c.args.set in
    let y = slice_index_or c.args.signed.now j x in
    let pk : List _ = pk_seed_of y in
    let here = slice_index_or c.args.places.now j at in
    let sig : List _ = chunk (xmss_sig_len p) y.sig.now c.args.layer in
    let seed = c.requires.seeds.1 j x lane in
    let ends = c.if-not-put_all_ends.ensures done j x at [] lane in
    c.climbed.ensures j x at pk lane seed
    ∙ ap (λ (v : List _). climb (xmss_tree p [] pk here.layer here.tree) here.pair v (drop (wots_sig_len p) sig))
    (c.compressed-leaves.ensures j pk at [] lane seed ∙ ap (T p pk (wots_address here WOTS_PK 0 0)) ends)
