-- After each layer the first parts of the signature are written, and the node is what the next layer signs.
use Rattle.std.proofs.Common.{◌≡◌, ℕ, List, ◌+◌, ◌-◌, ◌*◌, ◌<◌, ◌++◌, length, take, ap, sym, ◌∙◌, arith}
use Rattle.slh_params.specs.ParamSet.{params}
use Rattle.slh_params.specs.declared.param_set.ParamSet.{ParamSet}
use Rattle.slh_few.specs.declared.place.Place.{Place}
use Rattle.slh_few.specs.Xmss.{xmss_sig_len, xmss_sig}
use Rattle.slh_few.specs.Hypertree.{place_above, layer_place, signed_at, layer_sig, ht_sig, ht_root_from_sig}
use Rattle.slh_few.specs.Chunks.{end_to_end}
use Rattle.slh_few.proofs.Sizes.{top_layer}
use Rattle.slh_few.proofs.Ends.{end_to_end-none, writes-more, chunk_fits, written_all}
use Rattle.slh_few.proofs.Layers.{layer_place-start, layer_place-more}
use Rattle.slh_few.proofs.XmssLaw.{length-xmss_sig}
use Rattle.slh_few.proofs.HtLaw.{signed_at-start, layer_made, layer_root, ht_root_from_sig-ht_sig}
use Rattle.slh_few.proofs.context.SigningContext.ht_sign.Goals as goal

pub loop-layer-init : goal.loop-layer-init
loop-layer-init c =
    let p = params c.args.self.now.public.set in
    let zero : 0 * xmss_sig_len p ≡ 0 = omega arith in
    record {
      place = layer_place-start p c.args.idx_tree c.args.idx_leaf;
      pair = c.requires.leaf;
      root = c.copy_of-root.ensures ∙ signed_at-start p c.args.self.now.sk_seed.now c.args.self.now.public.pk_seed.now c.args.msg.now.items c.args.idx_tree c.args.idx_leaf;
      len = ap length c.copy_of-root.ensures ∙ c.requires.msg;
      done = ap (λ k. take k c.args.out.now) zero ∙ sym (end_to_end-none _);
    }

pub sign_layer-root-requires-clause-out : goal.sign_layer-root-requires-clause-out
sign_layer-root-requires-clause-out c =
    let p = params c.args.self.now.public.set in
    let b : c.loop-layer.layer < p.d = omega (arith, c.d.ensures) in
    let q : length c.loop-layer.out ≡ p.d * xmss_sig_len p = omega (arith, c.requires.out) in
    rw c.xmss_sig_len-size.ensures.value (chunk_fits c.loop-layer.layer p.d (xmss_sig_len p) (length c.loop-layer.out) b q)

-- a layer's signature, put after those of the layers below
layer_put : (s : ParamSet) (sk pk m : List ℕ) (t i l : ℕ) (at : Place) (x out new : List ℕ)
    → at ≡ layer_place (params s) t i l → x ≡ signed_at (params s) sk pk m t i l
    → take (l * xmss_sig_len (params s)) out ≡ end_to_end (layer_sig (params s) sk pk m t i) l
    → take (l * xmss_sig_len (params s) + xmss_sig_len (params s)) new ≡ take (l * xmss_sig_len (params s)) out ++ xmss_sig (params s) sk pk at x
    → take ((l + 1) * xmss_sig_len (params s)) new ≡ end_to_end (layer_sig (params s) sk pk m t i) (l + 1)
layer_put s sk pk m t i l at x out new ea ex below put =
    let p = params s in
    let size = length-xmss_sig s sk pk at x in
    writes-more (layer_sig p sk pk m t i) l (xmss_sig_len p) out new (xmss_sig p sk pk at x)
    (layer_made p sk pk m t i l at x ea ex) size below (ap (λ k. take (l * xmss_sig_len p + k) new) size ∙ put)

pub loop-layer-preserved : goal.loop-layer-preserved
loop-layer-preserved c =
    let s = c.args.self.now.public.set in
    let now = c.loop-layer.invariant in
    record {
      place = c.place_above-at.ensures.place ∙ ap (λ a. place_above (params s) a (c.loop-layer.layer + 1)) now.place ∙ layer_place-more _ _ _ _;
      pair = c.place_above-at.ensures.pair;
      root = c.sign_layer-root.ensures.root ∙ layer_root _ _ _ _ _ _ _ _ _ now.place now.root;
      len = c.sign_layer-root.ensures.len;
      done = layer_put s _ _ _ _ _ _ _ _ _ _ now.place now.root now.done (rw c.xmss_sig_len-size.ensures.value at c.sign_layer-root.ensures.written);
    }

pub put_layer-requires-clause-out : goal.put_layer-requires-clause-out
put_layer-requires-clause-out c =
    let s = c.args.self.now.public.set in
    let p = params s in
    let e : c.d.result - 1 ≡ c.loop-layer.layer = omega arith in
    let b : c.loop-layer.layer < p.d = omega (arith, c.d.ensures, top_layer s, e) in
    let q : length c.loop-layer.out ≡ p.d * xmss_sig_len p = omega (arith, c.requires.out) in
    rw (e, c.xmss_sig_len-size.ensures.value) (chunk_fits c.loop-layer.layer p.d (xmss_sig_len p) (length c.loop-layer.out) b q)

pub returns-clause-signature : goal.returns-clause-signature
unfolding ht_sig
returns-clause-signature c =
    let s = c.args.self.now.public.set in
    let p = params s in
    let l = c.loop-layer.layer in
    let now = c.loop-layer.invariant in
    let e : c.d.result - 1 ≡ l = omega arith in
    let all : l + 1 ≡ p.d = omega (arith, c.d.ensures, top_layer s, e) in
    written_all _ p.d (xmss_sig_len p) (l + 1) c.put_layer.new.out all (omega (arith, c.requires.out))
    (layer_put s _ _ _ _ _ _ _ _ _ _ now.place now.root now.done (rw (e, c.xmss_sig_len-size.ensures.value) at c.put_layer.ensures))

pub returns-clause-key : goal.returns-clause-key
returns-clause-key c =
    let s = c.args.self.now.public.set in
    let p = params s in
    let sk = c.args.self.now.sk_seed.now in
    let pk = c.args.self.now.public.pk_seed.now in
    ap (ht_root_from_sig p pk c.args.msg.now.items c.args.idx_tree c.args.idx_leaf) (returns-clause-signature c)
    ∙ ht_root_from_sig-ht_sig s sk pk c.args.msg.now.items c.args.idx_tree c.args.idx_leaf c.requires.leaf c.requires.tree
