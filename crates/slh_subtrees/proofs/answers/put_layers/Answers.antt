-- After each layer the first parts of the hypertree signature are written, and the next layer signs this one's root.
use Rattle.std.proofs.Common.{◌≡◌, ℕ, ◌+◌, ◌*◌, ◌<◌, ◌++◌, List, length, take, refl, ap, sym, ◌∙◌, add-one, arith}
use Rattle.slh_params.specs.ParamSet.{params}
use Rattle.slh_few.specs.Xmss.{xmss_sig_len}
use Rattle.slh_few.proofs.Ends.{end_to_end-none, writes-more, chunk_fits, written_all}
use Rattle.slh_subtrees.specs.SigningTrees.{source_of}
use Rattle.slh_subtrees.specs.Assembled.{signed_by, layer_part_by}
use Rattle.slh_subtrees.proofs.answers.put_layers.Goals as goal

pub put_layer_part-msg-requires-clause-out : goal.put_layer_part-msg-requires-clause-out
put_layer_part-msg-requires-clause-out g c =
    let p = params c.args.trees.now.signer.now.public.set in
    let b : c.loop-layer.layer < p.d = omega (arith, c.d-layer-end.ensures) in
    let q : length c.loop-layer.out ≡ p.d * xmss_sig_len p = omega (arith, c.requires.out) in
    rw c.xmss_sig_len-size.ensures.value (chunk_fits c.loop-layer.layer p.d (xmss_sig_len p) (length c.loop-layer.out) b q)

pub loop-layer-init : goal.loop-layer-init
loop-layer-init g c =
    let zero : 0 * xmss_sig_len (params c.args.trees.now.signer.now.public.set) ≡ 0 = omega arith in (
      c.copy_of-msg.ensures ∙ c.requires.pk_fors,
      ap length c.copy_of-msg.ensures ∙ c.requires.len,
      ap (λ k. take k c.args.out.now) zero ∙ sym (end_to_end-none _),
    )

pub loop-layer-preserved : goal.loop-layer-preserved
loop-layer-preserved g c =
    let s = source_of c.args.trees.now in
    let a = g.A.Answers.says c.args.answers.now in
    let n = xmss_sig_len (params s.set) in
    let l = c.loop-layer.layer in
    let msg : List ℕ = c.loop-layer.msg.items in
    let part : ℕ → List ℕ = λ i. layer_part_by s a i (signed_by s a i) in
    let own : layer_part_by s a l msg ≡ part l = ap (layer_part_by s a l) c.loop-layer.invariant.0 in
    let size : length (part l) ≡ n = ap length (sym own) ∙ c.put_layer_part-msg.ensures.part_len in
    let put : take (l * n + n) c.put_layer_part-msg.new.out ≡ take (l * n) c.loop-layer.out ++ part l =
    rw c.xmss_sig_len-size.ensures.value at c.put_layer_part-msg.ensures.part ∙ ap (λ ys. take (l * n) c.loop-layer.out ++ ys) own in (
      rw (add-one l) c.put_layer_part-msg.ensures.root,
      c.put_layer_part-msg.ensures.len,
      writes-more part l n c.loop-layer.out c.put_layer_part-msg.new.out (part l) refl size c.loop-layer.invariant.2 (ap (λ k. take (l * n + k) c.put_layer_part-msg.new.out) size ∙ put),
    )

pub returns : goal.returns
returns g c =
    let p = params c.args.trees.now.signer.now.public.set in
    written_all _ p.d (xmss_sig_len p) c.loop-layer.layer c.loop-layer.out (omega (arith, c.d-layer-end.ensures)) (omega (arith, c.requires.out)) c.loop-layer.invariant.2
