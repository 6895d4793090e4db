-- After each layer one part more of the hypertree signature is written.
use Rattle.std.proofs.Common.{◌≡◌, ℕ, ◌+◌, ◌*◌, ◌<◌, ◌++◌, List, length, take, refl, ap, sym, ◌∙◌, arith}
use Rattle.slh_few.specs.Xmss.{xmss_sig_len}
use Rattle.slh_few.proofs.Ends.{end_to_end-none, writes-more, chunk_fits, written_all}
use Rattle.slh_subtrees.specs.Assembled.{signed_by, layer_part_by}
use Rattle.slh_jobs.specs.AllAnswers.{params_in, source_in, answers_in}
use Rattle.slh_jobs.proofs.joining.Judged.put_layers.Goals as goal

pub put_layer_at-requires-clause-out : goal.put_layer_at-requires-clause-out
put_layer_at-requires-clause-out c =
    let p = params_in c.args.self.now.answered.now in
    let b : c.loop-layer.layer < p.d = omega (arith, c.d-layer-end.ensures) in
    let q : length c.loop-layer.out ≡ p.d * xmss_sig_len p = omega (arith, c.requires) in
    rw c.xmss_sig_len-size.ensures.value (chunk_fits c.loop-layer.layer p.d (xmss_sig_len p) (length c.loop-layer.out) b q)

pub loop-layer-init : goal.loop-layer-init
loop-layer-init c =
    let zero : 0 * xmss_sig_len (params_in c.args.self.now.answered.now) ≡ 0 = omega arith in
    ap (λ k. take k c.args.out.now) zero ∙ sym (end_to_end-none _)

pub loop-layer-preserved : goal.loop-layer-preserved
loop-layer-preserved c =
    let x = c.args.self.now.answered.now in
    let s = source_in x in
    let a = answers_in x in
    let n = xmss_sig_len (params_in x) in
    let l = c.loop-layer.layer in
    let part : ℕ → List ℕ = λ i. layer_part_by s a i (signed_by s a i) in
    let size : length (part l) ≡ n = c.put_layer_at.ensures.part_len in
    let put : take (l * n + n) c.put_layer_at.new.out ≡ take (l * n) c.loop-layer.out ++ part l = rw c.xmss_sig_len-size.ensures.value at c.put_layer_at.ensures.part in
    writes-more part l n c.loop-layer.out c.put_layer_at.new.out (part l) refl size c.loop-layer.invariant (ap (λ k. take (l * n + k) c.put_layer_at.new.out) size ∙ put)

pub returns : goal.returns
returns c =
    let p = params_in c.args.self.now.answered.now in
    written_all _ p.d (xmss_sig_len p) c.loop-layer.layer c.loop-layer.out (omega (arith, c.d-layer-end.ensures)) (omega (arith, c.requires)) c.loop-layer.invariant
