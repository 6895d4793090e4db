-- What the loop keeps: the parts of the layers so far are written.
use Rattle.std.proofs.Common.{◌≡◌, ◌*◌, take}
use Rattle.slh_few.specs.Chunks.{end_to_end}
use Rattle.slh_few.specs.Xmss.{xmss_sig_len}
use Rattle.slh_subtrees.specs.Assembled.{signed_by, layer_part_by}
use Rattle.slh_jobs.specs.AllAnswers.{params_in, source_in, answers_in}
use Rattle.slh_jobs.proofs.joining.Judged.put_layers.Given as goal

abbrev pub invariant-loop-layer : goal.invariant-loop-layer
invariant-loop-layer v =
    let x = v.self.answered.now in
    let s = source_in x in
    let a = answers_in x in
    take (v.layer * xmss_sig_len (params_in x)) v.out ≡ end_to_end (λ l. layer_part_by s a l (signed_by s a l)) v.layer
